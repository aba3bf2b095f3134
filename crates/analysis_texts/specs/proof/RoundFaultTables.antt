-- The table of the faults of each round.
use Rattle.std.specs.Prelude.{List, [], ◌∷◌, ◌++◌, slice_set, slice_index_or}
use Rattle.pals_runs.specs.declared.replica_faults.VoteFault.{VoteFault}
use Rattle.analysis_fields.specs.declared.replica_faults.RoundFault.{RoundFault}

-- one more fault, after the faults of its round, if a table of the first rounds has the round
abbrev pub with_round_fault : List (List VoteFault) → RoundFault → List (List VoteFault)
with_round_fault table f = slice_set table f.round (slice_index_or table f.round [] ++ f.fault ∷ [])
