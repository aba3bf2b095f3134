use Rattle.std.proofs.Common.{◌≡◌, ◌-◌, map, true}
use Rattle.pals_base.specs.UpwardNumbers.{upwards}
use Rattle.triple_vote.specs.VotedText.{replica_name}
use Rattle.analysis_texts.proofs.replica_names.names_of.Given as goal

-- the names so far
abbrev pub invariant-loop-replica : goal.invariant-loop-replica
invariant-loop-replica l = l.names ≡ map (replica_name l.path true) (upwards 0 (l.replica-counter - 1))
