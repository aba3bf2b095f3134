use Rattle.std.proofs.Common.{◌≡◌, take}
use Rattle.behaviour_sem.specs.proof.GroupedTransitions.{sources_of}
use Rattle.behaviour_sem.proofs.group_table.GroupTable.fits.Given as goal

-- the transitions so far leave the states of the table
abbrev pub invariant-loop-at : goal.invariant-loop-at
invariant-loop-at l = take l.at l.sources ≡ sources_of (take l.at l.transitions)
