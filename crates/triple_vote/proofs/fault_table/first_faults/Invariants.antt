use Rattle.triple_vote.proofs.FaultTables.{IsFilled}
use Rattle.triple_vote.proofs.fault_table.first_faults.Given as goal

-- the faults from this number on are in the table
abbrev pub invariant-loop-at : goal.invariant-loop-at
invariant-loop-at l = IsFilled l.faults l.links l.places l.at
