use Rattle.aadl_uses.specs.proof.MarkedPathCounts.{Counted}
use Rattle.aadl_uses.proofs.ContainmentOrderValues.{FrontOf}
use Rattle.aadl_uses.proofs.marked_counts.counts_below.Given as goal

abbrev pub invariant-loop-at : goal.invariant-loop-at
invariant-loop-at l = FrontOf (Counted l.limit l.graph l.marks) 0 l.graph l.order.keys l.at l.counts.items
