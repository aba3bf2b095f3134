use Rattle.aadl_uses.proofs.MarkedPathCounts.{CountedSome}
use Rattle.aadl_uses.proofs.marked_counts.count_below.Given as goal

-- the paths that begin with the subcomponents so far
abbrev pub invariant-loop-target : goal.invariant-loop-target
invariant-loop-target l = CountedSome l.limit l.graph l.marks l.number l.target-index l.count
