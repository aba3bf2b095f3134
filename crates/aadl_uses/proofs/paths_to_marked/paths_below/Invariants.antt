use Rattle.std.proofs.Common.{[]}
use Rattle.aadl_uses.proofs.ContainmentOrderValues.{FrontOf}
use Rattle.aadl_uses.proofs.MarkedPathLists.{IsListedIn}
use Rattle.aadl_uses.proofs.paths_to_marked.paths_below.Given as goal

abbrev pub invariant-loop-at : goal.invariant-loop-at
invariant-loop-at l = FrontOf (IsListedIn l.graph l.marks l.used.keys) [] l.graph l.order.keys l.at l.paths
