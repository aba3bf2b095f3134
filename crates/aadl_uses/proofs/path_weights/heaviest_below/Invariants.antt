use Rattle.std.proofs.Common.{None}
use Rattle.aadl_uses.proofs.ContainmentOrderValues.{FrontOf}
use Rattle.aadl_uses.specs.proof.HeaviestPaths.{IsHeaviest}
use Rattle.aadl_uses.proofs.path_weights.heaviest_below.Given as goal

abbrev pub invariant-loop-at : goal.invariant-loop-at
invariant-loop-at l =
    FrontOf (IsHeaviest l.limit l.graph l.marks l.weights) None l.graph l.order.keys l.at l.found.items
