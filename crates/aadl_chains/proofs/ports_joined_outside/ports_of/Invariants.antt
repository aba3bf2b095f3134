use Rattle.aadl_tree.specs.proof.PackageViews.{placed}
use Rattle.aadl_chains.proofs.JoinedOutsideByDeclaration.{BackLed}
use Rattle.aadl_chains.proofs.ports_joined_outside.ports_of.Given as goal

abbrev pub invariant-loop-at : goal.invariant-loop-at
invariant-loop-at l =
    BackLed (placed l.wires.uses.names.tree.now) l.side.root l.side.direction l.order.keys l.at l.ports
