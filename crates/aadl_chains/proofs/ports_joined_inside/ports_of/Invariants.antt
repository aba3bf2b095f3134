use Rattle.aadl_tree.specs.proof.PackageViews.{placed}
use Rattle.aadl_chains.proofs.JoinedInsideByDeclaration.{FrontInside}
use Rattle.aadl_chains.proofs.ports_joined_inside.ports_of.Given as goal

abbrev pub invariant-loop-at : goal.invariant-loop-at
invariant-loop-at l = FrontInside (placed l.wires.uses.names.tree.now) l.direction l.order.keys l.at l.ports
