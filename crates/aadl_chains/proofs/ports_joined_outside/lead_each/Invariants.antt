use Rattle.aadl_tree.specs.proof.PackageViews.{placed}
use Rattle.aadl_chains.proofs.JoinedOutsideByConnection.{FrontLed}
use Rattle.aadl_chains.proofs.ports_joined_outside.lead_each.Given as goal

abbrev pub invariant-loop-wire : goal.invariant-loop-wire
invariant-loop-wire l =
    FrontLed (placed l.wires.uses.names.tree.now) l.side.root l.side.direction l.number l.wire-index
    l.initial.ports l.ports
