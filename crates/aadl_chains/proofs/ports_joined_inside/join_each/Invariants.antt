use Rattle.aadl_tree.specs.proof.PackageViews.{placed}
use Rattle.aadl_chains.proofs.JoinedInsideByConnection.{FrontJoined}
use Rattle.aadl_chains.proofs.ports_joined_inside.join_each.Given as goal

abbrev pub invariant-loop-wire : goal.invariant-loop-wire
invariant-loop-wire l =
    FrontJoined (placed l.wires.uses.names.tree.now) l.direction l.number l.wire-index l.initial.ports l.ports
