use Rattle.std.proofs.Common.{◌≡◌, map, take}
use Rattle.aadl_tree.specs.proof.PlaceMaps.{kept_place}
use Rattle.aadl_tree.specs.proof.DeclarationViews.{declaration_view}
use Rattle.aadl_tree.specs.proof.PackageViews.{placed}
use Rattle.aadl_uses.specs.proof.IncomingConnections.{wires_in}
use Rattle.aadl_uses.proofs.ports_of_connections.wiring_of.Given as goal

abbrev pub invariant-loop-number : goal.invariant-loop-number
invariant-loop-number l =
    l.wiring ≡ map (wires_in (placed l.uses.names.tree.now))
    (map (declaration_view kept_place) (take l.number l.declarations))
