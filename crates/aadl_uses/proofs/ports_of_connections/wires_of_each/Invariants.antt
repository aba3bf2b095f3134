use Rattle.std.proofs.Common.{◌≡◌, ℕ, map, take, Some}
use Rattle.aadl_tree.specs.Declarations.{Implementation}
use Rattle.aadl_tree.specs.proof.PlaceMaps.{kept_place}
use Rattle.aadl_tree.specs.proof.DeclarationViews.{connection_view}
use Rattle.aadl_names.specs.NameResolution.{implementation_at}
use Rattle.aadl_tree.specs.proof.PackageViews.{placed}
use Rattle.aadl_uses.specs.PortsOfConnections.{ports_of_connection}
use Rattle.aadl_uses.proofs.ports_of_connections.wires_of_each.Given as goal

abbrev pub invariant-loop-connection : goal.invariant-loop-connection
invariant-loop-connection l =
    (x : Implementation ℕ) → implementation_at (placed l.uses.names.tree.now) l.number ≡ Some x
    → l.wires ≡ map (ports_of_connection (placed l.uses.names.tree.now) x)
    (map (connection_view kept_place) (take l.connection-index l.connections))
