use Rattle.std.proofs.Common.{◌≡◌, map, drop, length}
use Rattle.std.specs.List.{flat_map}
use Rattle.aadl_tree.specs.proof.PackageViews.{placed}
use Rattle.aadl_tree.specs.proof.DeclarationViews.{implementation_view, connection_view}
use Rattle.aadl_tree.specs.proof.PlaceMaps.{kept_place}
use Rattle.aadl_names.specs.proof.FirstFaultSoFar.{found}
use Rattle.aadl_names.specs.PackageNameFaults.{connection_faults}
use Rattle.name_faults.proofs.connections.check_connections.Given as goal

-- the remaining part is still to be checked
abbrev pub invariant-loop-connection : goal.invariant-loop-connection
invariant-loop-connection l =
    found l.initial.finder (flat_map
    (connection_faults (placed l.wires.uses.names.tree.now) (implementation_view kept_place l.x))
    (map (connection_view kept_place) l.x.connections.items))
    ≡ found l.finder (flat_map
    (connection_faults (placed l.wires.uses.names.tree.now) (implementation_view kept_place l.x))
    (map (connection_view kept_place) (drop (length l.yielded) l.x.connections.items)))
