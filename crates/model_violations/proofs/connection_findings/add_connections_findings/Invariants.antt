use Rattle.std.proofs.Common.{◌≡◌, ◌++◌, map, take}
use Rattle.std.specs.Prelude.{flat_map}
use Rattle.std.specs.List.{enumerate_from}
use Rattle.aadl_tree.specs.proof.DeclarationViews.{connection_view, implementation_view}
use Rattle.aadl_tree.specs.proof.PlaceMaps.{kept_place}
use Rattle.aadl_tree.specs.proof.PackageViews.{placed}
use Rattle.model_violations.specs.ConnectionsAndCarriers.{carries}
use Rattle.model_violations.specs.ConnectionFindings.{connection_findings}
use Rattle.model_violations.proofs.connection_findings.add_connections_findings.Given as goal

abbrev pub invariant-loop-at : goal.invariant-loop-at
invariant-loop-at l =
    l.found ≡ l.fn.found ++ flat_map
    (connection_findings (placed l.wires.uses.names.tree.now) (carries l.carriers) l.number
    (implementation_view kept_place l.x))
    (enumerate_from 0 (map (connection_view kept_place) (take l.at l.x.connections.items)))
