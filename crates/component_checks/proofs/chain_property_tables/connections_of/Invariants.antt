use Rattle.std.proofs.Common.{◌≡◌, map, take}
use Rattle.aadl_tree.specs.proof.PlaceMaps.{kept_place}
use Rattle.aadl_tree.specs.proof.DeclarationViews.{connection_view}
use Rattle.component_checks.specs.proof.ChainProperties.{carried_by}
use Rattle.component_checks.proofs.chain_property_tables.connections_of.Given as goal

abbrev pub invariant-loop-connection : goal.invariant-loop-connection
invariant-loop-connection l =
    l.carried ≡ map (λ c. carried_by c.properties)
    (map (connection_view kept_place) (take l.connection-index l.connections))
