use Rattle.std.proofs.Common.{◌≡◌, map, take}
use Rattle.aadl_tree.specs.proof.PlaceMaps.{kept_place}
use Rattle.aadl_tree.specs.proof.DeclarationViews.{declaration_view}
use Rattle.component_checks.specs.proof.ChainProperties.{connections_carried}
use Rattle.component_checks.proofs.chain_property_tables.all_of_connections.Given as goal

abbrev pub invariant-loop-declaration : goal.invariant-loop-declaration
invariant-loop-declaration l =
    l.carried ≡ map connections_carried
    (map (declaration_view kept_place) (take l.declaration-index l.declaration-items))
