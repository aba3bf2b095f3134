use Rattle.std.proofs.Common.{◌≡◌, ◌++◌, map, take}
use Rattle.std.specs.Prelude.{flat_map}
use Rattle.aadl_tree.specs.proof.DeclarationViews.{connection_view}
use Rattle.aadl_tree.specs.proof.PlaceMaps.{kept_place}
use Rattle.model_violations.specs.IgnoredProperties.{connection_ignored}
use Rattle.model_violations.proofs.ignored_declaration_properties.add_connections.Given as goal

abbrev pub invariant-loop-connection : goal.invariant-loop-connection
invariant-loop-connection l =
    l.found ≡ l.fn.found ++ flat_map connection_ignored
    (map (connection_view kept_place) (take l.connection-index l.connections))
