use Rattle.std.proofs.Common.{◌≡◌, ◌++◌, map, take}
use Rattle.std.specs.Prelude.{flat_map}
use Rattle.aadl_tree.specs.proof.DeclarationViews.{feature_view}
use Rattle.aadl_tree.specs.proof.PlaceMaps.{kept_place}
use Rattle.model_violations.specs.IgnoredProperties.{port_ignored}
use Rattle.model_violations.proofs.ignored_declaration_properties.add_ports.Given as goal

abbrev pub invariant-loop-port : goal.invariant-loop-port
invariant-loop-port l =
    l.found ≡ l.fn.found ++ flat_map port_ignored (map (feature_view kept_place) (take l.port-index l.ports))
