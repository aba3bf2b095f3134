use Rattle.std.proofs.Common.{◌≡◌, ◌++◌, map, take}
use Rattle.std.specs.Prelude.{flat_map}
use Rattle.aadl_tree.specs.proof.DeclarationViews.{feature_view}
use Rattle.aadl_tree.specs.proof.PlaceMaps.{kept_place}
use Rattle.component_checks.specs.TypeFindings.{port_findings}
use Rattle.component_checks.proofs.type_findings.add_port_findings.Given as goal

abbrev pub invariant-loop-port : goal.invariant-loop-port
invariant-loop-port l =
    l.found ≡ l.fn.found ++ flat_map port_findings (map (feature_view kept_place) (take l.port-index l.ports))
