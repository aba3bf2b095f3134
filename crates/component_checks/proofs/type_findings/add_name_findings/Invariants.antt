use Rattle.std.proofs.Common.{◌≡◌, ◌++◌, map, take}
use Rattle.std.specs.Prelude.{flat_map}
use Rattle.aadl_tree.specs.proof.NameViews.{identifier_view}
use Rattle.aadl_tree.specs.proof.PlaceMaps.{kept_place}
use Rattle.component_checks.specs.TypeFindings.{name_findings}
use Rattle.component_checks.proofs.type_findings.add_name_findings.Given as goal

abbrev pub invariant-loop-name : goal.invariant-loop-name
invariant-loop-name l =
    l.found ≡ l.fn.found ++ name_findings l.kind (identifier_view kept_place l.names.first)
    ++ flat_map (name_findings l.kind) (map (identifier_view kept_place) (take l.name-index l.name-items))
