use Rattle.std.proofs.Common.{◌≡◌, ◌++◌, map, take}
use Rattle.std.specs.Prelude.{flat_map}
use Rattle.aadl_tree.specs.proof.AnnexViews.{variable_view}
use Rattle.aadl_tree.specs.proof.PlaceMaps.{kept_place}
use Rattle.component_checks.specs.TypeFindings.{variable_findings}
use Rattle.component_checks.proofs.type_findings.add_variables_findings.Given as goal

abbrev pub invariant-loop-variable : goal.invariant-loop-variable
invariant-loop-variable l =
    l.found ≡ l.fn.found ++ flat_map variable_findings
    (map (variable_view kept_place) (take l.variable-index l.variable-items))
