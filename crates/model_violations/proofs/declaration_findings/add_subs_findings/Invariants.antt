use Rattle.std.proofs.Common.{◌≡◌, ◌++◌, map, take}
use Rattle.std.specs.Prelude.{flat_map}
use Rattle.aadl_tree.specs.proof.DeclarationViews.{subcomponent_view}
use Rattle.aadl_tree.specs.proof.PlaceMaps.{kept_place}
use Rattle.model_violations.specs.DeclarationFindings.{sub_findings}
use Rattle.model_violations.proofs.declaration_findings.add_subs_findings.Given as goal

abbrev pub invariant-loop-sub : goal.invariant-loop-sub
invariant-loop-sub l =
    l.found ≡ l.fn.found ++ flat_map sub_findings (map (subcomponent_view kept_place) (take l.sub-index l.subs))
