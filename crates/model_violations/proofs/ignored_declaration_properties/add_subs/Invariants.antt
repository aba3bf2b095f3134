use Rattle.std.proofs.Common.{◌≡◌, ◌++◌, map, take}
use Rattle.std.specs.Prelude.{flat_map}
use Rattle.aadl_tree.specs.proof.DeclarationViews.{subcomponent_view}
use Rattle.aadl_tree.specs.proof.PlaceMaps.{kept_place}
use Rattle.model_violations.specs.IgnoredProperties.{sub_ignored}
use Rattle.model_violations.proofs.ignored_declaration_properties.add_subs.Given as goal

abbrev pub invariant-loop-sub : goal.invariant-loop-sub
invariant-loop-sub l =
    l.found ≡ l.fn.found ++ flat_map sub_ignored (map (subcomponent_view kept_place) (take l.sub-index l.subs))
