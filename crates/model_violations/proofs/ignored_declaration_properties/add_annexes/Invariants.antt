use Rattle.std.proofs.Common.{◌≡◌, ◌++◌, map, take}
use Rattle.std.specs.Prelude.{flat_map}
use Rattle.aadl_tree.specs.proof.AnnexViews.{annex_view}
use Rattle.aadl_tree.specs.proof.PlaceMaps.{kept_place}
use Rattle.model_violations.specs.IgnoredProperties.{annex_ignored}
use Rattle.model_violations.proofs.ignored_declaration_properties.add_annexes.Given as goal

abbrev pub invariant-loop-annex : goal.invariant-loop-annex
invariant-loop-annex l =
    l.found ≡ l.fn.found ++ flat_map annex_ignored (map (annex_view kept_place) (take l.annex-index l.annexes))
