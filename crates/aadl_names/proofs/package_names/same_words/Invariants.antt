use Rattle.std.proofs.Common.{◌≡◌, map, drop}
use Rattle.aadl_tree.specs.proof.NameViews.{identifier_view}
use Rattle.aadl_tree.specs.proof.PlaceMaps.{kept_place}
use Rattle.aadl_names.specs.NameResolution.{same_words}
use Rattle.aadl_names.proofs.package_names.same_words.Given as goal

-- the remaining words decide
abbrev pub invariant-loop-at : goal.invariant-loop-at
invariant-loop-at l =
    same_words (map (identifier_view kept_place) (drop l.at l.a)) (map (identifier_view kept_place) (drop l.at l.b))
    ≡ same_words (map (identifier_view kept_place) l.a) (map (identifier_view kept_place) l.b)
