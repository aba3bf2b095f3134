use Rattle.std.proofs.Common.{◌≡◌, ◌++◌, codes, drop, map}
use Rattle.aadl_tree.specs.Names.{same_name}
use Rattle.std.specs.Prelude.{flat_map}
use Rattle.aadl_tree.specs.proof.PlaceMaps.{kept_place}
use Rattle.aadl_tree.specs.proof.NameViews.{identifier_view, name_view}
use Rattle.aadl_names.specs.QualifiedNameSpellings.{spelled_name}
use Rattle.aadl_names.proofs.name_comparison.is_spelled.Given as goal

-- the remaining words decide
abbrev pub invariant-loop-word : goal.invariant-loop-word
invariant-loop-word l =
    same_name (flat_map (λ y. codes "::" ++ y.spelling)
    (map (identifier_view kept_place) (drop l.word-index l.word-items))) l.rest
    ≡ same_name (spelled_name (name_view kept_place l.name)) l.text
