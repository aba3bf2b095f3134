use Rattle.std.proofs.Common.{◌≡◌, ◌++◌, codes, string_bytes, map, drop}
use Rattle.std.specs.List.{flat_map}
use Rattle.aadl_tree.specs.proof.PlaceMaps.{kept_place}
use Rattle.aadl_tree.specs.proof.NameViews.{identifier_view, name_view}
use Rattle.aadl_names.specs.QualifiedNameSpellings as spec
use Rattle.aadl_names.proofs.qualified_names.spelled_name.Given as goal

-- the remaining words are still to be appended
abbrev pub invariant-loop-word : goal.invariant-loop-word
invariant-loop-word l =
    spec.spelled_name (name_view kept_place l.name)
    ≡ string_bytes l.text ++ flat_map (λ y. codes "::" ++ y.spelling)
    (map (identifier_view kept_place) (drop l.word-index l.word-items))
