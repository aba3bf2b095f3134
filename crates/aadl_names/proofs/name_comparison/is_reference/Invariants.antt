use Rattle.std.proofs.Common.{◌≡◌, ◌++◌, codes, drop, map, option_map}
use Rattle.aadl_tree.specs.Names.{same_name}
use Rattle.std.specs.Prelude.{flat_map}
use Rattle.aadl_tree.specs.proof.PlaceMaps.{kept_place}
use Rattle.aadl_tree.specs.proof.NameViews.{identifier_view, reference_view}
use Rattle.aadl_names.specs.QualifiedNameSpellings.{spelled_reference, dotted}
use Rattle.aadl_names.proofs.name_comparison.is_reference.Given as goal

-- the remaining words decide
abbrev pub invariant-loop-word : goal.invariant-loop-word
invariant-loop-word l =
    same_name (flat_map (λ y. y.spelling ++ codes "::")
    (map (identifier_view kept_place) (drop l.word-index l.word-items))
    ++ dotted l.reference.type_name.spelling (option_map (identifier_view kept_place) l.reference.implementation))
    l.rest
    ≡ same_name (spelled_reference (reference_view kept_place l.reference)) l.text
