use Rattle.std.proofs.Common.{◌≡◌, length, drop}
use Rattle.std.specs.Prelude.{◌↔◌}
use Rattle.aadl_tree.specs.proof.ExpressionViews.{factors_view, terms_view, relations_view}
use Rattle.aadl_tree.specs.proof.PlaceMaps.{no_place}
use Rattle.aadl_tree.proofs.sameness.expressions.+same_expression.Given as goal

-- all have the same meaning if and only if the remaining ones do
abbrev pub invariant-same_factors-loop-at : goal.invariant-same_factors-loop-at
invariant-same_factors-loop-at l =
    (length l.left ≡ length l.right)
    × ((factors_view no_place l.left ≡ factors_view no_place l.right)
    ↔ (factors_view no_place (drop l.at l.left) ≡ factors_view no_place (drop l.at l.right)))

-- all have the same meaning if and only if the remaining ones do
abbrev pub invariant-same_terms-loop-at : goal.invariant-same_terms-loop-at
invariant-same_terms-loop-at l =
    (length l.left ≡ length l.right)
    × ((terms_view no_place l.left ≡ terms_view no_place l.right)
    ↔ (terms_view no_place (drop l.at l.left) ≡ terms_view no_place (drop l.at l.right)))

-- all have the same meaning if and only if the remaining ones do
abbrev pub invariant-same_relations-loop-at : goal.invariant-same_relations-loop-at
invariant-same_relations-loop-at l =
    (length l.left ≡ length l.right)
    × ((relations_view no_place l.left ≡ relations_view no_place l.right)
    ↔ (relations_view no_place (drop l.at l.left) ≡ relations_view no_place (drop l.at l.right)))
