use Rattle.std.proofs.Common.{◌≡◌, length, drop}
use Rattle.std.specs.Prelude.{◌↔◌}
use Rattle.aadl_tree.specs.proof.ValueViews.{values_view, associations_view}
use Rattle.aadl_tree.specs.proof.PlaceMaps.{no_place}
use Rattle.aadl_tree.proofs.sameness.values.+same_value.Given as goal

-- all have the same meaning if and only if the remaining ones do
abbrev pub invariant-same_values-loop-at : goal.invariant-same_values-loop-at
invariant-same_values-loop-at l =
    (length l.left ≡ length l.right)
    × ((values_view no_place l.left ≡ values_view no_place l.right)
    ↔ (values_view no_place (drop l.at l.left) ≡ values_view no_place (drop l.at l.right)))

-- all have the same meaning if and only if the remaining ones do
abbrev pub invariant-same_associations-loop-at : goal.invariant-same_associations-loop-at
invariant-same_associations-loop-at l =
    (length l.left ≡ length l.right)
    × ((associations_view no_place l.left ≡ associations_view no_place l.right)
    ↔ (associations_view no_place (drop l.at l.left) ≡ associations_view no_place (drop l.at l.right)))
