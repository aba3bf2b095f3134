use Rattle.std.proofs.Common.{◌≡◌, length, drop}
use Rattle.std.specs.Prelude.{◌↔◌}
use Rattle.aadl_tree.specs.proof.ActionViews.{mores_view, elsifs_view}
use Rattle.aadl_tree.specs.proof.PlaceMaps.{no_place}
use Rattle.aadl_tree.proofs.sameness.actions.+same_action.Given as goal

-- all have the same meaning if and only if the remaining ones do
abbrev pub invariant-same_mores-loop-at : goal.invariant-same_mores-loop-at
invariant-same_mores-loop-at l =
    (length l.left ≡ length l.right)
    × ((mores_view no_place l.left ≡ mores_view no_place l.right)
    ↔ (mores_view no_place (drop l.at l.left) ≡ mores_view no_place (drop l.at l.right)))

-- all have the same meaning if and only if the remaining ones do
abbrev pub invariant-same_elsifs-loop-at : goal.invariant-same_elsifs-loop-at
invariant-same_elsifs-loop-at l =
    (length l.left ≡ length l.right)
    × ((elsifs_view no_place l.left ≡ elsifs_view no_place l.right)
    ↔ (elsifs_view no_place (drop l.at l.left) ≡ elsifs_view no_place (drop l.at l.right)))
