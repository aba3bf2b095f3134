use Rattle.std.proofs.Common.{◌≡◌, length, drop}
use Rattle.std.specs.Prelude.{◌↔◌}
use Rattle.pals_base.specs.proof.TreeViews.{actions_along, branches_along}
use Rattle.pals_base.proofs.+same_act.Given as goal

-- all are the same if and only if the remaining ones are
abbrev pub invariant-equality::actions::same_acts-loop-at : goal.invariant-equality::actions::same_acts-loop-at
invariant-equality::actions::same_acts-loop-at l =
    (length l.left ≡ length l.right)
    × ((actions_along l.left ≡ actions_along l.right)
    ↔ (actions_along (drop l.at l.left) ≡ actions_along (drop l.at l.right)))

-- the same for branches
abbrev pub invariant-equality::actions::same_branches-loop-at : goal.invariant-equality::actions::same_branches-loop-at
invariant-equality::actions::same_branches-loop-at l =
    (length l.left ≡ length l.right)
    × ((branches_along l.left ≡ branches_along l.right)
    ↔ (branches_along (drop l.at l.left) ≡ branches_along (drop l.at l.right)))
