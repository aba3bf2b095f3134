use Rattle.std.proofs.Common.{◌≡◌, length, drop}
use Rattle.std.specs.Prelude.{◌↔◌}
use Rattle.pals_base.specs.proof.TreeViews.{operands_along}
use Rattle.pals_base.proofs.+same_expr.Given as goal

-- all are the same if and only if the remaining ones are
abbrev pub
    invariant-equality::expressions::same_operands-loop-at : goal.invariant-equality::expressions::same_operands-loop-at
invariant-equality::expressions::same_operands-loop-at l =
    (length l.left ≡ length l.right)
    × ((operands_along l.left ≡ operands_along l.right)
    ↔ (operands_along (drop l.at l.left) ≡ operands_along (drop l.at l.right)))
