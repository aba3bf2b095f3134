use Rattle.std.proofs.Common.{◌≡◌, ap, ◌∙◌, arith}
use Rattle.std.proofs.lemmas.Grind.{common_steps}
use Rattle.pals_base.specs.ExpressionAndActionTrees.{Chain}
use Rattle.pals_base.specs.proof.TreeViews.{tree_of, operands_along}
use Rattle.pals_base.proofs.TreeViews.{tree_of-Chain}
use Rattle.pals_base.proofs.SameTreeLengths.{same_operands-length}
use Rattle.pals_base.proofs.+same_expr.Goals as goal

pub behaviour::Expr::same-returns-then-same : goal.behaviour::Expr::same-returns-then-same
behaviour::Expr::same-returns-then-same t c =
    let here = c.in-Chain-Chain in
    let left : tree_of c.args.self.now ≡ Chain (tree_of here.first.value) (operands_along here.rest.items) =
    ap tree_of here.is-0 ∙ tree_of-Chain here.first here.rest in
    let right : tree_of c.args.other.now ≡ Chain (tree_of here.other_first.value)
    (operands_along here.other_rest.items) =
    ap tree_of here.is-1 ∙ tree_of-Chain here.other_first here.other_rest in
    let firsts : tree_of here.first.value ≡ tree_of here.other_first.value = grind (arith, common_steps) in
    let rests = rw (c.deref-then-same.ensures.value, c.deref-then-same-2.ensures.value) at c.same_operands.ensures in
    (λ yes. let e = rests.0 yes in cc, λ same. rests.1 (cc))

pub equality::expressions::same_operands-returns-then-left-right : goal.equality::expressions::same_operands-returns-then-left-right
equality::expressions::same_operands-returns-then-left-right t c =
    (grind (arith, common_steps), λ same. let e = same_operands-length _ _ same in absurd (grind (arith, common_steps)))
