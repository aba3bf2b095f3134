use Rattle.std.proofs.Common.{ap, ◌∙◌, sym}
use Rattle.pals_base.specs.proof.TreeViews.{tree_of, operands_along}
use Rattle.pals_base.specs.TypingRules.{kinds_of, kinds_along}
use Rattle.pals_base.proofs.TreeViews.{tree_of-Chain}
use Rattle.pals_base.proofs.+kinds_of_expr.Goals as goal

pub behaviour::Expr::kinds-returns-in-Chain : goal.behaviour::Expr::kinds-returns-in-Chain
behaviour::Expr::kinds-returns-in-Chain t c =
    let parts = c.args.parts.now in
    let loops = c.args.loops in
    c.kinds_along.ensures
    ∙ ap (λ os. kinds_along (operands_along os) parts loops c.kinds-in-Chain.result) c.deref-in-Chain.ensures.value
    ∙ ap (λ left. kinds_along (operands_along c.in-Chain.rest.items) parts loops left)
    (c.kinds-in-Chain.ensures ∙ ap (λ e. kinds_of (tree_of e) parts loops) c.deref-in-Chain-2.ensures)
    ∙ sym (ap (λ e. kinds_of e parts loops) (tree_of-Chain c.in-Chain.first c.in-Chain.rest))
    ∙ ap (λ e. kinds_of (tree_of e) parts loops) (sym c.in-Chain.is)
