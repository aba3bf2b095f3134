use Rattle.std.proofs.Common.{◌∙◌, ap, arith}
use Rattle.pals_base.specs.proof.TreeViews.{tree_of, operands_along}
use Rattle.pals_base.proofs.TreeViews.{tree_of-Chain}
use Rattle.step_code.specs.CappedWeights.{capped}
use Rattle.step_code.specs.CodeLengths.{length_of, length_rest}
use Rattle.step_compiler.proofs.code_lengths.+length_expr.Goals as goal

pub expr_length-returns-in-Chain : goal.expr_length-returns-in-Chain
expr_length-returns-in-Chain t c =
    let whole =
    ap (λ e. capped (length_of e)) (ap tree_of c.in-Chain.is ∙ tree_of-Chain c.in-Chain.first c.in-Chain.rest) in
    let first = ap (λ e. capped (length_of (tree_of e))) c.deref-in-Chain.ensures in
    let rest = ap (λ xs. capped (length_rest (operands_along xs))) c.deref-in-Chain-2.ensures.value in
    omega (arith, c.expr_length-front.ensures, c.rest_length.ensures, c.saturating_add-in-Chain.ensures)
