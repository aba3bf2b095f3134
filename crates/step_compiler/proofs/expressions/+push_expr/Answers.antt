use Rattle.std.proofs.Common.{◌≡◌, ◌∙◌, ◌+◌, pos, ◌∷◌, ◌++◌, length, drop, refl, sym, ap, arith}
use Rattle.list_lemmas.proofs.Results.{OnOk-weaker}
use Rattle.pals_base.specs.proof.TreeViews.{tree_of, operands_along}
use Rattle.pals_base.specs.ExpressionAndActionTrees.{Chain}
use Rattle.pals_base.proofs.TreeViews.{tree_of-Chain}
use Rattle.step_code.specs.declared.instr.Instr.TheVariants as code
use Rattle.step_code.specs.CodeLengths.{operand_length, length_of}
use Rattle.step_compiler.specs.ExpressionAndActionInstructions.{operand_code, code_of, code_rest}
use Rattle.step_compiler.proofs.PlacedCodeLengths.{code-length, operand-length}
use Rattle.step_compiler.proofs.AppendedCode.{both_parts, more_parts, next_operand, behind_three}
use Rattle.step_compiler.proofs.expressions.+push_expr.Goals as goal

pub push_expr-returns-in_ok-push_expr-in-Chain : goal.push_expr-returns-in_ok-push_expr-in-Chain
push_expr-returns-in_ok-push_expr-in-Chain t c =
    let old = c.args.code.now in
    let e = tree_of c.deref-in-Chain.result.now in
    let whole = ap tree_of c.in-Chain.is ∙ tree_of-Chain c.in-Chain.first c.in-Chain.rest in
    let parts =
    ap (λ f. Chain (tree_of f) (operands_along c.in-Chain.rest.items)) (sym c.deref-in-Chain.ensures)
    ∙ ap (λ xs. Chain e (operands_along xs)) (sym c.deref-in-Chain-2.ensures.value) in
    let os = operands_along c.deref-in-Chain-2.result.now in
    OnOk-weaker c.push_rest.result _ _
    (λ is. both_parts old c.push_expr-in-Chain.new.code c.push_rest.new.code (code_of e (length old)) (length_of e)
    (code_rest os) c.in_ok-push_expr-in-Chain.ensures (code-length e (length old)) is
    ∙ ap (λ x. old ++ code_of x (length old)) (sym (whole ∙ parts)))
    c.push_rest.ensures

pub push_rest-loop-operand-preserved : goal.push_rest-loop-operand-preserved
push_rest-loop-operand-preserved t c =
    let cur = c.loop-operand.code in
    let item = c.operand-item.result in
    let rest = c.args.rest.now in
    let i = c.loop-operand.operand-index in
    let e = tree_of item.right in
    let left = next_operand rest i item c.loop-operand-test.true c.operand-item.is in
    let a = operand_code item.op (length_of e) (code_of e) (length cur) in
    let len = operand-length item.op (length_of e) (length cur) (code_of e) (code-length e) in
    let later = operands_along (drop (i + 1) rest) in
    more_parts cur c.push_operand.new.code a (operand_length item.op (length_of e)) (code_rest later)
    c.in_ok-push_operand.ensures len
    ∙ ap (λ os. cur ++ code_rest os (length cur)) (sym left) ∙ c.loop-operand.invariant

pub push_or_else-returns : goal.push_or_else-returns
push_or_else-returns t c =
    let old = c.args.code.now in
    let n = length_of (tree_of c.args.right.now) in
    let other = c.in_ok-other.ensures 3 refl in
    let end = c.in_ok-end.ensures (n + 3) (omega (arith, c.expr_length.ensures, c.saturating_add.ensures)) in
    let other_is : c.in_ok-other.other ≡ length old + 3 = omega (arith, c.len.ensures) in
    let end_is : c.in_ok-end.end ≡ length old + n + 3 = omega (arith, c.len-2.ensures) in
    OnOk-weaker c.push_expr.result _ _
    (λ is. behind_three old c.push.new.self c.push-2.new.self c.push-3.new.self c.push_expr.new.code
    (code.JumpZero c.in_ok-other.other) (code.Push (pos 1)) (code.Jump c.in_ok-end.end)
    (code_of (tree_of c.args.right.now))
    c.in_ok-push.ensures.ok c.in_ok-push-2.ensures.ok c.in_ok-push-3.ensures.ok is
    ∙ ap (λ q. old ++ code.JumpZero q ∷ code.Push (pos 1) ∷ code.Jump c.in_ok-end.end
    ∷ code_of (tree_of c.args.right.now) (length old + 3)) other_is
    ∙ ap (λ q. old ++ code.JumpZero (length old + 3) ∷ code.Push (pos 1) ∷ code.Jump q
    ∷ code_of (tree_of c.args.right.now) (length old + 3)) end_is)
    c.push_expr.ensures
