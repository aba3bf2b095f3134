use Rattle.std.proofs.Common.{◌≡◌, ◌++◌, length, drop}
use Rattle.pals_base.specs.proof.TreeViews.{operands_along}
use Rattle.step_compiler.specs.ExpressionAndActionInstructions.{code_rest}
use Rattle.step_compiler.proofs.expressions.+push_expr.Given as goal

-- the code so far, and the code of the remaining operands
abbrev pub invariant-push_rest-loop-operand : goal.invariant-push_rest-loop-operand
invariant-push_rest-loop-operand l =
    l.code ++ code_rest (operands_along (drop l.operand-index l.rest)) (length l.code)
    ≡ l.initial.code ++ code_rest (operands_along l.rest) (length l.initial.code)
