use Rattle.std.proofs.Common.{◌≡◌, drop}
use Rattle.pals_base.specs.ExpressionValues.{eval_rest}
use Rattle.pals_base.specs.proof.TreeViews.{operands_along}
use Rattle.behaviour_sem.specs.proof.EvaluationFrames.{seen, fresh}
use Rattle.behaviour_sem.proofs.expressions.+eval.Given as goal

-- the remaining operands, from the value so far, give the value of all
abbrev pub invariant-eval_rest-loop-operand : goal.invariant-eval_rest-loop-operand
invariant-eval_rest-loop-operand l =
    let frame = seen l.vars l.inputs in
    let fresh' = fresh l.inputs in
    eval_rest (operands_along (drop l.operand-index l.rest)) frame fresh' l.value
    ≡ eval_rest (operands_along l.rest) frame fresh' l.left
