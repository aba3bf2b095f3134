use Rattle.std.proofs.Common.{◌≡◌, drop}
use Rattle.pals_base.specs.proof.TreeViews.{operands_along}
use Rattle.pals_base.specs.TypingRules.{kinds_along}
use Rattle.pals_base.proofs.+kinds_of_expr.Given as goal

-- the types so far, and the remaining operands
abbrev pub
    invariant-expression_kinds::kinds_along-loop-operand : goal.invariant-expression_kinds::kinds_along-loop-operand
invariant-expression_kinds::kinds_along-loop-operand l =
    kinds_along (operands_along (drop l.operand-index l.rest)) l.parts l.loops l.left
    ≡ kinds_along (operands_along l.rest) l.parts l.loops l.initial.left
