use Rattle.std.proofs.Common.{◌≡◌, ◌≤◌, ◌+◌, ◌-◌, ◌^◌, drop}
use Rattle.pals_base.specs.proof.TreeViews.{operands_along}
use Rattle.step_code.specs.CappedWeights.{capped}
use Rattle.step_code.specs.CodeLengths.{length_rest}
use Rattle.step_compiler.proofs.code_lengths.+length_expr.Given as goal

-- the length so far, and the length of the remaining operands
abbrev pub invariant-rest_length-loop-operand : goal.invariant-rest_length-loop-operand
invariant-rest_length-loop-operand l =
    record {
      sum : capped (l.length + length_rest (operands_along (drop l.operand-index l.rest)))
          ≡ capped (length_rest (operands_along l.rest));
      most : l.length ≤ 2 ^ 64 - 1;
    }
