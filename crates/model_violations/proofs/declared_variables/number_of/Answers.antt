use Rattle.std.proofs.Common.{arith}
use Rattle.aadl_lex.proofs.ByteScanLoops.{decimal_over}
use Rattle.model_violations.proofs.declared_variables.number_of.Goals as goal

pub returns-then-value-digit : goal.returns-then-value-digit
returns-then-value-digit c =
    decimal_over c.args.digits.now c.loop-byte.byte-index c.loop-byte.value c.from-digit.result (omega arith)
    c.loop-byte.invariant.same (cc) c.from-digit.ensures (omega arith)
