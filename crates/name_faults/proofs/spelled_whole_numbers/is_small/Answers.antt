use Rattle.std.proofs.Common.{arith}
use Rattle.aadl_lex.proofs.ByteScanLoops.{decimal_over}
use Rattle.name_faults.proofs.ValueShapes.{small_by}
use Rattle.name_faults.proofs.spelled_whole_numbers.is_small.Goals as goal

pub returns-then-value-digit : goal.returns-then-value-digit
returns-then-value-digit c =
    small_by _ _ (decimal_over c.args.text.now c.loop-byte.byte-index c.loop-byte.value c.from-digit.result
    (omega arith) c.loop-byte.invariant.same (cc)
    c.from-digit.ensures (omega arith))
