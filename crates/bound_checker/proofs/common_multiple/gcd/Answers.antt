use Rattle.std.proofs.Common.{arith}
use Rattle.bound_checker.proofs.DivisorsAndMultiples.{divisor_from_rest, divisor_of_0}
use Rattle.bound_checker.proofs.common_multiple.gcd.Goals as goal

pub loop-low-preserved : goal.loop-low-preserved
loop-low-preserved c d found = c.loop-low.invariant d (divisor_from_rest _ _ d found)

pub returns : goal.returns
returns c = c.loop-low.invariant _ (divisor_of_0 _ _ (omega arith))
