use Rattle.std.proofs.Common.{ℕ}
use Rattle.bound_checker.specs.proof.DivisorsAndMultiples.{IsGreatestCommonDivisor}
use Rattle.bound_checker.proofs.common_multiple.gcd.Given as goal

abbrev pub invariant-loop-low : goal.invariant-loop-low
invariant-loop-low l = (d : ℕ) → IsGreatestCommonDivisor l.high l.low d → IsGreatestCommonDivisor l.fn.a l.fn.b d

abbrev pub decreases-loop-low : goal.decreases-loop-low
decreases-loop-low l = l.low
