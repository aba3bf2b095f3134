use Rattle.std.proofs.Common.{take}
use Rattle.bound_checker.specs.proof.RateMultiples.{HasMultiplesOf}
use Rattle.bound_checker.proofs.least_multiples.common_multiple.Given as goal

abbrev pub invariant-loop-rate : goal.invariant-loop-rate
invariant-loop-rate l = HasMultiplesOf (take l.rate-index l.rates) l.common
