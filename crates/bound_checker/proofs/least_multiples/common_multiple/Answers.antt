use Rattle.std.proofs.Common.{◌+◌, ◌∷◌, [], ◌++◌, take, get_or, min, sym, subst}
use Rattle.std.proofs.lemmas.List.{take_more}
use Rattle.pals_base.specs.declared.limits.TheConstants.{HOUR}
use Rattle.bound_checker.specs.proof.DivisorsAndMultiples.{IsLeastCommonMultiple}
use Rattle.bound_checker.specs.proof.RateMultiples.{HasMultiplesOf}
use Rattle.bound_checker.proofs.RateMultiples.{multiples_of_more}
use Rattle.bound_checker.proofs.least_multiples.common_multiple.Goals as goal

pub loop-rate-preserved : goal.loop-rate-preserved
loop-rate-preserved c =
    let rates = c.args.rates.now in
    let at = c.loop-rate.rate-index in
    let least : IsLeastCommonMultiple c.loop-rate.common (get_or rates at 0) c.lcm.result =
    subst (λ k. IsLeastCommonMultiple c.loop-rate.common k c.lcm.result) c.from.ensures c.lcm.ensures.least in
    let more : HasMultiplesOf (take at rates ++ get_or rates at 0 ∷ []) (min c.lcm.result (HOUR + 1)) =
    multiples_of_more (take at rates) (get_or rates at 0) c.loop-rate.common c.lcm.result c.loop-rate.invariant
    c.lcm.ensures.positive least in
    subst (λ m. HasMultiplesOf (take (at + 1) rates) m) (sym c.min-common.ensures)
    (subst (λ xs. HasMultiplesOf xs (min c.lcm.result (HOUR + 1)))
    (sym (take_more rates at 0 c.loop-rate-test.true)) more)
