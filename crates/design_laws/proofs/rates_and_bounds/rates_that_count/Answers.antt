use Rattle.design_laws.proofs.BoundsAndRates.{one_rate_fits}
use Rattle.design_laws.proofs.rates_and_bounds.rates_that_count.Goals as goal

pub returns : goal.returns
returns c = λ t p k is. let r = one_rate_fits t p k is in (r.low, r.high, r.divides)
