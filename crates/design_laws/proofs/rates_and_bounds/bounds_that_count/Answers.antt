use Rattle.design_laws.proofs.BoundsAndRates.{gamma_fits}
use Rattle.design_laws.proofs.rates_and_bounds.bounds_that_count.Goals as goal

pub returns : goal.returns
returns c = λ skew execution network g is. gamma_fits skew execution network g is
