use Rattle.std.proofs.Common.{◌/◌}
use Rattle.design_laws.proofs.BoundsAndRates.{rate_from}
use Rattle.design_laws.proofs.rates_and_bounds.no_findings_make_a_rate.Goals as goal

pub returns : goal.returns
returns c = λ at path t p some none. (t / p, rate_from at path t p some none)
