use Rattle.exact_bound.proofs.ShortPeriodStops.{short_period_stops}
use Rattle.exact_bound.proofs.laws.two_less_is_too_short.Goals as goal

pub returns : goal.returns
returns c = short_period_stops
