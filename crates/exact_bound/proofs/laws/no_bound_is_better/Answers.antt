use Rattle.exact_bound.proofs.ExactBounds.{one_less_is_enough, two_less_is_not, no_bound_is_better}
use Rattle.exact_bound.proofs.laws.no_bound_is_better.Goals as goal

pub returns : goal.returns
returns c = record { enough = one_less_is_enough; too_short = two_less_is_not; best = no_bound_is_better }
