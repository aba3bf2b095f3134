use Rattle.exact_bound.proofs.SenderTimes.{senders_are_exact}
use Rattle.exact_bound.proofs.ExactBounds.{designs_are_exact, steps_have_time}
use Rattle.exact_bound.proofs.laws.the_bound_is_exact.Goals as goal

pub returns : goal.returns
returns c = record { senders = senders_are_exact; designs = designs_are_exact; steps = steps_have_time }
