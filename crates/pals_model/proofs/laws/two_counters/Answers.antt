use Rattle.pals_model.proofs.TwoCounters.{counters_count}
use Rattle.pals_model.proofs.laws.two_counters.Goals as goal

pub returns : goal.returns
returns c = counters_count
