use Rattle.pals_clock.proofs.RemainingReadingsAndPicks.{reached_filter}
use Rattle.pals_clock.proofs.laws.reached_is_what_is_not_below.Goals as goal

pub returns : goal.returns
returns c = reached_filter
