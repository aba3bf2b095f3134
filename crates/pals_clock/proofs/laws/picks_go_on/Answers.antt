use Rattle.pals_clock.proofs.RemainingReadingsAndPicks.{picks_append}
use Rattle.pals_clock.proofs.laws.picks_go_on.Goals as goal

pub returns : goal.returns
returns c = picks_append
