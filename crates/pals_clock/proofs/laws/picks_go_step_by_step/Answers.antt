use Rattle.pals_clock.proofs.RemainingReadingsAndPicks.{picks_ended}
use Rattle.pals_clock.proofs.laws.picks_go_step_by_step.Goals as goal

pub returns-clause-ended : goal.returns-clause-ended
returns-clause-ended c = picks_ended
