use Rattle.pals_base.proofs.ClockPicks.{picks_never_fall, picks_at_least, take-picks}
use Rattle.pals_base.proofs.laws.clocks.picks_follow_targets.Goals as goal

pub returns-clause-never_fall : goal.returns-clause-never_fall
returns-clause-never_fall c = picks_never_fall

pub returns-clause-at_least : goal.returns-clause-at_least
returns-clause-at_least c = picks_at_least

pub returns-clause-first : goal.returns-clause-first
returns-clause-first c = take-picks
