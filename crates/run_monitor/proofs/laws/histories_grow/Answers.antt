use Rattle.run_monitor.proofs.FrameRowGrowth.{history_has_rounds, history_goes_on, said_at_once}
use Rattle.run_monitor.proofs.WatchTextGrowth.{rows_go_on}
use Rattle.run_monitor.proofs.laws.histories_grow.Goals as goal

pub returns : goal.returns
returns c = record { rounds = history_has_rounds; goes_on = history_goes_on; at_once = said_at_once; rows = rows_go_on }
