use Rattle.bus_machine.proofs.StoppedCounterRuns.{lost_run}
use Rattle.bus_machine.proofs.laws.lost_message.Goals as goal

pub returns : goal.returns
returns c = lost_run
