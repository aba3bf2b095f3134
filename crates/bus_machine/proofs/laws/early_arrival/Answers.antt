use Rattle.bus_machine.proofs.StoppedCounterRuns.{early_run}
use Rattle.bus_machine.proofs.laws.early_arrival.Goals as goal

pub returns : goal.returns
returns c = early_run
