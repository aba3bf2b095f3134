use Rattle.run_laws.proofs.TwoCounterTraces.{traces_are_judged}
use Rattle.run_laws.proofs.line_laws.judged_traces.Goals as goal

pub returns : goal.returns
returns c = traces_are_judged
