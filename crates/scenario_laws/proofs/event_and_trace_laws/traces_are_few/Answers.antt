use Rattle.scenario_laws.proofs.SuitableScenarios.{traces_are_few}
use Rattle.scenario_laws.proofs.event_and_trace_laws.traces_are_few.Goals as goal

pub returns : goal.returns
returns c bytes command design scenario means = traces_are_few bytes command design scenario means
