use Rattle.scenario_laws.proofs.SuitableScenarios.{events_are_loose}
use Rattle.scenario_laws.proofs.event_and_trace_laws.events_are_loose.Goals as goal

pub returns : goal.returns
returns c bytes root design scenario means = events_are_loose bytes root design scenario means
