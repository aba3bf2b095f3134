use Rattle.scenario_laws.proofs.ScenarioOrFault.{scenario_or_fault}
use Rattle.scenario_laws.proofs.scenario_meaning.scenario_or_fault.Goals as goal

pub returns : goal.returns
returns c = scenario_or_fault
