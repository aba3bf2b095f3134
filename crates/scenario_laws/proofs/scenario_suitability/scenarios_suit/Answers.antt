use Rattle.scenario_laws.proofs.SuitableScenarios.{scenarios_suit}
use Rattle.scenario_laws.proofs.scenario_suitability.scenarios_suit.Goals as goal

pub returns : goal.returns
returns c = scenarios_suit
