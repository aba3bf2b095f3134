use Rattle.answer_laws.proofs.UniqueScenarios.{one_scenario}
use Rattle.answer_laws.proofs.bundle_uniqueness.one_scenario.Goals as goal

pub returns : goal.returns
returns c = one_scenario
