use Rattle.scenario_laws.proofs.SuitableScenarios.{pairs_can_be_fused}
use Rattle.scenario_laws.proofs.plant_laws.pairs_can_be_fused.Goals as goal

pub returns : goal.returns
returns c bytes command design scenario means = pairs_can_be_fused bytes command design scenario means
