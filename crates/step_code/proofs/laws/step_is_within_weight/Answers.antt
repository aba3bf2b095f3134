use Rattle.step_code.proofs.HeaviestPaths.{made_within}
use Rattle.step_code.proofs.laws.step_is_within_weight.Goals as goal

pub returns : goal.returns
returns c = made_within
