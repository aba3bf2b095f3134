use Rattle.pals_model.proofs.CompositionLaws.{runs_alone}
use Rattle.pals_model.proofs.laws.runs_alone.Goals as goal

pub returns : goal.returns
returns c = runs_alone
