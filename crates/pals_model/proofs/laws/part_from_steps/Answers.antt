use Rattle.pals_model.proofs.CompositionLaws.{part_from_steps}
use Rattle.pals_model.proofs.laws.part_from_steps.Goals as goal

pub returns : goal.returns
returns c = part_from_steps
