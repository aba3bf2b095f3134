use Rattle.plant_fuse.proofs.SequentialSteps.{steps_are_made}
use Rattle.plant_fuse.proofs.laws.steps_are_made.Goals as goal

pub returns : goal.returns
returns c = steps_are_made
