use Rattle.pals_base.proofs.StepTermination.{ways_are_short}
use Rattle.pals_base.proofs.laws.single_step.ways_are_short.Goals as goal

pub returns : goal.returns
returns c = ways_are_short
