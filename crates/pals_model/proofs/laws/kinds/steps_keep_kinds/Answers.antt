use Rattle.pals_model.proofs.StepsKeepKinds.{firing_fits}
use Rattle.pals_model.proofs.laws.kinds.steps_keep_kinds.Goals as goal

pub returns : goal.returns
returns c = firing_fits
