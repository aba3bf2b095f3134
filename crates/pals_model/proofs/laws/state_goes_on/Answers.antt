use Rattle.pals_model.proofs.CompositionLaws.{state_goes_on}
use Rattle.pals_model.proofs.laws.state_goes_on.Goals as goal

pub returns : goal.returns
returns c = state_goes_on
