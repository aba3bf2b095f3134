use Rattle.pals_model.proofs.ShapeLaws.{state_has_shape}
use Rattle.pals_model.proofs.laws.shapes.states_have_shapes.Goals as goal

pub returns : goal.returns
returns c = state_has_shape
