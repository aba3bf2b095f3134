use Rattle.pals_model.proofs.ShapeLaws.{part_has_shape}
use Rattle.pals_model.proofs.laws.shapes.parts_have_shapes.Goals as goal

pub returns : goal.returns
returns c = part_has_shape
