use Rattle.pals_model.proofs.ShapeLaws.{feed_has_vectors, steps_give_tuples}
use Rattle.pals_model.proofs.laws.shapes.rounds_have_shapes.Goals as goal

pub returns : goal.returns
returns c = record { inputs = feed_has_vectors; outputs = steps_give_tuples }
