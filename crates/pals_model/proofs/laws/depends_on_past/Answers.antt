use Rattle.pals_model.proofs.CompositionLaws.{depends_on_past}
use Rattle.pals_model.proofs.laws.depends_on_past.Goals as goal

pub returns : goal.returns
returns c = depends_on_past
