use Rattle.pals_model.proofs.CompositionLaws.{message_from_source}
use Rattle.pals_model.proofs.laws.message_from_source.Goals as goal

pub returns : goal.returns
returns c = message_from_source
