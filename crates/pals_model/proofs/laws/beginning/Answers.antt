use Rattle.pals_model.proofs.CompositionLaws.{state_begins, links_begin_absent}
use Rattle.pals_model.proofs.laws.beginning.Goals as goal

pub returns : goal.returns
returns c = record { frames = state_begins; messages = links_begin_absent }
