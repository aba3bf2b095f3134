use Rattle.pals_model.proofs.CompositionLaws.{one_frame_each, one_message_each}
use Rattle.pals_model.proofs.laws.lengths.Goals as goal

pub returns : goal.returns
returns c = record { frames = one_frame_each; messages = one_message_each }
