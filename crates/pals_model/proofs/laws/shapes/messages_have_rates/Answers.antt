use Rattle.pals_model.proofs.ShapeLaws.{message_has_rate, waiting_message_has_rate}
use Rattle.pals_model.proofs.laws.shapes.messages_have_rates.Goals as goal

pub returns : goal.returns
returns c = record { message = message_has_rate; waiting = waiting_message_has_rate }
