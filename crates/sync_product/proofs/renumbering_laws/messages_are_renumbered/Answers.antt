use Rattle.sync_product.proofs.RenumberedRounds.{message_after}
use Rattle.sync_product.proofs.renumbering_laws.messages_are_renumbered.Goals as goal

pub returns : goal.returns
returns c to a b env_a env_b sound_a sound_b r inputs = message_after to a b sound_a sound_b r env_a env_b inputs
