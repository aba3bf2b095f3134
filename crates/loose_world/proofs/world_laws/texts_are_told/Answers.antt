use Rattle.loose_world.proofs.WorldTexts.{world_is_told, text_is_told, stop_is_told}
use Rattle.loose_world.proofs.world_laws.texts_are_told.Goals as goal

pub returns : goal.returns
returns c = record { world = world_is_told; all = text_is_told; stopped = stop_is_told }
