use Rattle.loose_world.proofs.FinishedWorldReports.{world_is_reported, world_text_is_reported}
use Rattle.loose_world.proofs.world_laws.worlds_are_reported.Goals as goal

pub returns : goal.returns
returns c = record { rows = world_is_reported; text = world_text_is_reported }
