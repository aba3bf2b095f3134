use Rattle.loose_world.proofs.UniqueEnds.{one_end}
use Rattle.loose_world.proofs.world_laws.one_end.Goals as goal

pub returns : goal.returns
returns c = one_end
