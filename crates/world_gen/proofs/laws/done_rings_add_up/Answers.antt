use Rattle.world_gen.proofs.RingValuesAndSums.{done_rings_add_up}
use Rattle.world_gen.proofs.laws.done_rings_add_up.Goals as goal

pub returns : goal.returns
returns c = done_rings_add_up
