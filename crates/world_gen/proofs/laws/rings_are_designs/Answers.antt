use Rattle.world_gen.proofs.RingDesigns.{rings_are_designs, rings_add_up}
use Rattle.world_gen.proofs.RingValuesAndSums.{ring_numbers_are_small}
use Rattle.world_gen.proofs.laws.rings_are_designs.Goals as goal

pub returns : goal.returns
returns c = record { designs = rings_are_designs; small = ring_numbers_are_small; sums = rings_add_up }
