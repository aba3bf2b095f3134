use Rattle.std.proofs.Common.{◌≡◌, map}
use Rattle.pals_base.specs.UpwardNumbers.{upwards}
use Rattle.world_gen.specs.Rings.{ring_link}
use Rattle.world_gen.proofs.rings.links.Given as goal

abbrev pub invariant-loop-number : goal.invariant-loop-number
invariant-loop-number l = l.links ≡ map (ring_link l.n) (upwards 0 l.number)
