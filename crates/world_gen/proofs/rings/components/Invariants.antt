use Rattle.std.proofs.Common.{◌≡◌, map}
use Rattle.pals_base.specs.UpwardNumbers.{upwards}
use Rattle.world_gen.specs.Rings.{ring_component}
use Rattle.world_gen.proofs.rings.components.Given as goal

abbrev pub invariant-loop-number : goal.invariant-loop-number
invariant-loop-number l = l.components ≡ map ring_component (upwards 0 l.number)
