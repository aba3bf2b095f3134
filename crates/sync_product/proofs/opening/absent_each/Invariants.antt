use Rattle.std.proofs.Common.{◌≡◌, map, replicate, take}
use Rattle.pals_base.specs.declared.basic_types.PortValue.TheVariants.{Absent}
use Rattle.sync_product.proofs.opening.absent_each.Given as goal

abbrev pub invariant-loop-port : goal.invariant-loop-port
invariant-loop-port l = l.tuples ≡ map (λ _. replicate l.rate Absent) (take l._port-index l.ports)
