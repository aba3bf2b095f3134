use Rattle.std.proofs.Common.{◌≡◌, replicate}
use Rattle.pals_base.specs.declared.basic_types.PortValue.TheVariants.{Absent}
use Rattle.pals_node.proofs.written_tuples.absent_tuples.Given as goal

abbrev pub invariant-loop-tuple : goal.invariant-loop-tuple
invariant-loop-tuple l = l.tuples ≡ replicate l._tuple (replicate l.places Absent)
