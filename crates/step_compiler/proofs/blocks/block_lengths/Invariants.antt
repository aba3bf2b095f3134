use Rattle.std.proofs.Common.{◌≡◌, map}
use Rattle.pals_base.specs.UpwardNumbers.{upwards}
use Rattle.step_compiler.specs.proof.BlockLengthsAndStarts.{capped_length}
use Rattle.step_compiler.proofs.blocks.block_lengths.Given as goal

abbrev pub invariant-loop-state : goal.invariant-loop-state
invariant-loop-state l = l.lengths.items ≡ map (capped_length l.behaviour) (upwards 0 l.state)
