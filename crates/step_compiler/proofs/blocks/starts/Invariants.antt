use Rattle.std.proofs.Common.{◌≡◌, map}
use Rattle.pals_base.specs.UpwardNumbers.{upwards}
use Rattle.step_compiler.specs.BlockInstructions.{start_of}
use Rattle.step_compiler.proofs.blocks.starts.Given as goal

abbrev pub invariant-loop-state : goal.invariant-loop-state
invariant-loop-state l = l.starts.items ≡ map (start_of l.behaviour l.order) (upwards 0 l.state)
