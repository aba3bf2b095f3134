use Rattle.std.proofs.Common.{◌≡◌, map}
use Rattle.pals_base.specs.UpwardNumbers.{upwards}
use Rattle.step_compiler.specs.BlockInstructions.{entry_of}
use Rattle.step_compiler.specs.proof.BlockLengthsAndStarts.{in_list}
use Rattle.step_compiler.proofs.blocks.entries.Given as goal

abbrev pub invariant-loop-state : goal.invariant-loop-state
invariant-loop-state l = l.entries ≡ map (entry_of l.behaviour (in_list l.starts)) (upwards 0 l.state)
