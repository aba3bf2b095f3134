use Rattle.std.proofs.Common.{◌≡◌, ◌++◌, length, drop}
use Rattle.step_compiler.specs.BlockInstructions.{blocks_code}
use Rattle.step_compiler.specs.proof.BlockLengthsAndStarts.{in_list}
use Rattle.step_compiler.proofs.blocks.push_blocks.Given as goal

abbrev pub invariant-loop-state : goal.invariant-loop-state
invariant-loop-state l =
    l.code ++ blocks_code l.behaviour (in_list l.starts) (drop l.state-index l.order) (length l.code)
    ≡ l.initial.code ++ blocks_code l.behaviour (in_list l.starts) l.order (length l.initial.code)
