use Rattle.std.proofs.Common.{◌≡◌, ◌++◌, length, drop, nat_eq}
use Rattle.std.specs.Prelude.{filter}
use Rattle.pals_base.specs.SingleStep.{is_complete, leaving}
use Rattle.step_compiler.specs.BlockInstructions.{block_code}
use Rattle.step_compiler.specs.proof.BlockLengthsAndStarts.{in_list}
use Rattle.step_compiler.proofs.blocks.push_block.Given as goal

abbrev pub invariant-loop-transition : goal.invariant-loop-transition
invariant-loop-transition l =
    l.code ++ block_code l.behaviour (in_list l.starts) (is_complete l.behaviour l.state)
    (filter (λ e. nat_eq e.source l.state) (drop l.transition-index l.behaviour.transitions)) (length l.code)
    ≡ l.initial.code ++ block_code l.behaviour (in_list l.starts) (is_complete l.behaviour l.state)
    (leaving l.behaviour l.state) (length l.initial.code)
