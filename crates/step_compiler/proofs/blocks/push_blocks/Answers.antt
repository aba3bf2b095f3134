use Rattle.std.proofs.Common.{◌∙◌, ◌+◌, ◌∷◌, ◌++◌, length, drop, slice_index_or, sym, ap, add-one, drop-cons}
use Rattle.pals_base.specs.SingleStep.{is_complete, leaving}
use Rattle.step_compiler.specs.BlockInstructions.{block_code, block_length, blocks_code}
use Rattle.step_compiler.specs.proof.BlockLengthsAndStarts.{in_list}
use Rattle.step_compiler.proofs.PlacedCodeLengths.{block-length}
use Rattle.step_compiler.proofs.AppendedCode.{more_parts}
use Rattle.step_compiler.proofs.blocks.push_blocks.Goals as goal

pub loop-state-preserved : goal.loop-state-preserved
loop-state-preserved c =
    let cur = c.loop-state.code in
    let b = c.args.behaviour.now in
    let starts = in_list c.args.starts.now in
    let order = c.args.order.now in
    let i = c.loop-state.state-index in
    let s = slice_index_or order i 0 in
    let left = drop-cons order i 0 c.loop-state-test.true ∙ ap (λ k. s ∷ drop k order) (sym (add-one i)) in
    more_parts cur c.push_block.new.code (block_code b starts (is_complete b s) (leaving b s) (length cur))
    (block_length b s) (blocks_code b starts (drop (i + 1) order)) c.in_ok-push_block.ensures
    (block-length b starts (is_complete b s) (leaving b s) (length cur))
    ∙ ap (λ ss. cur ++ blocks_code b starts ss (length cur)) (sym left)
    ∙ c.loop-state.invariant
