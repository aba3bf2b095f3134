use Rattle.std.proofs.Common.{◌∙◌, ◌+◌, ◌<◌, [], ◌∷◌, ◌++◌, length, drop, slice_index_or, sym, ap, arith}
use Rattle.list_lemmas.proofs.ListOperations.{drop-next}
use Rattle.pals_base.specs.SingleStep.{is_complete}
use Rattle.step_code.specs.CodeLengths.{length_edges}
use Rattle.step_compiler.specs.BlockInstructions.{block_code}
use Rattle.step_compiler.specs.proof.BlockLengthsAndStarts.{in_list, leaving_among}
use Rattle.step_compiler.proofs.PlacedCodeLengths.{block-length}
use Rattle.step_compiler.proofs.AppendedCode.{more_parts}
use Rattle.step_compiler.proofs.LayoutSplits.{leaving_split}
use Rattle.step_compiler.proofs.blocks.push_block.Goals as goal

pub loop-transition-preserved : goal.loop-transition-preserved
loop-transition-preserved c =
    let cur = c.loop-transition.code in
    let b = c.args.behaviour.now in
    let starts = in_list c.args.starts.now in
    let s = c.args.state in
    let complete = is_complete b s in
    let i = c.loop-transition.transition-index in
    let e = c.transition-item.result in
    let all = c.transitions-transition-items.ensures.value in
    let size = c.transitions-transition-items.ensures.len in
    let within : i < length b.transitions = omega (arith, c.loop-transition-test.true) in
    let left = drop-next b.transitions i e within (c.transition-item.is ∙ ap (λ xs. slice_index_or xs i e) all) in
    let rest = drop (i + 1) b.transitions in
    let one = leaving_among s (e ∷ []) in
    more_parts cur c.push_if_leaving.new.code (block_code b starts complete one (length cur)) (length_edges one)
    (block_code b starts complete (leaving_among s rest)) c.in_ok-push_if_leaving.ensures
    (block-length b starts complete one (length cur))
    ∙ ap (λ xs. cur ++ xs) (leaving_split b starts complete s e rest (length cur))
    ∙ ap (λ es. cur ++ block_code b starts complete (leaving_among s es) (length cur)) (sym left)
    ∙ c.loop-transition.invariant
