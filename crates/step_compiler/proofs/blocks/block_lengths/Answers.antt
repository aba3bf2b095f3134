use Rattle.std.proofs.Common.{◌∙◌, [], ◌∷◌, ◌++◌, map, sym, ap}
use Rattle.pals_base.specs.UpwardNumbers.{upwards}
use Rattle.pals_base.proofs.UpwardNumbers.{map_upwards_more}
use Rattle.step_code.specs.CappedWeights.{capped}
use Rattle.step_code.specs.CodeLengths.{length_edges}
use Rattle.step_compiler.specs.proof.BlockLengthsAndStarts.{leaving_among, capped_length}
use Rattle.step_compiler.proofs.blocks.block_lengths.Goals as goal

pub loop-state-preserved : goal.loop-state-preserved
loop-state-preserved c =
    let b = c.args.behaviour.now in
    let s = c.loop-state.state in
    let before = map (capped_length b) (upwards 0 s) in
    c.in_ok-push.ensures.items
    ∙ ap (λ xs. xs ++ c.block_length.result ∷ []) c.loop-state.invariant
    ∙ ap (λ n. before ++ n ∷ [])
    (c.block_length.ensures ∙ ap (λ es. capped (length_edges (leaving_among s es))) c.transitions.ensures.value)
    ∙ sym (map_upwards_more (capped_length b) s)
