use Rattle.std.proofs.Common.{◌∙◌, [], ◌∷◌, ◌++◌, map, sym, ap, zero-add}
use Rattle.pals_base.specs.UpwardNumbers.{upwards}
use Rattle.pals_base.proofs.UpwardNumbers.{map_upwards_more}
use Rattle.step_code.specs.CappedWeights.{capped}
use Rattle.step_compiler.specs.proof.BlockLengthsAndStarts.{start_in}
use Rattle.step_compiler.specs.BlockInstructions.{start_of}
use Rattle.step_compiler.proofs.CappedBlockStarts.{starts_capped}
use Rattle.step_compiler.proofs.blocks.starts.Goals as goal

pub loop-state-preserved : goal.loop-state-preserved
loop-state-preserved c =
    let b = c.args.behaviour.now in
    let order = c.args.order.now in
    let s = c.loop-state.state in
    let before = map (start_of b order) (upwards 0 s) in
    let listed = c.deref.ensures.value ∙ c.in_ok-lengths.ensures in
    let summed =
    c.start_in.ensures ∙ ap (λ ls. capped (start_in ls order s)) listed ∙ starts_capped b order s c.requires in
    c.in_ok-push.ensures.items
    ∙ ap (λ xs. xs ++ c.in_ok-place_behind.field-0 ∷ []) c.loop-state.invariant
    ∙ ap (λ n. before ++ n ∷ []) (c.in_ok-place_behind.ensures (start_of b order s) summed
    ∙ zero-add (start_of b order s))
    ∙ sym (map_upwards_more (start_of b order) s)
