use Rattle.std.proofs.Common.{◌≡◌, ◌∙◌, ◌<◌, ◌++◌, length, List, Option, ℕ, map, sym, ap, subst}
use Rattle.std.specs.List.{All}
use Rattle.pals_base.specs.declared.behaviour.BehaviourParts.{BehaviourParts}
use Rattle.step_code.specs.declared.instr.Instr.{Instr}
use Rattle.step_code.specs.declared.instr.CodeParts.{CodeParts}
use Rattle.step_compiler.specs.LaidOutCode.{states_of}
use Rattle.step_compiler.specs.proof.BlockOrder.{block_order}
use Rattle.step_compiler.specs.LoopDepths.{depth_edges}
use Rattle.step_compiler.specs.proof.BlockLengthsAndStarts.{in_list}
use Rattle.step_compiler.specs.proof.CompiledCode.{block_starts, compiled}
use Rattle.step_compiler.specs.BlockInstructions.{start_of, blocks_code, entry_of}
use Rattle.step_compiler.proofs.BlockOrderCompleteness.{order_within}
use Rattle.step_compiler.proofs.compiler.compiled.Goals as goal

pub starts-requires : goal.starts-requires
starts-requires c =
    let b = c.args.behaviour.now in
    subst (All (λ s. s < length b.states)) (sym (c.deref.ensures.value ∙ c.in_ok-order.ensures))
    (order_within b c.parts-parts.ensures.rules)

same_parts : (is is' : List Instr) (es es' : List (Option ℕ)) (v v' l l' i i' o o' : ℕ) → is ≡ is' → es ≡ es' → v ≡ v'
    → l ≡ l' → i ≡ i' → o ≡ o'
    → ◌≡◌ {A = CodeParts} (record { instrs = is; entries = es; vars = v; loops = l; ins = i; outs = o })
    (record { instrs = is'; entries = es'; vars = v'; loops = l'; ins = i'; outs = o' })
same_parts is is' es es' v v' l l' i i' o o' a b c d e f = cc

pub returns : goal.returns
unfolding compiled
returns c =
    let b = c.args.behaviour.now in
    let same = c.parts-parts.ensures.value in
    let order : c.deref-3.result.now ≡ block_order b = c.deref-3.ensures.value ∙ c.in_ok-order.ensures in
    let order2 = c.deref.ensures.value ∙ c.in_ok-order.ensures in
    let listed = c.in_ok-starts.ensures ∙ ap (λ o. map (start_of b o) (states_of b)) order2 in
    let instrs = c.instrs.view_is ∙ c.in_ok-push_blocks.ensures
    ∙ ap (λ xs. xs ++ blocks_code b (in_list c.deref-2.result.now) c.deref-3.result.now (length xs))
    c.new-instrs.ensures
    ∙ ap (λ xs. blocks_code b (in_list xs) c.deref-3.result.now 0) (c.deref-2.ensures.value ∙ listed)
    ∙ ap (λ o. blocks_code b (in_list (block_starts b)) o 0) order in
    let entries =
    c.in_ok-entries.ensures ∙ ap (λ xs. map (entry_of b (in_list xs)) (states_of b))
    (c.deref-4.ensures.value ∙ listed) in
    let vars = c.in_ok-count.ensures ∙ c.len.ensures ∙ ap (λ (x : BehaviourParts). length x.vars) same in
    let loops =
    c.in_ok-transitions_depth.ensures
    ∙ ap depth_edges (c.as_slice.ensures.value ∙ ap (λ (x : BehaviourParts). x.transitions) same) in
    let ins = c.in_ok-count-2.ensures ∙ c.len-2.ensures ∙ ap (λ (x : BehaviourParts). length x.ins) same in
    let outs = c.in_ok-count-3.ensures ∙ c.len-3.ensures ∙ ap (λ (x : BehaviourParts). length x.outs) same in
    same_parts _ _ _ _ _ _ _ _ _ _ _ _ instrs entries vars loops ins outs
