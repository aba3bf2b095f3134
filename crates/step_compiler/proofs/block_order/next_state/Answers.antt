use Rattle.std.proofs.Common.{◌≡◌, ◌∙◌, ◌<◌, Bool, true, false, ◌&&◌, not, List, length, slice_index_or, sym, ap, arith}
use Rattle.std.specs.Prelude.{fold, replicate}
use Rattle.pals_base.specs.ExpressionAndActionTrees.{Edge}
use Rattle.pals_base.specs.declared.behaviour.BehaviourParts.{BehaviourParts}
use Rattle.step_compiler.specs.proof.BlockOrder.{is_placed, is_awaited, may_follow, states_outside, with_target}
use Rattle.step_compiler.proofs.NumbersFromZero.{found, skipped}
use Rattle.step_compiler.proofs.AwaitedStateMarks.{outside_tells, awaited_tells}
use Rattle.step_compiler.proofs.block_order.next_state.Goals as goal
use Rattle.step_compiler.proofs.block_order.next_state.Goals.{else-item_at-via-then-item_at+else-not-item_at}
use Rattle.step_compiler.proofs.block_order.next_state.Goals.{else-item_at-via-else-item_at}

both_hold : (o a p w : Bool) → o ≡ not p → a ≡ w → o ≡ true → a ≡ false → (not p && not w) ≡ true
both_hold o a p w out aw is isnt = grind (arith, out, aw, is, isnt)

first_fails : (o p w : Bool) → o ≡ not p → o ≡ false → (not p && not w) ≡ false
first_fails o p w out isnt = ap (λ x. x && not w) (sym out ∙ isnt)

second_fails : (a p w : Bool) → a ≡ w → a ≡ true → (not p && not w) ≡ false
second_fails a true w aw is = grind (arith, aw, is)
second_fails a false w aw is = ap not (sym aw ∙ is)

pub returns-then-not-item_at : goal.returns-then-not-item_at
returns-then-not-item_at c =
    let b = c.args.behaviour.now in
    let order = c.args.order.now in
    let s = c.loop-state.state in
    let same = c.parts-parts.ensures.value in
    let n_is : c.len-states.result ≡ length b.states = c.len-states.ensures
    ∙ ap (λ (x : BehaviourParts). length x.states) same in
    let within : s < length b.states = omega (arith, c.loop-state-test.true) in
    let listed = c.in_ok-outside.ensures ∙ ap (states_outside order) n_is in
    let marks = λ (xs : List Bool) (es : List Edge). fold (with_target xs) (replicate (length xs) false) es in
    let swept = c.in_ok-awaited.ensures ∙ ap (λ xs. marks xs c.as_slice.result.now) (c.deref.ensures.value ∙ listed)
    ∙ ap (marks (states_outside order (length b.states)))
    (c.as_slice.ensures.value ∙ ap (λ (x : BehaviourParts). x.transitions) same) in
    let out =
    c.item_at.ensures ∙ ap (λ xs. slice_index_or xs s false) (c.deref-in-loop-state.ensures.value ∙ listed)
    ∙ outside_tells b order s within in
    let aw =
    c.item_at-then-item_at.ensures
    ∙ ap (λ xs. slice_index_or xs s false) (c.deref-then-item_at.ensures.value ∙ swept)
    ∙ awaited_tells b order s c.parts-parts.ensures.rules within in
    sym (found (may_follow b order) s (length b.states) within
    (both_hold c.item_at.result c.item_at-then-item_at.result (is_placed order s) (is_awaited b order s) out aw
    c.if-item_at.true c.if-not-item_at.true))
    ∙ c.loop-state.invariant

pub loop-state-preserved : goal.loop-state-preserved
loop-state-preserved c =
    let b = c.args.behaviour.now in
    let order = c.args.order.now in
    let s = c.loop-state.state in
    let same = c.parts-parts.ensures.value in
    let n_is : c.len-states.result ≡ length b.states = c.len-states.ensures
    ∙ ap (λ (x : BehaviourParts). length x.states) same in
    let within : s < length b.states = omega (arith, c.loop-state-test.true) in
    let listed = c.in_ok-outside.ensures ∙ ap (states_outside order) n_is in
    let marks = λ (xs : List Bool) (es : List Edge). fold (with_target xs) (replicate (length xs) false) es in
    let swept = c.in_ok-awaited.ensures ∙ ap (λ xs. marks xs c.as_slice.result.now) (c.deref.ensures.value ∙ listed)
    ∙ ap (marks (states_outside order (length b.states)))
    (c.as_slice.ensures.value ∙ ap (λ (x : BehaviourParts). x.transitions) same) in
    let out =
    c.item_at.ensures ∙ ap (λ xs. slice_index_or xs s false) (c.deref-in-loop-state.ensures.value ∙ listed)
    ∙ outside_tells b order s within in
    elim c.else-item_at.branch [
      | else-item_at-via-then-item_at+else-not-item_at w ↦
          let aw =
          w.item_at-then-item_at.ensures
          ∙ ap (λ xs. slice_index_or xs s false) (w.deref-then-item_at.ensures.value ∙ swept)
          ∙ awaited_tells b order s c.parts-parts.ensures.rules within in
          skipped (may_follow b order) s (length b.states) within
          (second_fails w.item_at-then-item_at.result (is_placed order s) (is_awaited b order s) aw
          w.if-not-item_at.false) ∙ c.loop-state.invariant
      | else-item_at-via-else-item_at w ↦
          skipped (may_follow b order) s (length b.states) within
          (first_fails c.item_at.result (is_placed order s) (is_awaited b order s) out w.if-item_at.false)
          ∙ c.loop-state.invariant
    ]
