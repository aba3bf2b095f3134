use Rattle.std.proofs.Common.{◌≡◌, ◌∙◌, true, false, [], ◌∷◌, ◌++◌, sym, ap, append-nil}
use Rattle.std.specs.Prelude.{slice_get, filter}
use Rattle.pals_base.specs.SingleStep.{completes, is_complete}
use Rattle.pals_base.specs.UpwardNumbers.{upwards}
use Rattle.step_compiler.proofs.NumbersFromZero.{filter_more}
use Rattle.step_compiler.proofs.block_order.complete_states.Goals as goal
use Rattle.step_compiler.proofs.block_order.complete_states.Goals.{then-is_complete+in_ok-push, else-is_complete}

pub loop-state-preserved : goal.loop-state-preserved
loop-state-preserved c =
    let b = c.args.behaviour.now in
    let s = c.loop-state.state in
    let told : c.is_complete.result ≡ is_complete b s = c.is_complete.ensures
    ∙ ap (λ ss. completes (slice_get ss s)) c.states.ensures.value in
    elim c.if-is_complete.branch [
      | then-is_complete+in_ok-push w ↦
          ap (λ v. v.items) w.complete-is ∙ w.in_ok-push.ensures.items ∙ ap (λ xs. xs ++ s ∷ []) c.loop-state.invariant
          ∙ sym (filter_more (is_complete b) s true (sym told ∙ w.if-is_complete.true))
      | else-is_complete w ↦
          ap (λ v. v.items) w.complete-is ∙ c.loop-state.invariant
          ∙ sym (append-nil (filter (is_complete b) (upwards 0 s)))
          ∙ sym (filter_more (is_complete b) s false (sym told ∙ w.if-is_complete.false))
    ]
