use Rattle.std.proofs.Common.{◌∷◌, ◌++◌, refl, append_assoc, arith}
use Rattle.list_lemmas.proofs.Results.{OnOk-same}
use Rattle.aadl_tree.specs.declared.mark.Mark.TheVariants as k
use Rattle.aadl_tree.specs.declared.actions.Elsif.{Elsif}
use Rattle.aadl_tree.specs.SpellingParts.{plain}
use Rattle.aadl_tree.specs.Actions.{test_parts, action_parts, actions_parts, mores_parts, elsifs_parts}
use Rattle.aadl_tree.specs.proof.ExpressionViews.{expression_view}
use Rattle.aadl_tree.specs.proof.ActionViews.{action_view, actions_view, mores_view, elsifs_view}
use Rattle.aadl_tree.specs.proof.PlaceMaps.{no_place}
use Rattle.aadl_tree.proofs.ActionViews.{view-out-choice, view-out-loop, view-out-actions, view-out-block}
use Rattle.aadl_print.proofs.PrintedLists.{printed_append, next_written, last_written}
use Rattle.aadl_print.proofs.actions.+action.Goals as goal
use Rattle.aadl_print.proofs.actions.+action.Goals.{print_block-in-Some+in_ok-print_actions, print_block-in_default}
use Rattle.aadl_print.proofs.actions.+action.Goals.{print_choice-in-Some+in_ok-mark-3+in_ok-print_actions-3}
use Rattle.aadl_print.proofs.actions.+action.Goals.{print_choice-in_default}

pub print_actions-loop-action-preserved : goal.print_actions-loop-action-preserved
print_actions-loop-action-preserved t c =
    next_written (λ xs. mores_parts (mores_view no_place xs))
    (λ x. plain k.Semicolon ∷ action_parts (action_view no_place x))
    (λ x xs. refl) _ _ _ _ _ _
    c.loop-action-test.true c.action-item.is c.loop-action.invariant
    (cc (c.in_ok-mark.ensures, c.in_ok-print_action-2.ensures))

pub print_actions-returns : goal.print_actions-returns
print_actions-returns t c =
    let rest =
    last_written (λ xs. mores_parts (mores_view no_place xs)) _ _ _ _ c.loop-action-test.false refl
    c.loop-action.invariant in
    let view = view-out-actions no_place c.args.actions.now in
    rw (view, printed_append, printed_append) (cc (c.in_ok-print_action.ensures, c.deref-action-items.ensures.value))

pub print_loop-returns : goal.print_loop-returns
print_loop-returns t c =
    let view = view-out-loop no_place c.args.turns.now in
    OnOk-same c.print_block.result c.print_block.new.printer _ _
    (rw view (grind (
      arith,
      printed_append,
      c.in_ok-mark.ensures,
      c.in_ok-mark-2.ensures,
      c.in_ok-print.ensures,
      c.in_ok-mark-3.ensures,
      c.in_ok-print-2.ensures,
      c.in_ok-mark-4.ensures,
      c.in_ok-print_bound.ensures,
      c.in_ok-mark-5.ensures,
      c.in_ok-print_bound-2.ensures,
      c.in_ok-mark-6.ensures,
    )))
    c.print_block.ensures

pub print_block-returns : goal.print_block-returns
print_block-returns t c =
    let view = view-out-block no_place c.args.block.now in
    OnOk-same c.mark-2.result c.mark-2.new.self _ _
    (elim c.match-block.branch [
      | print_block-in-Some+in_ok-print_actions w ↦
          (let some = w.in-Some.is in
          rw (view, some, printed_append) (cc (c.in_ok-mark.ensures, w.in_ok-print_actions.ensures)))
      | print_block-in_default w ↦ (let none = w.in_default.is in rw (view, none) (cc (c.in_ok-mark.ensures)))
    ])
    c.mark-2.ensures

pub print_choice-loop-elsif-preserved : goal.print_choice-loop-elsif-preserved
print_choice-loop-elsif-preserved t c =
    next_written (λ xs. elsifs_parts (elsifs_view no_place xs))
    (λ (x : Elsif). plain k.Elsif
    ∷ (test_parts (expression_view no_place x.test) ++ actions_parts (actions_view no_place x.actions)))
    (λ x xs. simp append_assoc) _ _ _ _ _ _
    c.loop-elsif-test.true c.elsif-item.is c.loop-elsif.invariant
    (rw printed_append (cc (c.in_ok-mark-2.ensures, c.in_ok-print_test-2.ensures, c.in_ok-print_actions-2.ensures)))

pub print_choice-returns : goal.print_choice-returns
print_choice-returns t c =
    let rest =
    last_written (λ xs. elsifs_parts (elsifs_view no_place xs)) _ _ _ _ c.loop-elsif-test.false refl
    c.loop-elsif.invariant in
    let view = view-out-choice no_place c.args.choice.now in
    OnOk-same c.mark-3.result c.mark-3.new.self _ _
    (elim c.match-choice.branch [
      | print_choice-in-Some+in_ok-mark-3+in_ok-print_actions-3 w ↦ (let some = w.in-Some.is in
          rw (view, printed_append, printed_append, printed_append, printed_append, some)
          (cc (
            c.in_ok-mark.ensures,
            c.in_ok-print_test.ensures,
            c.in_ok-print_actions.ensures,
            c.deref-elsif-items.ensures.value,
            w.in_ok-mark-3.ensures,
            w.in_ok-print_actions-3.ensures,
            c.in_ok-mark-4.ensures,
          )))
      | print_choice-in_default w ↦ (let none = w.in_default.is in
          rw (view, printed_append, printed_append, printed_append, none)
          (cc (
            c.in_ok-mark.ensures,
            c.in_ok-print_test.ensures,
            c.in_ok-print_actions.ensures,
            c.deref-elsif-items.ensures.value,
            c.in_ok-mark-4.ensures,
          )))
    ])
    c.mark-3.ensures
