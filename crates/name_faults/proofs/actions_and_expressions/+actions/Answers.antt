use Rattle.std.proofs.Common.{◌++◌, refl}
use Rattle.list_lemmas.proofs.Results.{OnOk-same}
use Rattle.aadl_tree.specs.declared.actions.Elsif.{Elsif}
use Rattle.aadl_tree.specs.proof.ExpressionViews.{expression_view}
use Rattle.aadl_tree.specs.proof.ActionViews.{action_view, actions_view, mores_view, elsifs_view}
use Rattle.aadl_tree.specs.proof.PlaceMaps.{kept_place}
use Rattle.aadl_tree.proofs.ActionViews.{view-out-choice, view-out-loop, view-out-actions}
use Rattle.aadl_names.specs.NameUseFaults.{expression_uses, action_uses, actions_uses, mores_uses, elsifs_uses}
use Rattle.name_faults.specs.proof.BehaviourScopes.{known_by}
use Rattle.aadl_names.proofs.FirstFaultSoFar.{found_append, next_found, last_found}
use Rattle.name_faults.proofs.actions_and_expressions.+actions.Goals as goal

pub check_actions-loop-action-preserved : goal.check_actions-loop-action-preserved
check_actions-loop-action-preserved t c =
    next_found (λ xs. mores_uses (known_by c.args.scope.now) (mores_view kept_place xs))
    (λ x. action_uses (known_by c.args.scope.now) (action_view kept_place x))
    (λ x xs. refl) _ _ _ _ _ _
    c.loop-action-test.true c.action-item.is c.loop-action.invariant c.in_ok-check_action-2.ensures

pub check_actions-returns : goal.check_actions-returns
check_actions-returns t c =
    let rest =
    last_found (λ xs. mores_uses (known_by c.args.scope.now) (mores_view kept_place xs)) _ _ _ _
    c.loop-action-test.false refl
    c.loop-action.invariant in
    let view = view-out-actions kept_place c.args.actions.now in
    rw (view, found_append) (cc (c.in_ok-check_action.ensures, c.deref-action-items.ensures.value))

pub check_choice-loop-elsif-preserved : goal.check_choice-loop-elsif-preserved
check_choice-loop-elsif-preserved t c =
    next_found (λ xs. elsifs_uses (known_by c.args.scope.now) (elsifs_view kept_place xs))
    (λ (x : Elsif). expression_uses (known_by c.args.scope.now) (expression_view kept_place x.test)
    ++ actions_uses (known_by c.args.scope.now) (actions_view kept_place x.actions))
    (λ x xs. refl) _ _ _ _ _ _
    c.loop-elsif-test.true c.elsif-item.is c.loop-elsif.invariant
    (rw found_append (cc (c.in_ok-check_expression-2.ensures, c.in_ok-check_actions-2.ensures)))

pub check_choice-returns-in-Some : goal.check_choice-returns-in-Some
check_choice-returns-in-Some t c =
    let rest =
    last_found (λ xs. elsifs_uses (known_by c.args.scope.now) (elsifs_view kept_place xs)) _ _ _ _
    c.loop-elsif-test.false refl
    c.loop-elsif.invariant in
    let view = view-out-choice kept_place c.args.choice.now in
    let some = c.in-Some.is in
    OnOk-same c.check_actions-in-Some.result c.check_actions-in-Some.new.finder _ _
    (rw (view, some, found_append, found_append, found_append)
    (cc (
      c.in_ok-check_expression.ensures,
      c.in_ok-check_actions.ensures,
      c.deref-elsif-items.ensures.value,
      c.deref.ensures,
    )))
    c.check_actions-in-Some.ensures

pub check_choice-returns-in-None : goal.check_choice-returns-in-None
check_choice-returns-in-None t c =
    let rest =
    last_found (λ xs. elsifs_uses (known_by c.args.scope.now) (elsifs_view kept_place xs)) _ _ _ _
    c.loop-elsif-test.false refl
    c.loop-elsif.invariant in
    let view = view-out-choice kept_place c.args.choice.now in
    let none = c.in-None.is in
    rw (view, none, found_append, found_append, found_append)
    (cc (c.in_ok-check_expression.ensures, c.in_ok-check_actions.ensures, c.deref-elsif-items.ensures.value))

pub check_loop-returns : goal.check_loop-returns
check_loop-returns t c =
    let view = view-out-loop kept_place c.args.turns.now in
    OnOk-same c.check_block.result c.check_block.new.finder _ _
    (rw (view, found_append) (cc (c.in_ok-check_again.ensures, c.in_ok-inner.ensures))) c.check_block.ensures
