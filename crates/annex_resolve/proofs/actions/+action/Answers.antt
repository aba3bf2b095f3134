use Rattle.std.proofs.Common.{sym, ap, ◌∙◌, rules}
use Rattle.std.proofs.lemmas.List.{take_all}
use Rattle.std.proofs.lemmas.Int.{to_z-of_z}
use mir.Syntax.{w64}
use mir.Val.{SFits, to_z, of_z}
use Rattle.pals_base.specs.TypingRules as base
use Rattle.pals_base.specs.ExpressionAndActionTrees.{For}
use Rattle.pals_base.specs.proof.TreeViews.{actions_along}
use Rattle.pals_base.proofs.TreeViews.{action_of-If, action_of-For}
use Rattle.aadl_tree.specs.declared.actions.Action.TheViews.{out-Actions, out-Choice, out-Loop}
use Rattle.aadl_tree.specs.proof.PlaceMaps.{kept_place}
use Rattle.aadl_tree.specs.proof.NameViews.{identifier_view, reference_view}
use Rattle.aadl_tree.specs.proof.ExpressionViews.{expression_view}
use Rattle.std.specs.Prelude.{option_map}
use Rattle.aadl_tree.specs.Actions.{actions, choose}
use Rattle.aadl_tree.specs.proof.ActionViews.{action_view, actions_view, block_view, mores_view, elsifs_view}
use Rattle.aadl_tree.specs.proof.ActionViews.{otherwise_of as listed_otherwise}
use Rattle.aadl_tree.proofs.ActionViews.{view-Assign, view-Send, view-If, view-For, view-out-choice, view-out-loop}
use Rattle.aadl_tree.proofs.ActionViews.{view-out-actions, view-out-block}
use Rattle.annex_resolve.specs.NameMeanings.{entry_named}
use Rattle.annex_resolve.proofs.ResolvedActions.{assigned, sent, same_action, one_action, next_action, all_actions}
use Rattle.annex_resolve.proofs.ResolvedActions.{no_actions, some_actions, same_block, branch_read, one_branch}
use Rattle.annex_resolve.proofs.ResolvedActions.{next_branch, chosen, looped}
use Rattle.annex_resolve.proofs.actions.+action.Goals as goal

pub resolve_action-returns-in_ok-add_if-in-Assign : goal.resolve_action-returns-in_ok-add_if-in-Assign
resolve_action-returns-in_ok-add_if-in-Assign t c =
    assigned c.args.scope.now c.args.around _ (identifier_view kept_place c.in-Assign.target)
    (expression_view kept_place c.in-Assign.value) _ c.may_set.result c.give.result _ _ _
    (ap (action_view kept_place) c.in-Assign.is ∙ view-Assign kept_place c.in-Assign.target c.in-Assign.value)
    (c.find-entry.ensures ∙ ap (entry_named c.args.scope.now) c.as_str.ensures.value) c.may_set.ensures
    c.in_ok-add_if-in-Assign.ensures c.give.ensures

pub resolve_action-returns-in_ok-add_if-in-Send : goal.resolve_action-returns-in_ok-add_if-in-Send
resolve_action-returns-in_ok-add_if-in-Send t c =
    sent c.args.scope.now c.args.around _ (identifier_view kept_place c.in-Send.port)
    (expression_view kept_place c.in-Send.value) _ c.may_send.result c.give-in-Send.result _ _ _
    (ap (action_view kept_place) c.in-Send.is ∙ view-Send kept_place c.in-Send.port c.in-Send.value)
    (c.find-entry-in-Send.ensures ∙ ap (entry_named c.args.scope.now) c.as_str-in-Send.ensures.value) c.may_send.ensures
    c.in_ok-add_if-in-Send.ensures c.give-in-Send.ensures

pub resolve_action-returns-in-If : goal.resolve_action-returns-in-If
resolve_action-returns-in-If t c =
    let same = sym c.deref.ensures in
    same_action c.args.scope.now c.args.around _ _ c.resolve_choice.result _ _
    (ap (action_view kept_place) c.in-If.is ∙ view-If kept_place c.in-If.choice) (rw same c.resolve_choice.ensures)

pub resolve_action-returns-in-For : goal.resolve_action-returns-in-For
resolve_action-returns-in-For t c =
    let same = sym c.deref-in-For.ensures in
    same_action c.args.scope.now c.args.around _ _ c.resolve_loop.result _ _
    (ap (action_view kept_place) c.in-For.is ∙ view-For kept_place c.in-For.turns) (rw same c.resolve_loop.ensures)

-- ---- actions in sequence
pub resolve_block-returns : goal.resolve_block-returns
resolve_block-returns t c =
    same_block c.args.scope.now c.args.around _ _ c.resolve_some.result _ _ (view-out-block kept_place c.args.block.now)
    c.resolve_some.ensures

pub resolve_some-returns-in-None : goal.resolve_some-returns-in-None
resolve_some-returns-in-None t c =
    no_actions c.args.scope.now c.args.around c.args.actions.now c.new.result.items c.args.found.now c.in-None.is
    c.new.ensures.items

pub resolve_some-returns-in-Some : goal.resolve_some-returns-in-Some
resolve_some-returns-in-Some t c =
    let same = sym c.deref.ensures in
    some_actions c.args.scope.now c.args.around c.args.actions.now c.in-Some.actions c.resolve_actions.result _ _
    c.in-Some.is (rw same c.resolve_actions.ensures)

pub resolve_actions-loop-action-init : goal.resolve_actions-loop-action-init
resolve_actions-loop-action-init t c =
    one_action c.args.scope.now c.args.around _ c.in_ok-first.first _ _ _ _ c.in_ok-first.ensures
    c.new-acts.ensures.items c.in_ok-push_compact.ensures

pub resolve_actions-loop-action-preserved : goal.resolve_actions-loop-action-preserved
resolve_actions-loop-action-preserved t c =
    next_action c.args.scope.now c.args.around _ _ _ _ c.in_ok-act.act _ _ _ _ _ c.loop-action-test.true
    c.action-item.is c.loop-action.invariant c.in_ok-act.ensures c.in_ok-push_compact-2.ensures

pub resolve_actions-returns : goal.resolve_actions-returns
resolve_actions-returns t c =
    let all = take_all c.loop-action.action-index c.deref-action-items.result.now c.loop-action-test.false in
    all_actions c.args.scope.now c.args.around _ _ c.deref-action-items.result.now _ _ _
    (view-out-actions kept_place c.args.actions.now
    ∙ ap (λ xs. actions (action_view kept_place (out-Actions c.args.actions.now).first) (mores_view kept_place xs))
    (sym c.deref-action-items.ensures.value))
    (rw all at c.loop-action.invariant)

-- ---- branches
pub resolve_branch-returns : goal.resolve_branch-returns
resolve_branch-returns t c =
    branch_read c.args.scope.now c.args.around (expression_view kept_place c.args.test.now)
    (actions_view kept_place c.args.actions.now) _ _ _ _ _ c.in_ok-guard.ensures.tree c.in_ok-guard.ensures.found
    c.in_ok-acts.ensures

pub resolve_choice-loop-elsif-init : goal.resolve_choice-loop-elsif-init
resolve_choice-loop-elsif-init t c =
    one_branch c.args.scope.now c.args.around _ _ c.in_ok-first.first _ _ _ _ c.in_ok-first.ensures
    c.new-branches.ensures.items c.in_ok-push_compact.ensures

pub resolve_choice-loop-elsif-preserved : goal.resolve_choice-loop-elsif-preserved
resolve_choice-loop-elsif-preserved t c =
    next_branch c.args.scope.now c.args.around _ _ _ _ _ c.in_ok-branch.branch _ _ _ _ _ c.loop-elsif-test.true
    c.elsif-item.is c.loop-elsif.invariant c.in_ok-branch.ensures c.in_ok-push_compact-2.ensures

pub resolve_choice-returns : goal.resolve_choice-returns
resolve_choice-returns t c =
    let all = take_all c.loop-elsif.elsif-index c.deref-elsif-items.result.now c.loop-elsif-test.false in
    let x = out-Choice c.args.choice.now in
    chosen c.args.scope.now c.args.around _ _ _ c.deref-elsif-items.result.now x.otherwise _ _ _ _ _ _
    (view-out-choice kept_place c.args.choice.now
    ∙ ap (λ es. choose (expression_view kept_place x.test) (actions_view kept_place x.actions)
    (elsifs_view kept_place es) (listed_otherwise (option_map (λ b. actions_view kept_place b.value) x.otherwise)))
    (sym c.deref-elsif-items.ensures.value))
    (rw all at c.loop-elsif.invariant) c.in_ok-otherwise.ensures
    (action_of-If c.loop-elsif.branches c.in_ok-otherwise.otherwise)

-- ---- loops
pub resolve_loop-returns : goal.resolve_loop-returns
resolve_loop-returns t c =
    let low : SFits w64 c.in_ok-low.low = search rules in
    let high : SFits w64 c.in_ok-high.high = search rules in
    let x = out-Loop c.args.turns.now in
    looped c.args.scope.now c.args.around _ x.at (identifier_view kept_place x.variable)
    (reference_view kept_place x.data_type) x.low x.high (block_view kept_place x.body) c.in_ok-low.low
    c.in_ok-high.high c.kind_named-kind.result c.is_integer.result c.is_too_long.result c.count_turns-count.result
    c.turns_with_outer.result c.in_ok-inner.inner _ c.in_ok-body.body.items _ _ _ _
    (view-out-loop kept_place c.args.turns.now) c.in_ok-low.ensures c.in_ok-high.ensures
    (c.count_turns-count.ensures.value
    ∙ ap (λ l. base.turns l (to_z w64 (of_z w64 c.in_ok-high.high))) (to_z-of_z w64 _ low)
    ∙ ap (base.turns c.in_ok-low.low) (to_z-of_z w64 _ high))
    c.kind_named-kind.ensures c.is_integer.ensures c.in_ok-add_if.ensures c.is_too_long.ensures c.in_ok-add_if-2.ensures
    c.in_ok-inner.ensures c.turns_with_outer.ensures.value c.in_ok-body.ensures
    (action_of-For (to_z w64 (of_z w64 c.in_ok-low.low)) (to_z w64 (of_z w64 c.in_ok-high.high)) c.in_ok-body.body
    ∙ ap (λ l. For l (to_z w64 (of_z w64 c.in_ok-high.high)) (actions_along c.in_ok-body.body.items))
    (to_z-of_z w64 _ low)
    ∙ ap (λ h. For c.in_ok-low.low h (actions_along c.in_ok-body.body.items)) (to_z-of_z w64 _ high))
