use Rattle.std.proofs.Common.{◌++◌, take}
use Rattle.pals_base.specs.ExpressionAndActionTrees.{Do, Where}
use Rattle.aadl_tree.specs.declared.actions.Action.TheViews.{out-Actions, out-Choice}
use Rattle.aadl_tree.specs.proof.PlaceMaps.{kept_place}
use Rattle.aadl_tree.specs.proof.ExpressionViews.{expression_view}
use Rattle.aadl_tree.specs.proof.ActionViews.{action_view, actions_view, mores_view, elsifs_view}
use Rattle.annex_resolve.specs.ResolvedTrees.{expression_of, action_of, actions_of, mores_of, elsifs_of}
use Rattle.annex_resolve.specs.ActionFindings.{action_findings, mores_findings, branch_findings, elsifs_findings}
use Rattle.annex_resolve.specs.proof.ResolutionResults.{ResolvesActions, ResolvesBranches}
use Rattle.annex_resolve.proofs.actions.+action.Given as goal

-- the first action and the following ones so far have been read
abbrev pub invariant-resolve_actions-loop-action : goal.invariant-resolve_actions-loop-action
invariant-resolve_actions-loop-action l =
    let first = action_view kept_place (out-Actions l.actions).first in
    let xs = mores_view kept_place (take l.action-index l.action-items) in
    ResolvesActions (Do (action_of l.scope first) (mores_of l.scope xs))
    (action_findings l.scope l.around first ++ mores_findings l.scope l.around xs) l.acts.items l.fn.found l.found

-- the same for branches
abbrev pub invariant-resolve_choice-loop-elsif : goal.invariant-resolve_choice-loop-elsif
invariant-resolve_choice-loop-elsif l =
    let e = expression_view kept_place (out-Choice l.choice).test in
    let a = actions_view kept_place (out-Choice l.choice).actions in
    let xs = elsifs_view kept_place (take l.elsif-index l.elsif-items) in
    ResolvesBranches (Where (expression_of l.scope e) (actions_of l.scope a) (elsifs_of l.scope xs))
    (branch_findings l.scope l.around e a ++ elsifs_findings l.scope l.around xs)
    l.branches.items l.fn.found l.found
