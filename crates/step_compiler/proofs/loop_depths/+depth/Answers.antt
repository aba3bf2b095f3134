use Rattle.std.proofs.Common.{◌∙◌, ap, arith}
use Rattle.pals_base.specs.proof.TreeViews.{action_of, actions_along, branches_along}
use Rattle.pals_base.proofs.TreeViews.{action_of-If, action_of-For}
use Rattle.step_compiler.specs.LoopDepths.{depth_act, depth_acts, depth_branches}
use Rattle.step_compiler.proofs.loop_depths.+depth.Goals as goal

pub act_depth-returns-in_ok-acts_depth-in-If : goal.act_depth-returns-in_ok-acts_depth-in-If
act_depth-returns-in_ok-acts_depth-in-If t c =
    let whole = ap depth_act (ap action_of c.in-If.is ∙ action_of-If c.in-If.branches c.in-If.otherwise) in
    let first = ap (λ xs. depth_branches (branches_along xs)) c.deref.ensures.value in
    let second = ap (λ xs. depth_acts (actions_along xs)) c.deref-in-If.ensures.value in
    omega (arith, c.in_ok-depth-in-If.ensures, c.in_ok-acts_depth-in-If.ensures, c.max.ensures)

pub act_depth-returns-in_ok-acts_depth-in-For : goal.act_depth-returns-in_ok-acts_depth-in-For
act_depth-returns-in_ok-acts_depth-in-For t c =
    let whole = ap depth_act (ap action_of c.in-For.is ∙ action_of-For c.in-For.low c.in-For.high c.in-For.body) in
    let body = ap (λ xs. depth_acts (actions_along xs)) c.deref-in-For.ensures.value in
    grind (arith, whole, body, c.in_ok-acts_depth-in-For.ensures, c.next_depth.ensures)
