use Rattle.std.proofs.Common.{◌∙◌, ap, arith}
use Rattle.pals_base.specs.proof.TreeViews.{action_of, actions_along, branches_along}
use Rattle.pals_base.proofs.TreeViews.{action_of-If, action_of-For}
use Rattle.step_code.specs.CappedWeights.{capped}
use Rattle.step_code.specs.CodeLengths.{length_act, length_acts, length_branches}
use Rattle.step_compiler.proofs.code_lengths.+length_act.Goals as goal

pub act_length-returns-in-If : goal.act_length-returns-in-If
act_length-returns-in-If t c =
    let whole =
    ap (λ a. capped (length_act a)) (ap action_of c.in-If.is ∙ action_of-If c.in-If.branches c.in-If.otherwise) in
    let first = ap (λ xs. capped (length_branches (branches_along xs))) c.deref.ensures.value in
    let second = ap (λ xs. capped (length_acts (actions_along xs))) c.deref-in-If.ensures.value in
    omega (arith, c.branches_length-front.ensures, c.acts_length.ensures, c.saturating_add-in-If.ensures)

pub act_length-returns-in-For : goal.act_length-returns-in-For
act_length-returns-in-For t c =
    let whole =
    ap (λ a. capped (length_act a))
    (ap action_of c.in-For.is ∙ action_of-For c.in-For.low c.in-For.high c.in-For.body) in
    let body = ap (λ xs. capped (length_acts (actions_along xs))) c.deref-in-For.ensures.value in
    omega (arith, c.acts_length-in-For.ensures, c.saturating_add-in-For.ensures)
