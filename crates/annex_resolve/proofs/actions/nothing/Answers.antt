use Rattle.std.proofs.Common.{ap, ◌∙◌}
use Rattle.pals_base.specs.ExpressionAndActionTrees.{If, NoBranch}
use Rattle.pals_base.specs.proof.TreeViews.{actions_along, branches_along}
use Rattle.pals_base.proofs.TreeViews.{action_of-If}
use Rattle.annex_resolve.proofs.actions.nothing.Goals as goal

pub returns : goal.returns
returns c =
    action_of-If c.new.result c.new-2.result
    ∙ ap (λ bs. If (branches_along bs) (actions_along c.new-2.result.items)) c.new.ensures.items
    ∙ ap (λ os. If NoBranch (actions_along os)) c.new-2.ensures.items
