use Rattle.std.proofs.Common.{ap, ◌∙◌}
use Rattle.pals_base.specs.proof.TreeViews.{tree_of, operands_along}
use Rattle.pals_base.specs.ExpressionAndActionTrees.{Chain}
use Rattle.pals_base.proofs.TreeViews.{tree_of-Chain}
use Rattle.world_gen.proofs.ring_behaviours.chain.Goals as goal

pub returns : goal.returns
returns c =
    tree_of-Chain c.in_ok-new.field-0 c.args.rest
    ∙ ap (λ e. Chain (tree_of e) (operands_along c.args.rest.items)) c.in_ok-new.ensures.ok
