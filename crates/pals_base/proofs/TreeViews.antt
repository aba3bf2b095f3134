-- For functions on expressions and actions: the plain tree of an expression or action that consists of boxes and
-- vectors.
use Rattle.std.proofs.Common.{◌≡◌, ℤ, refl, sym, ap, ◌∙◌}
use Rattle.std.specs.declared.alloc.Global.{Global}
use Rattle.std.specs.declared.boxed.Box.{Box}
use Rattle.std.specs.declared.vec.Vec.{Vec}
use Rattle.pals_base.specs.declared.behaviour.Expr.{Expr, Row_of-Operand, end_of-Operand, more_of-Operand}
use Rattle.pals_base.specs.declared.behaviour.Expr.{items-the_row-Operand}
use Rattle.pals_base.specs.declared.behaviour.Expr.TheBlock.{hidden-the_row-Operand-0, items_hidden-the_row-Operand-0}
use Rattle.pals_base.specs.declared.behaviour.Expr.TheVariants as expr
use Rattle.pals_base.specs.declared.behaviour.Operand.{Operand}
use Rattle.pals_base.specs.declared.behaviour.Act.{Act, Row_of-Act, end_of-Act, more_of-Act, items-the_row-Act}
use Rattle.pals_base.specs.declared.behaviour.Act.{Row_of-Branch, end_of-Branch, more_of-Branch, items-the_row-Branch}
use Rattle.pals_base.specs.declared.behaviour.Act.TheBlock.{hidden-the_row-Act-0, items_hidden-the_row-Act-0}
use Rattle.pals_base.specs.declared.behaviour.Act.TheBlock.{items_shown-the_row-Act-0, hidden-the_row-Branch-1}
use Rattle.pals_base.specs.declared.behaviour.Act.TheBlock.{items_hidden-the_row-Branch-1}
use Rattle.pals_base.specs.declared.behaviour.Act.TheVariants as act
use Rattle.pals_base.specs.declared.behaviour.Branch.{Branch}
use Rattle.pals_base.specs.ExpressionAndActionTrees.{Chain, Then, Do, If, For, Where}
use Rattle.pals_base.specs.proof.TreeViews.{tree_of, operands_of, operands_along, action_of, actions_of, actions_along}
use Rattle.pals_base.specs.proof.TreeViews.{branches_of, branches_along}

operands_of-along : {n : _} (row : Row_of-Operand n) → operands_of row ≡ operands_along (items-the_row-Operand n row)
operands_of-along end_of-Operand = refl
operands_of-along (more_of-Operand op e rest) = ap (λ r. Then op (tree_of e) r) (operands_of-along rest)

pub tree_of-Chain : (first : Box Expr Global) (rest : Vec Operand Global)
    → tree_of (expr.Chain first rest) ≡ Chain (tree_of first.value) (operands_along rest.items)
tree_of-Chain first rest =
    ap (λ r. Chain (tree_of first.value) r)
    (operands_of-along (hidden-the_row-Operand-0 rest) ∙ ap operands_along (items_hidden-the_row-Operand-0 rest))

actions_of-along : {n : _} (row : Row_of-Act n) → actions_of row ≡ actions_along (items-the_row-Act n row)
actions_of-along end_of-Act = refl
actions_of-along (more_of-Act a rest) = ap (λ r. Do (action_of a) r) (actions_of-along rest)

branches_of-along : {n : _} (row : Row_of-Branch n) → branches_of row ≡ branches_along (items-the_row-Branch n row)
branches_of-along end_of-Branch = refl
branches_of-along (more_of-Branch guard shape acts rest) =
    ap (λ r. Where (tree_of guard) (actions_of acts) r) (branches_of-along rest)
    ∙ ap (λ a. Where (tree_of guard) a (branches_along (items-the_row-Branch _ rest)))
    (actions_of-along acts ∙ ap actions_along (sym (items_shown-the_row-Act-0 shape acts)))

all_actions : (acts : Vec Act Global) → actions_of (hidden-the_row-Act-0 acts) ≡ actions_along acts.items
all_actions acts = actions_of-along (hidden-the_row-Act-0 acts) ∙ ap actions_along (items_hidden-the_row-Act-0 acts)

pub action_of-If : (branches : Vec Branch Global) (otherwise : Vec Act Global)
    → action_of (act.If branches otherwise) ≡ If (branches_along branches.items) (actions_along otherwise.items)
action_of-If branches otherwise =
    ap (λ b. If b (actions_of (hidden-the_row-Act-0 otherwise)))
    (branches_of-along (hidden-the_row-Branch-1 branches)
    ∙ ap branches_along (items_hidden-the_row-Branch-1 branches))
    ∙ ap (λ o. If (branches_along branches.items) o) (all_actions otherwise)

pub action_of-For : (low high : ℤ) (body : Vec Act Global)
    → action_of (act.For low high body) ≡ For low high (actions_along body.items)
action_of-For low high body = ap (λ b. For low high b) (all_actions body)
