-- The abstract values of expressions, actions and guards: plain trees.
use Rattle.std.specs.Prelude.{List, [], ◌∷◌}
use Rattle.pals_base.specs.declared.behaviour.Expr.{Expr, Literal as source_literal, Variable as source_variable}
use Rattle.pals_base.specs.declared.behaviour.Expr.{Port as source_port, Fresh as source_fresh, Neg', Abs', Not'}
use Rattle.pals_base.specs.declared.behaviour.Expr.{Chain', Row_of-Operand, end_of-Operand, more_of-Operand}
use Rattle.pals_base.specs.declared.behaviour.Operand.{Operand}
use Rattle.pals_base.specs.declared.behaviour.Act.{Act, Assign as source_assign, Emit as source_emit, If', For'}
use Rattle.pals_base.specs.declared.behaviour.Act.{Row_of-Act, end_of-Act, more_of-Act, Row_of-Branch, end_of-Branch}
use Rattle.pals_base.specs.declared.behaviour.Act.{more_of-Branch}
use Rattle.pals_base.specs.declared.behaviour.Branch.{Branch}
use Rattle.pals_base.specs.declared.behaviour.Guard.{Guard}
use Rattle.pals_base.specs.ExpressionAndActionTrees.{Expression, Literal, Variable, PortRead, Fresh, Neg, Abs, Not}
use Rattle.pals_base.specs.ExpressionAndActionTrees.{Chain, Operands}
use Rattle.pals_base.specs.ExpressionAndActionTrees.{NoMore, Then, Action, Assign, Emit, If, For, Actions, Nothing, Do}
use Rattle.pals_base.specs.ExpressionAndActionTrees.{Branches}
use Rattle.pals_base.specs.ExpressionAndActionTrees.{NoBranch, Where, Trigger, Dispatch, Always, When}
use Rattle.pals_base.specs.declared.behaviour.Guard.TheVariants as guard

abbrev mutual
  pub tree_of : Expr → Expression
  tree_of (source_literal n) = Literal n
  tree_of (source_variable x) = Variable x
  tree_of (source_port p) = PortRead p
  tree_of (source_fresh p) = Fresh p
  tree_of (Neg' place e) = Neg (tree_of e)
  tree_of (Abs' place e) = Abs (tree_of e)
  tree_of (Not' place e) = Not (tree_of e)
  tree_of (Chain' place first shape rest) = Chain (tree_of first) (operands_of rest)

  pub operands_of : {n : _} → Row_of-Operand n → Operands
  operands_of end_of-Operand = NoMore
  operands_of (more_of-Operand op e rest) = Then op (tree_of e) (operands_of rest)

-- the operands of a tree, from a list
abbrev pub operands_along : List Operand → Operands
operands_along [] = NoMore
operands_along (o ∷ os) = Then o.op (tree_of o.right) (operands_along os)

abbrev mutual
  pub action_of : Act → Action
  action_of (source_assign x e) = Assign x (tree_of e)
  action_of (source_emit p e) = Emit p (tree_of e)
  action_of (If' shape branches shape' otherwise) = If (branches_of branches) (actions_of otherwise)
  action_of (For' low high shape body) = For low high (actions_of body)

  pub actions_of : {n : _} → Row_of-Act n → Actions
  actions_of end_of-Act = Nothing
  actions_of (more_of-Act act rest) = Do (action_of act) (actions_of rest)

  pub branches_of : {n : _} → Row_of-Branch n → Branches
  branches_of end_of-Branch = NoBranch
  branches_of (more_of-Branch guard shape acts rest) = Where (tree_of guard) (actions_of acts) (branches_of rest)

-- actions and branches, from lists
abbrev pub actions_along : List Act → Actions
actions_along [] = Nothing
actions_along (a ∷ as') = Do (action_of a) (actions_along as')

abbrev pub branches_along : List Branch → Branches
branches_along [] = NoBranch
branches_along (b ∷ bs) = Where (tree_of b.guard) (actions_along b.acts.items) (branches_along bs)

abbrev pub trigger_of : Guard → Trigger
trigger_of guard.Dispatch = Dispatch
trigger_of guard.Always = Always
trigger_of (guard.When e) = When (tree_of e)
