-- The result of resolving a part of a text: its tree with resolved names, its type, and its violations.
use Rattle.std.specs.Prelude.{◌≡◌, List, ◌++◌, Option}
use Rattle.pals_base.specs.declared.behaviour.Kind.{Kind}
use Rattle.pals_base.specs.declared.behaviour.Operand.{Operand}
use Rattle.pals_base.specs.declared.behaviour.Act.{Act}
use Rattle.pals_base.specs.declared.behaviour.Branch.{Branch}
use Rattle.pals_base.specs.proof.TreeViews.{tree_of, operands_along, action_of, actions_along, branches_along}
use Rattle.annex_resolve.specs.declared.expressions.Typed.{Typed}
use Rattle.annex_resolve.specs.declared.violation.Violation.{Violation}
use Rattle.pals_base.specs.ExpressionAndActionTrees as plain

-- an expression
pub record Resolves (tree : plain.Expression) (kind : Option Kind) (findings : List Violation) (typed : Typed)
    (before after : List Violation) : Type 0 where
  pub tree_is : tree_of typed.expr ≡ tree
  pub kind_is : typed.kind ≡ kind
  pub found : after ≡ before ++ findings

-- later operands of a chain
pub record ResolvesOperands (tree : plain.Operands) (findings : List Violation) (operands : List Operand)
    (before after : List Violation) : Type 0 where
  pub tree_is : operands_along operands ≡ tree
  pub found : after ≡ before ++ findings

pub record ResolvesAction (tree : plain.Action) (findings : List Violation) (act : Act)
    (before after : List Violation) : Type 0 where
  pub tree_is : action_of act ≡ tree
  pub found : after ≡ before ++ findings

pub record ResolvesActions (tree : plain.Actions) (findings : List Violation) (acts : List Act)
    (before after : List Violation) : Type 0 where
  pub tree_is : actions_along acts ≡ tree
  pub found : after ≡ before ++ findings

pub record ResolvesBranch (guard : plain.Expression) (actions : plain.Actions) (findings : List Violation)
    (branch : Branch) (before after : List Violation) : Type 0 where
  pub guard_is : tree_of branch.guard ≡ guard
  pub actions_are : actions_along branch.acts.items ≡ actions
  pub found : after ≡ before ++ findings

pub record ResolvesBranches (tree : plain.Branches) (findings : List Violation) (branches : List Branch)
    (before after : List Violation) : Type 0 where
  pub tree_is : branches_along branches ≡ tree
  pub found : after ≡ before ++ findings
