-- How many instructions the code of a behaviour has, by its expressions, actions and transitions.
use Rattle.std.specs.Prelude.{ℕ, ◌+◌, List, [], ◌∷◌}
use Rattle.pals_base.specs.declared.behaviour.BehaviourParts.{BehaviourParts}
use Rattle.pals_base.specs.declared.behaviour.Op.{Op}
use Rattle.pals_base.specs.declared.behaviour.Op.TheVariants.{AndThen, OrElse}
use Rattle.pals_base.specs.ExpressionAndActionTrees.{Expression, Literal, Variable, PortRead, Fresh, Neg, Abs, Not}
use Rattle.pals_base.specs.ExpressionAndActionTrees.{Chain, Operands}
use Rattle.pals_base.specs.ExpressionAndActionTrees.{NoMore, Then, Action, Assign, Emit, If, For, Actions, Nothing, Do}
use Rattle.pals_base.specs.ExpressionAndActionTrees.{Branches}
use Rattle.pals_base.specs.ExpressionAndActionTrees.{NoBranch, Where, Trigger, Dispatch, Always, When, Edge}

-- an operator after a right side of n instructions
abbrev pub operand_length : Op → ℕ → ℕ
operand_length AndThen n = n + 3
operand_length OrElse n = n + 3
operand_length other n = n + 1

abbrev mutual
  pub length_of : Expression → ℕ
  length_of (Literal n) = 1
  length_of (Variable x) = 1
  length_of (PortRead p) = 1
  length_of (Fresh p) = 1
  length_of (Neg e) = length_of e + 1
  length_of (Abs e) = length_of e + 1
  length_of (Not e) = length_of e + 1
  length_of (Chain first rest) = length_of first + length_rest rest

  pub length_rest : Operands → ℕ
  length_rest NoMore = 0
  length_rest (Then op e rest) = operand_length op (length_of e) + length_rest rest

abbrev mutual
  pub length_act : Action → ℕ
  length_act (Assign x e) = length_of e + 1
  length_act (Emit p e) = length_of e + 1
  length_act (If branches otherwise) = length_branches branches + length_acts otherwise
  length_act (For low high body) = length_acts body + 2

  pub length_acts : Actions → ℕ
  length_acts Nothing = 0
  length_acts (Do a rest) = length_act a + length_acts rest

  pub length_branches : Branches → ℕ
  length_branches NoBranch = 0
  length_branches (Where guard actions rest) = length_of guard + length_acts actions + 2 + length_branches rest

-- a guard, and the jump past its transition
abbrev pub length_trigger : Trigger → ℕ
length_trigger Dispatch = 0
length_trigger Always = 0
length_trigger (When e) = length_of e + 1

-- a transition: its guard, its actions, and the end or the jump after them
abbrev pub length_edge : Edge → ℕ
length_edge e = length_trigger e.trigger + length_acts e.actions + 1

abbrev pub length_edges : List Edge → ℕ
length_edges [] = 0
length_edges (e ∷ es) = length_edge e + length_edges es

-- the whole
abbrev pub code_length : BehaviourParts → ℕ
code_length b = length_edges b.transitions
