-- Definitions for proofs: all variables, slots and ports that expressions, actions and transitions read and write
-- exist.
use Rattle.std.specs.Prelude.{◌≡◌, ℕ, ◌+◌, ◌<◌, true, false, List, [], ◌∷◌, length}
use Rattle.pals_base.specs.declared.behaviour.BehaviourParts.{BehaviourParts}
use Rattle.pals_base.specs.ExpressionAndActionTrees.{Expression, Literal, Variable, PortRead, Fresh, Neg, Abs, Not}
use Rattle.pals_base.specs.ExpressionAndActionTrees.{Chain, Operands}
use Rattle.pals_base.specs.ExpressionAndActionTrees.{NoMore, Then, Action, Assign, Emit, If, For, Actions, Nothing, Do}
use Rattle.pals_base.specs.ExpressionAndActionTrees.{Branches}
use Rattle.pals_base.specs.ExpressionAndActionTrees.{NoBranch, Where, Edge, Trigger, Dispatch, Always, When}
use Rattle.pals_base.specs.SingleStep.{is_dispatch}
use Rattle.pals_base.specs.proof.CycleSearchMarks.{settles}

abbrev mutual
  -- the variables, held inputs and signs of freshness that it reads are there
  pub Sees : ℕ → ℕ → Expression → Type 0
  Sees n m (Literal v) = Unit {0}
  Sees n m (Variable x) = x < n
  Sees n m (PortRead p) = p < m
  Sees n m (Fresh p) = p < m
  Sees n m (Neg e) = Sees n m e
  Sees n m (Abs e) = Sees n m e
  Sees n m (Not e) = Sees n m e
  Sees n m (Chain first rest) = Sees n m first × SeesAll n m rest

  pub SeesAll : ℕ → ℕ → Operands → Type 0
  SeesAll n m NoMore = Unit {0}
  SeesAll n m (Then op e rest) = Sees n m e × SeesAll n m rest

-- how many variables are declared, how many slots and out ports there are, and how many inputs are held
pub record Sizes : Type 0 where
  pub declared : ℕ
  pub slots : ℕ
  pub outs : ℕ
  pub ins : ℕ

abbrev mutual
  -- n variables are in sight
  pub SeesAct : Sizes → ℕ → Action → Type 0
  SeesAct z n (Assign x e) = (x < z.declared) × Sees n z.ins e
  SeesAct z n (Emit q e) = (q < z.outs) × Sees n z.ins e
  SeesAct z n (If branches otherwise) = SeesBranches z n branches × SeesActs z n otherwise
  SeesAct z n (For low high body) = (n < z.slots) × SeesActs z (n + 1) body

  pub SeesActs : Sizes → ℕ → Actions → Type 0
  SeesActs z n Nothing = Unit {0}
  SeesActs z n (Do a rest) = SeesAct z n a × SeesActs z n rest

  pub SeesBranches : Sizes → ℕ → Branches → Type 0
  SeesBranches z n NoBranch = Unit {0}
  SeesBranches z n (Where guard actions rest) = Sees n z.ins guard × SeesActs z n actions × SeesBranches z n rest

abbrev pub SeesTrigger : Sizes → Trigger → Type 0
SeesTrigger z Dispatch = Unit {0}
SeesTrigger z Always = Unit {0}
SeesTrigger z (When e) = Sees z.declared z.ins e

-- what a transition has of its behaviour
pub record IsGood (b : BehaviourParts) (z : Sizes) (m : ℕ) (e : Edge) : Type 0 where
  pub settles' : settles m b e.target ≡ true
  pub target : e.target < length b.states
  pub trigger : SeesTrigger z e.trigger
  pub actions : SeesActs z z.declared e.actions

abbrev pub AreGood : BehaviourParts → Sizes → ℕ → List Edge → Type 0
AreGood b z m [] = Unit {0}
AreGood b z m (e ∷ es) = IsGood b z m e × (is_dispatch e.trigger ≡ false) × AreGood b z m es
