-- Expressions, actions and transitions as plain trees, without addresses.
use Rattle.std.specs.Prelude.{ℕ, ℤ}
use Rattle.pals_base.specs.declared.behaviour.Op.{Op}

mutual
  pub data Expression : Type 0 where
    Literal : ℤ → Expression
    Variable : ℕ → Expression
    PortRead : ℕ → Expression
    Fresh : ℕ → Expression
    Neg : Expression → Expression
    Abs : Expression → Expression
    Not : Expression → Expression
    Chain : Expression → Operands → Expression

  -- the later operands of a chain, each after its operator
  pub data Operands : Type 0 where
    NoMore : Operands
    Then : Op → Expression → Operands → Operands

mutual
  pub data Action : Type 0 where
    Assign : ℕ → Expression → Action
    Emit : ℕ → Expression → Action
    If : Branches → Actions → Action
    For : ℤ → ℤ → Actions → Action

  pub data Actions : Type 0 where
    Nothing : Actions
    Do : Action → Actions → Actions

  pub data Branches : Type 0 where
    NoBranch : Branches
    Where : Expression → Actions → Branches → Branches

-- the condition of a transition
pub data Trigger : Type 0 where
  Dispatch : Trigger
  Always : Trigger
  When : Expression → Trigger

-- a transition
pub record Edge : Type 0 where
  pub source : ℕ
  pub target : ℕ
  pub trigger : Trigger
  pub actions : Actions
