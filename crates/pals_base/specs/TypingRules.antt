-- The types of expressions and actions.
use Rattle.std.specs.Prelude.{ℕ, ◌+◌, ◌*◌, ℤ, pos, ◌-ℤ◌, nat_lt, nat_le, Bool, true, false, ◌&&◌, ◌||◌, length, Option}
use Rattle.std.specs.Prelude.{Some, None, slice_get}
use Rattle.pals_base.specs.declared.behaviour.Op.{Op}
use Rattle.pals_base.specs.declared.behaviour.Op.TheVariants.{Add, Sub, Mul, Quot, Mod, Rem, Eq, Ne, Lt, Le, Gt, Ge}
use Rattle.pals_base.specs.declared.behaviour.Op.TheVariants.{And, Or, Xor, AndThen, OrElse}
use Rattle.pals_base.specs.declared.behaviour.Kind.{Kind}
use Rattle.pals_base.specs.declared.behaviour.Kind.TheVariants.{Integer, Boolean}
use Rattle.pals_base.specs.declared.behaviour.PortDecl.{PortDecl}
use Rattle.pals_base.specs.declared.behaviour.VarDecl.{VarDecl}
use Rattle.pals_base.specs.declared.behaviour.BehaviourParts.{BehaviourParts}
use Rattle.pals_base.specs.declared.expression_kinds.Kinds.{Kinds}
use Rattle.pals_base.specs.ExpressionAndActionTrees.{Expression, Literal, Variable, PortRead, Fresh, Neg, Abs, Not}
use Rattle.pals_base.specs.ExpressionAndActionTrees.{Chain, Operands}
use Rattle.pals_base.specs.ExpressionAndActionTrees.{NoMore, Then, Action, Assign, Emit, If, For, Actions, Nothing, Do}
use Rattle.pals_base.specs.ExpressionAndActionTrees.{Branches}
use Rattle.pals_base.specs.ExpressionAndActionTrees.{NoBranch, Where}
use Rattle.pals_base.specs.ExpressionValues.{same_number}
use Rattle.pals_base.specs.ForRanges.{count_of}
use Rattle.pals_base.specs.declared.limits.TheConstants.{TURNS, NESTED_TURNS}

-- ---- possible types of a value
abbrev pub may_be : Bool → Bool → Kinds
may_be integer boolean = record { integer = integer; boolean = boolean }

abbrev pub only : Kind → Kinds
only Integer = may_be true false
only Boolean = may_be false true

-- whether a value with these types can be used as a value of this type
abbrev pub allows : Kinds → Kind → Bool
allows kinds Integer = kinds.integer
allows kinds Boolean = kinds.boolean

-- a number is an integer; 0 and 1 are also false and true
abbrev pub literal_kinds : ℤ → Kinds
literal_kinds n = may_be true (same_number n (pos 0) || same_number n (pos 1))

-- ---- names
abbrev pub port_kinds : Option PortDecl → Kinds
port_kinds None = may_be false false
port_kinds (Some port) = only port.kind

-- a declared variable, or else the variable of a loop, if there is one
abbrev pub declared_or : Option VarDecl → Bool → Kinds
declared_or (Some v) is_loop = only v.kind
declared_or None is_loop = may_be is_loop false

-- the types of a variable that is visible within `loops` loops
abbrev pub variable_kinds : BehaviourParts → ℕ → ℕ → Kinds
variable_kinds b loops x = declared_or (slice_get b.vars x) (nat_lt x (length b.vars + loops))

-- ---- expressions
abbrev pub numbers_at : Kinds → Kinds → Bool
numbers_at a b = a.integer && b.integer

abbrev pub truths_at : Kinds → Kinds → Bool
truths_at a b = a.boolean && b.boolean

-- the types of an operator's result: two numbers give a number or a comparison, two Booleans a Boolean
abbrev pub operator_kinds : Op → Kinds → Kinds → Kinds
operator_kinds Add a b = may_be (numbers_at a b) false
operator_kinds Sub a b = may_be (numbers_at a b) false
operator_kinds Mul a b = may_be (numbers_at a b) false
operator_kinds Quot a b = may_be (numbers_at a b) false
operator_kinds Mod a b = may_be (numbers_at a b) false
operator_kinds Rem a b = may_be (numbers_at a b) false
operator_kinds Eq a b = may_be false (numbers_at a b || truths_at a b)
operator_kinds Ne a b = may_be false (numbers_at a b || truths_at a b)
operator_kinds Lt a b = may_be false (numbers_at a b)
operator_kinds Le a b = may_be false (numbers_at a b)
operator_kinds Gt a b = may_be false (numbers_at a b)
operator_kinds Ge a b = may_be false (numbers_at a b)
operator_kinds And a b = may_be false (truths_at a b)
operator_kinds Or a b = may_be false (truths_at a b)
operator_kinds Xor a b = may_be false (truths_at a b)
operator_kinds AndThen a b = may_be false (truths_at a b)
operator_kinds OrElse a b = may_be false (truths_at a b)

abbrev mutual
  -- the types that an expression can have within `loops` loops; no type if it is ill typed
  pub kinds_of : Expression → BehaviourParts → ℕ → Kinds
  kinds_of (Literal n) b loops = literal_kinds n
  kinds_of (Variable x) b loops = variable_kinds b loops x
  kinds_of (PortRead p) b loops = port_kinds (slice_get b.ins p)
  kinds_of (Fresh p) b loops = may_be false (nat_lt p (length b.ins))
  kinds_of (Neg e) b loops = may_be (kinds_of e b loops).integer false
  kinds_of (Abs e) b loops = may_be (kinds_of e b loops).integer false
  kinds_of (Not e) b loops = may_be false (kinds_of e b loops).boolean
  kinds_of (Chain first rest) b loops = kinds_along rest b loops (kinds_of first b loops)

  -- the later operands of a chain, from the types of the operands to their left
  pub kinds_along : Operands → BehaviourParts → ℕ → Kinds → Kinds
  kinds_along NoMore b loops left = left
  kinds_along (Then op e rest) b loops left = kinds_along rest b loops (operator_kinds op left (kinds_of e b loops))

-- ---- actions
abbrev pub suits_variable : Option VarDecl → Kinds → Bool
suits_variable None kinds = false
suits_variable (Some v) kinds = allows kinds v.kind

abbrev pub suits_port : Option PortDecl → Kinds → Bool
suits_port None kinds = false
suits_port (Some port) kinds = allows kinds port.kind

-- the number of iterations of a loop
abbrev pub turns : ℤ → ℤ → ℕ
turns low high = count_of (high -ℤ low)

-- a loop has at most 1,000 iterations, and at most 10,000 multiplied with the enclosing loops
abbrev pub is_short : ℕ → ℕ → Bool
is_short count around = nat_le count TURNS && nat_le (around * count) NESTED_TURNS

abbrev mutual
  -- whether an action is well typed and its loops are short, within `loops` loops with `around` iterations
  pub is_sound : Action → BehaviourParts → ℕ → ℕ → Bool
  is_sound (Assign x e) b loops around = suits_variable (slice_get b.vars x) (kinds_of e b loops)
  is_sound (Emit p e) b loops around = suits_port (slice_get b.outs p) (kinds_of e b loops)
  is_sound (If branches otherwise) b loops around =
      branches_are_sound branches b loops around && are_sound otherwise b loops around
  is_sound (For low high body) b loops around =
      is_short (turns low high) around && are_sound body b (loops + 1) (around * turns low high)

  pub are_sound : Actions → BehaviourParts → ℕ → ℕ → Bool
  are_sound Nothing b loops around = true
  are_sound (Do a rest) b loops around = is_sound a b loops around && are_sound rest b loops around

  pub branches_are_sound : Branches → BehaviourParts → ℕ → ℕ → Bool
  branches_are_sound NoBranch b loops around = true
  branches_are_sound (Where guard actions rest) b loops around =
      (kinds_of guard b loops).boolean && are_sound actions b loops around && branches_are_sound rest b loops around
