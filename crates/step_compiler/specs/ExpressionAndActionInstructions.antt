-- The instructions that expressions and actions are compiled to, at a place.
use Rattle.std.specs.Prelude.{ℕ, ◌+◌, pos, List, [], ◌∷◌, ◌++◌}
use Rattle.pals_base.specs.declared.behaviour.Op.{Op}
use Rattle.pals_base.specs.ExpressionAndActionTrees.{Expression, Literal, Variable, PortRead, Fresh, Neg, Abs, Not}
use Rattle.pals_base.specs.ExpressionAndActionTrees.{Chain, Operands}
use Rattle.pals_base.specs.ExpressionAndActionTrees.{NoMore, Then, Action, Assign, Emit, If, For, Actions, Nothing, Do}
use Rattle.pals_base.specs.ExpressionAndActionTrees.{Branches}
use Rattle.pals_base.specs.ExpressionAndActionTrees.{NoBranch, Where}
use Rattle.step_code.specs.declared.instr.Instr.{Instr}
use Rattle.step_code.specs.CodeLengths.{operand_length, length_of, length_act, length_acts, length_branches}
use Rattle.pals_base.specs.declared.behaviour.Op.TheVariants as op
use Rattle.step_code.specs.declared.instr.Instr.TheVariants as code

-- ---- expressions
-- the instruction of an operator that looks at both sides
abbrev pub operator : Op → Instr
operator op.Add = code.Add
operator op.Sub = code.Sub
operator op.Mul = code.Mul
operator op.Quot = code.Quot
operator op.Mod = code.Mod
operator op.Rem = code.Rem
operator op.Eq = code.Eq
operator op.Ne = code.Ne
operator op.Lt = code.Lt
operator op.Le = code.Le
operator op.Gt = code.Gt
operator op.Ge = code.Ge
operator op.And = code.And
operator op.Or = code.Or
operator op.Xor = code.Xor
operator op.AndThen = code.And
operator op.OrElse = code.Or

-- an operator and its right side of n instructions, after the left value
abbrev pub operand_code : Op → ℕ → (ℕ → List Instr) → ℕ → List Instr
operand_code op.AndThen n right p =
    code.JumpZero (p + n + 2) ∷ (right (p + 1) ++ (code.Jump (p + n + 3) ∷ code.Push (pos 0) ∷ []))
operand_code op.OrElse n right p = code.JumpZero (p + 3) ∷ code.Push (pos 1) ∷ code.Jump (p + n + 3) ∷ right (p + 3)
operand_code other n right p = right p ++ operator other ∷ []

abbrev mutual
  -- an expression leaves its value on the stack
  pub code_of : Expression → ℕ → List Instr
  code_of (Literal n) p = code.Push n ∷ []
  code_of (Variable x) p = code.Load x ∷ []
  code_of (PortRead q) p = code.Port q ∷ []
  code_of (Fresh q) p = code.Fresh q ∷ []
  code_of (Neg e) p = code_of e p ++ code.Neg ∷ []
  code_of (Abs e) p = code_of e p ++ code.Abs ∷ []
  code_of (Not e) p = code_of e p ++ code.Not ∷ []
  code_of (Chain first rest) p = code_of first p ++ code_rest rest (p + length_of first)

  pub code_rest : Operands → ℕ → List Instr
  code_rest NoMore p = []
  code_rest (Then op e rest) p =
      operand_code op (length_of e) (code_of e) p ++ code_rest rest (p + operand_length op (length_of e))

-- the later operand of a chain, after the value of the operands to its left
abbrev pub operand_of : Op → Expression → ℕ → List Instr
operand_of o e p = operand_code o (length_of e) (code_of e) p

-- ---- actions, with n variables in scope, including the variables of the surrounding loops
abbrev mutual
  pub code_act : Action → ℕ → ℕ → List Instr
  code_act (Assign x e) n p = code_of e p ++ code.Store x ∷ []
  code_act (Emit q e) n p = code_of e p ++ code.Emit q ∷ []
  code_act (If branches otherwise) n p =
      code_branches branches n (p + length_branches branches + length_acts otherwise) p
      ++ code_acts otherwise n (p + length_branches branches)
  code_act (For low high body) n p =
      code.LoopStart n low high (p + length_acts body + 2)
      ∷ (code_acts body (n + 1) (p + 1) ++ code.LoopNext n high (p + 1) ∷ [])

  pub code_acts : Actions → ℕ → ℕ → List Instr
  code_acts Nothing n p = []
  code_acts (Do a rest) n p = code_act a n p ++ code_acts rest n (p + length_act a)

  -- each branch ends by a jump to the end of all
  pub code_branches : Branches → ℕ → ℕ → ℕ → List Instr
  code_branches NoBranch n end p = []
  code_branches (Where guard actions rest) n end p =
      code_of guard p
      ++ (code.JumpZero (p + length_of guard + length_acts actions + 2)
      ∷ (code_acts actions n (p + length_of guard + 1)
      ++ (code.Jump end ∷ code_branches rest n end (p + length_of guard + length_acts actions + 2))))
