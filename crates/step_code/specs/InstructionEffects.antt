-- What one instruction does to the place, the stack, the slots and the out ports.
use Rattle.std.specs.Prelude.{ℕ, ◌+◌, ℤ, pos, ◌+ℤ◌, int_lt, Bool, not, if◌then◌else◌, List, [], ◌∷◌, Option, Some, None}
use Rattle.std.specs.Prelude.{Result, Ok, Err, slice_get, slice_set}
use Rattle.pals_base.specs.declared.basic_types.Trap.{Trap}
use Rattle.pals_base.specs.declared.basic_types.PortValue.{PortValue}
use Rattle.pals_base.specs.declared.basic_types.PortValue.TheVariants.{Present}
use Rattle.pals_base.specs.declared.behaviour.Op.{Op}
use Rattle.pals_base.specs.Arithmetic.{negation_of, magnitude_of}
use Rattle.pals_base.specs.ExpressionValues.{is_true, truth, applied}
use Rattle.step_code.specs.declared.instr.Instr.{Instr}
use Rattle.pals_base.specs.declared.behaviour.Op.TheVariants as op
use Rattle.step_code.specs.declared.instr.Instr.TheVariants as code

-- where an instruction leads: on to a place with a stack, slots and outputs, to the end of the step, to a trap, or
-- nowhere
pub data Next : Type 0 where
  Goes : (place : ℕ) (stack slots : List ℤ) (outs : List PortValue) → Next
  Ends : (state : ℕ) (slots : List ℤ) (outs : List PortValue) → Next
  Traps : Trap → Next
  Sticks : Next

-- what a step reads and does not change: the held inputs, and which of them came with this step
pub record StepInputs : Type 0 where
  pub held : List ℤ
  pub fresh : List Bool

-- the topmost number, if there is one
abbrev pub on_top : List ℤ → (ℤ → List ℤ → Next) → Next
on_top [] go = Sticks
on_top (v ∷ stack) go = go v stack

-- a function of the element, if there is one
abbrev pub on_found : {A : Type 0} → Option A → (A → Next) → Next
on_found None go = Sticks
on_found (Some x) go = go x

-- a value, or a trap
abbrev pub on_result : Result ℤ Trap → (ℤ → Next) → Next
on_result (Ok v) go = go v
on_result (Err trap) go = Traps trap

-- an operator on the two topmost numbers, the right one of which lies on top
abbrev pub on_two : Op → ℕ → List ℤ → List ℤ → List PortValue → Next
on_two o place stack slots outs =
    on_top stack (λ b below.
    on_top below (λ a rest. on_result (applied o a b) (λ v. Goes (place + 1) (v ∷ rest) slots outs)))

-- a value pushed
abbrev pub pushing : ℤ → ℕ → List ℤ → List ℤ → List PortValue → Next
pushing v place stack slots outs = Goes (place + 1) (v ∷ stack) slots outs

abbrev pub step : Option Instr → StepInputs → ℕ → List ℤ → List ℤ → List PortValue → Next
step None s place stack slots outs = Sticks
step (Some (code.Push v)) s place stack slots outs = pushing v place stack slots outs
step (Some (code.Load x)) s place stack slots outs =
    on_found (slice_get slots x) (λ v. pushing v place stack slots outs)
step (Some (code.Store x)) s place stack slots outs =
    on_found (slice_get slots x) (λ before. on_top stack (λ v rest. Goes (place + 1) rest (slice_set slots x v) outs))
step (Some (code.Port p)) s place stack slots outs =
    on_found (slice_get s.held p) (λ v. pushing v place stack slots outs)
step (Some (code.Fresh p)) s place stack slots outs =
    on_found (slice_get s.fresh p) (λ b. pushing (truth b) place stack slots outs)
step (Some code.Neg) s place stack slots outs =
    on_top stack (λ a rest. on_result (negation_of a) (λ v. Goes (place + 1) (v ∷ rest) slots outs))
step (Some code.Abs) s place stack slots outs =
    on_top stack (λ a rest. on_result (magnitude_of a) (λ v. Goes (place + 1) (v ∷ rest) slots outs))
step (Some code.Not) s place stack slots outs =
    on_top stack (λ a rest. Goes (place + 1) (truth (not (is_true a)) ∷ rest) slots outs)
step (Some code.Add) s place stack slots outs = on_two op.Add place stack slots outs
step (Some code.Sub) s place stack slots outs = on_two op.Sub place stack slots outs
step (Some code.Mul) s place stack slots outs = on_two op.Mul place stack slots outs
step (Some code.Quot) s place stack slots outs = on_two op.Quot place stack slots outs
step (Some code.Mod) s place stack slots outs = on_two op.Mod place stack slots outs
step (Some code.Rem) s place stack slots outs = on_two op.Rem place stack slots outs
step (Some code.Eq) s place stack slots outs = on_two op.Eq place stack slots outs
step (Some code.Ne) s place stack slots outs = on_two op.Ne place stack slots outs
step (Some code.Lt) s place stack slots outs = on_two op.Lt place stack slots outs
step (Some code.Le) s place stack slots outs = on_two op.Le place stack slots outs
step (Some code.Gt) s place stack slots outs = on_two op.Gt place stack slots outs
step (Some code.Ge) s place stack slots outs = on_two op.Ge place stack slots outs
step (Some code.And) s place stack slots outs = on_two op.And place stack slots outs
step (Some code.Or) s place stack slots outs = on_two op.Or place stack slots outs
step (Some code.Xor) s place stack slots outs = on_two op.Xor place stack slots outs
step (Some (code.Jump to)) s place stack slots outs = Goes to stack slots outs
step (Some (code.JumpZero to)) s place stack slots outs =
    on_top stack (λ v rest. if is_true v then Goes (place + 1) rest slots outs else Goes to rest slots outs)
step (Some (code.LoopStart slot low high exit)) s place stack slots outs =
    if int_lt high low then Goes exit stack slots outs
    else on_found (slice_get slots slot) (λ before. Goes (place + 1) stack (slice_set slots slot low) outs)
step (Some (code.LoopNext slot high to)) s place stack slots outs =
    on_found (slice_get slots slot)
    (λ v. if int_lt v high then Goes to stack (slice_set slots slot (v +ℤ pos 1)) outs else Goes (place + 1)
    stack slots outs)
step (Some (code.Emit p)) s place stack slots outs =
    on_found (slice_get outs p)
    (λ before. on_top stack (λ v rest. Goes (place + 1) rest slots (slice_set outs p (Present v))))
step (Some (code.End state)) s place stack slots outs = Ends state slots outs
