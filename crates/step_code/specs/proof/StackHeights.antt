-- The heights of the stack that paths give.
use Rattle.std.specs.Prelude.{◌≡◌, ◌⊎◌, ℕ, zero, suc, ◌+◌, ◌-◌, ◌<◌, ◌≤◌, List, [], ◌∷◌, ◌++◌, Option, Some, None}
use Rattle.std.specs.Prelude.{option_to_list, slice_get}
use Rattle.step_code.specs.declared.instr.Instr.{Instr}
use Rattle.step_code.specs.declared.instr.Instr.TheVariants.{Push, Load, Store, Port, Fresh, Neg, Abs, Not, Jump}
use Rattle.step_code.specs.declared.instr.Instr.TheVariants.{JumpZero, LoopStart, LoopNext, Emit, End}
use Rattle.step_code.specs.SuccessorsAndWeights.{forward_successors}

-- how many operands an instruction takes
abbrev pub takes : Instr → ℕ
takes (Push v) = 0
takes (Load x) = 0
takes (Store x) = 1
takes (Port x) = 0
takes (Fresh x) = 0
takes Neg = 1
takes Abs = 1
takes Not = 1
takes (Jump to) = 0
takes (JumpZero to) = 1
takes (LoopStart slot low high exit) = 0
takes (LoopNext slot high to) = 0
takes (Emit x) = 1
takes (End state) = 0
takes binary = 2

-- how many numbers it pushes
abbrev pub gives : Instr → ℕ
gives (Store x) = 0
gives (Jump to) = 0
gives (JumpZero to) = 0
gives (LoopStart slot low high exit) = 0
gives (LoopNext slot high to) = 0
gives (Emit x) = 0
gives (End state) = 0
gives other = 1

-- the height after it
abbrev pub after : ℕ → Instr → ℕ
after h i = h - takes i + gives i

abbrev pub Member : {A : Type 0} → List A → A → Type 0
Member [] x = ⊥
Member (y ∷ ys) x = (y ≡ x) ⊎ Member ys x

-- a path of n instructions from an entry, each of which finds its operands and leads to a later place, comes to a
-- place with a height
abbrev pub Reaches : List Instr → List (Option ℕ) → ℕ → ℕ → ℕ → Type 0
Reaches code entries zero p h = Member entries (Some p) × (h ≡ 0)
Reaches code entries (suc n) p h =
    (q : ℕ) × (k : ℕ) × (i : Instr) × Reaches code entries n q k × (slice_get code q ≡ Some i) × (takes i ≤ k)
    × Member (forward_successors q (Some i)) p × (q < p) × (h ≡ after k i)

-- the path is an entry, or its last instruction is below a place
abbrev pub ComesFromBelow : (code : List Instr) (entries : List (Option ℕ)) (below n p h : ℕ)
    → Reaches code entries n p h → Type 0
ComesFromBelow code entries below zero p h r = Unit {0}
ComesFromBelow code entries below (suc n) p h r = r.0 < below

-- an entry, or an instruction below a place, gives p this height
pub record Given (code : List Instr) (entries : List (Option ℕ)) (below p h : ℕ) : Type 0 where
  pub steps : ℕ
  pub path : Reaches code entries steps p h
  pub from : ComesFromBelow code entries below steps p h path

-- a LoopNext's way back
abbrev pub back_of : Instr → Option ℕ
back_of (LoopNext slot high to) = Some to
back_of other = None

-- all places to which an instruction leads
abbrev pub all_successors : ℕ → Instr → List ℕ
all_successors p i = option_to_list (back_of i) ++ forward_successors p (Some i)
