-- Nested code: how each jump and loop instruction changes the loops around a place.
use Rattle.std.specs.Prelude.{◌≡◌, ◌≢◌, ℕ, ◌+◌, ◌<◌, ℤ, List, [], ◌∷◌, length, Some, slice_get}
use Rattle.step_code.specs.declared.instr.Instr.{Instr}
use Rattle.step_code.specs.declared.instr.Instr.TheVariants.{Store, Jump, JumpZero, LoopStart, LoopNext, End}
use Rattle.step_code.specs.declared.loops.LoopSpan.{LoopSpan}
use Rattle.step_code.specs.Loops.{around}

-- a slot of none of these loops
abbrev pub Free : List LoopSpan → ℕ → Type 0
Free [] x = Unit {0}
Free (l ∷ ls) x = (l.slot ≢ x) × Free ls x

-- a way on to a later place within the same loops
pub record On (code : List Instr) (p q : ℕ) : Type 0 where
  pub later : p < q
  pub within : q < length code
  pub same : around code q ≡ around code p

pub record Opens (code : List Instr) (p slot : ℕ) (low high : ℤ) (exit : ℕ) : Type 0 where
  pub loop : LoopSpan
  pub inside : around code (p + 1) ≡ loop ∷ around code p
  pub start : loop.start ≡ p
  pub exit_is : loop.exit ≡ exit
  pub slot_is : loop.slot ≡ slot
  pub low_is : loop.low ≡ low
  pub high_is : loop.high ≡ high
  pub free : Free (around code p) slot

pub record Closes (code : List Instr) (p slot : ℕ) (high : ℤ) (to : ℕ) : Type 0 where
  pub loop : LoopSpan
  pub inside : around code p ≡ loop ∷ around code (p + 1)
  pub exit_is : loop.exit ≡ p + 1
  pub slot_is : loop.slot ≡ slot
  pub high_is : loop.high ≡ high
  pub opens : slice_get code loop.start ≡ Some (LoopStart loop.slot loop.low loop.high loop.exit)
  pub before : loop.start < p
  pub back : to ≡ loop.start + 1
  pub within : to < length code
  pub same : around code to ≡ around code p
  pub free : Free (around code (p + 1)) slot

abbrev pub Nests : List Instr → ℕ → Instr → Type 0
Nests code p (Jump to) = On code p to
Nests code p (JumpZero to) = On code p to × On code p (p + 1)
Nests code p (LoopStart slot low high exit) = On code p exit × (p + 1 < length code) × Opens code p slot low high exit
Nests code p (LoopNext slot high to) = (p + 1 < length code) × Closes code p slot high to
Nests code p (Store x) = On code p (p + 1) × Free (around code p) x
Nests code p (End state) = Unit {0}
Nests code p other = On code p (p + 1)

pub record IsNested (code : List Instr) : Type 0 where
  pub each : (p : ℕ) (i : Instr) → slice_get code p ≡ Some i → Nests code p i
