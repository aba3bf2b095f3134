-- Definitions for proofs: the properties of a jump, a loop, a store or any other instruction at a place where the
-- verifier's rules BadJump, BackJump and BadSlot find nothing.
use Rattle.std.specs.Prelude.{◌≡◌, ℕ, ◌+◌, ◌<◌, ◌≤◌, true, List, length, Some, slice_get}
use Rattle.step_code.specs.declared.instr.Instr.{Instr}
use Rattle.step_code.specs.declared.instr.Instr.TheVariants.{Store, Jump, JumpZero, LoopStart, LoopNext, End}
use Rattle.step_code.specs.declared.loops.LoopSpan.{LoopSpan}
use Rattle.step_code.specs.Loops.{loop_at, around}
use Rattle.step_code.specs.proof.VerifierRules.{stays}
use Rattle.step_code.specs.proof.LoopNesting.{Free}

-- rules 1 and 6 on a jump
pub record Jumps (code : List Instr) (p to : ℕ) : Type 0 where
  pub there : to < length code
  pub forward : p < to
  pub within : stays code p to ≡ true

-- a LoopNext belongs to a loop
pub record IsEnd (code : List Instr) (p : ℕ) : Type 0 where
  pub start : ℕ
  pub loop : LoopSpan
  pub below : start < p
  pub opens : loop_at code start ≡ Some loop
  pub exit : loop.exit ≡ p + 1

abbrev pub Clean : List Instr → ℕ → ℕ → Instr → Type 0
Clean code vars p (Jump to) = Jumps code p to
Clean code vars p (JumpZero to) = Jumps code p to × (p + 1 < length code)
Clean code vars p (LoopStart slot low high exit) =
    Jumps code p exit × (p + 1 < length code) × ((l : LoopSpan) × (loop_at code p ≡ Some l)) × (vars ≤ slot)
    × Free (around code p) slot
Clean code vars p (LoopNext slot high to) = (p + 1 < length code) × IsEnd code p
Clean code vars p (Store x) = (p + 1 < length code) × (x < vars)
Clean code vars p (End state) = Unit {0}
Clean code vars p other = p + 1 < length code

pub record IsClean (code : List Instr) (vars : ℕ) : Type 0 where
  pub each : (p : ℕ) (i : Instr) → slice_get code p ≡ Some i → Clean code vars p i
