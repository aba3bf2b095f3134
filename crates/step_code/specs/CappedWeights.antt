-- Weights capped at u64's maximum.
use Rattle.std.specs.Prelude.{◌≡◌, ℕ, ◌-◌, ◌^◌, ◌<◌, ◌≤◌, min, List, length, Some, slice_get}
use Rattle.step_code.specs.declared.instr.Instr.{Instr}
use Rattle.step_code.specs.SuccessorsAndWeights.{weight_at, heaviest}

abbrev pub capped : ℕ → ℕ
capped n = min n (2 ^ 64 - 1)

-- what the first instructions weigh
pub record AreWeights (code : List Instr) (weights : List ℕ) : Type 0 where
  pub each : (p : ℕ) → p < length weights → slice_get weights p ≡ Some (capped (weight_at code p))

-- the maximum weights of the paths from a place on
pub record AreBest (code : List Instr) (from : ℕ) (best : List ℕ) : Type 0 where
  pub count : length best ≡ length code
  pub each : (p : ℕ) → from ≤ p → p < length code → slice_get best p ≡ Some (capped (heaviest code (length code - p) p))
