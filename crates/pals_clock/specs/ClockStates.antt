-- The state of a clock that is a list of readings.
use Rattle.std.specs.Prelude.{ℕ, ◌≤◌, List, All, fold}
use Rattle.pals_base.specs.declared.limits.TheConstants.{READING}
use Rattle.pals_base.specs.ClockPicks.{remaining_from}

-- all readings of the list, and the rest of it: the last pick, if there is one, and the later readings
pub record ClockState : Type 0 where
  pub readings : List ℕ
  pub left : List ℕ

-- no reading is above the maximum
abbrev pub AreReadings : List ℕ → Type 0
AreReadings readings = All (λ reading. reading ≤ READING) readings

-- a clock without a pick, whose readings are all left
abbrev pub unpicked : List ℕ → ClockState
unpicked list = record { readings = list; left = list }

-- the same clock, at the first of these readings
abbrev pub standing_at : ClockState → List ℕ → ClockState
standing_at clock later = record { readings = clock.readings; left = later }

-- the rest of some readings after the picks for these targets
abbrev pub left_after : List ℕ → List ℕ → List ℕ
left_after readings targets = fold remaining_from readings targets
