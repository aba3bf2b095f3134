-- Lists of readings in tests are in order and within the maximum reading.
use Rattle.std.proofs.Common.{ℕ, ◌+◌, ◌*◌, ◌-◌, ◌≤◌, List, [], ◌∷◌, ◌++◌, length, All, arith}
use Rattle.std.specs.List.Sorted.{IsNonDecreasing}
use Rattle.std.proofs.lemmas.List.Elements.{All-push}
use Rattle.std.proofs.lemmas.List.Sorted.{IsNonDecreasingBy-push}
use Rattle.pals_clock.specs.ClockStates.{AreReadings}

pub in_order : (readings : List ℕ) (number : ℕ) → IsNonDecreasing readings → All (λ r. r ≤ number * 30) readings
    → IsNonDecreasing (readings ++ number * 30 ∷ [])
in_order readings number order below =
    IsNonDecreasingBy-push (λ x. x) readings (number * 30) order (λ d some. below (length readings - 1) d (omega arith))

pub all_below : (readings : List ℕ) (number : ℕ) → All (λ r. r ≤ number * 30) readings
    → All (λ r. r ≤ (number + 1) * 30) (readings ++ number * 30 ∷ [])
all_below readings number below =
    All-push (λ r. r ≤ (number + 1) * 30) readings (number * 30)
    (λ k d within. let here = below k d within in omega arith) (omega arith)

pub are_readings : (readings : List ℕ) → All (λ r. r ≤ 1000000 * 30) readings → AreReadings readings
are_readings readings below = λ k d within. let here = below k d within in omega arith
