-- Readings that never decrease, one more at a time.
use Rattle.std.proofs.Common.{◌≡◌, ℕ, ◌≤◌, ◌-◌, List, [], ◌∷◌, ◌++◌, length, arith}
use Rattle.std.specs.List.Sorted.{IsNonDecreasing}
use Rattle.std.proofs.lemmas.Grind.{common_steps, get_or_default_zero}
use Rattle.std.proofs.lemmas.List.Elements.{All-append, All-nil, All-cons}
use Rattle.std.proofs.lemmas.List.Sorted.{IsNonDecreasingBy-push}
use Rattle.pals_base.specs.declared.limits.TheConstants.{READING}
use Rattle.pals_clock.specs.ClockStates.{AreReadings}
use Rattle.scenario_json.specs.Clocks.{last_of}

pub last_push : (xs : List ℕ) (y : ℕ) → last_of (xs ++ y ∷ []) ≡ y
last_push xs y = grind (arith, common_steps)

pub order_push : (xs : List ℕ) (y : ℕ) → IsNonDecreasing xs → last_of xs ≤ y → IsNonDecreasing (xs ++ y ∷ [])
order_push xs y order last =
    IsNonDecreasingBy-push (λ x. x) xs y order
    (λ d some. let same = get_or_default_zero xs (length xs - 1) d (omega arith) in grind (arith, same))

pub range_push : (xs : List ℕ) (y : ℕ) → AreReadings xs → y ≤ READING → AreReadings (xs ++ y ∷ [])
range_push xs y range most =
    All-append (λ reading. reading ≤ READING) xs (y ∷ []) range
    (All-cons (λ reading. reading ≤ READING) y [] most (All-nil (λ reading. reading ≤ READING)))
