-- The law of selected readings: the readings that a scripted clock selects never decrease, and each is at least its
-- target.
use Rattle.std.proofs.Common.{◌≡◌, ℕ, zero, suc, ◌<◌, ◌≤◌, true, false, cond, List, [], ◌∷◌, length, get_or, take, refl}
use Rattle.std.proofs.Common.{ap, arith, ltb}
use Rattle.std.specs.List.Sorted.{IsNonDecreasing}
use Rattle.std.proofs.lemmas.Bool.{ltb-false}
use Rattle.pals_base.specs.ClockPicks.{remaining_from, picked, picks}

take-picked : (rs answers fewer : List ℕ) (n : ℕ) → take n answers ≡ fewer
    → take (suc n) (picked rs answers) ≡ picked rs fewer
take-picked [] answers fewer n same = refl
take-picked (r ∷ later) answers fewer n same = ap (λ as'. r ∷ as') same

pub take-picks : (readings targets : List ℕ) (n : ℕ) → take n (picks readings targets) ≡ picks readings (take n targets)
take-picks readings targets zero = refl
take-picks readings [] (suc n) = refl
take-picks readings (t ∷ ts) (suc n) = take-picked (remaining_from readings t) _ _ n
    (take-picks (remaining_from readings t) ts n)

-- ---- in order
-- no reading is below the one before it, and the first is at least `from`
abbrev Rises : ℕ → List ℕ → Type 0
Rises from [] = Unit {0}
Rises from (x ∷ xs) = (from ≤ x) × Rises x xs

rises_from_less : (less from : ℕ) (xs : List ℕ) → less ≤ from → Rises from xs → Rises less xs
rises_from_less less from [] below h = tt
rises_from_less less from (x ∷ xs) below h = (omega (arith, h.0), h.1)

rises-reached : (from : ℕ) (readings : List ℕ) (target : ℕ) → Rises from readings
    → Rises from (remaining_from readings target)
rises-reached from [] target h = tt
rises-reached from (r ∷ later) target h =
    elim (ltb r target) as (λ b. Rises from (cond b (remaining_from later target) (r ∷ later))) [
      | true ↦ rises_from_less from r (remaining_from later target) h.0 (rises-reached r later target h.1)
      | false ↦ h
    ]

rises-picked : (from : ℕ) (rs answers : List ℕ) → Rises from rs → ((r : ℕ) → Rises r rs → Rises r answers)
    → Rises from (picked rs answers)
rises-picked from [] answers h after = tt
rises-picked from (r ∷ later) answers h after = (h.0, after r (omega arith, h.1))

rises-picks : (from : ℕ) (readings targets : List ℕ) → Rises from readings → Rises from (picks readings targets)
rises-picks from readings [] h = tt
rises-picks from readings (t ∷ ts) h =
    rises-picked from (remaining_from readings t) (picks (remaining_from readings t) ts)
    (rises-reached from readings t h)
    (λ r. rises-picks r (remaining_from readings t) ts)

rises_at : (from : ℕ) (xs : List ℕ) (j d : ℕ) → Rises from xs → j < length xs → from ≤ get_or xs j d
rises_at from [] j d h within = absurd (omega arith)
rises_at from (x ∷ xs) zero d h within = h.0
rises_at from (x ∷ xs) (suc j) d h within = let further = rises_at x xs j d h.1 (omega arith) in
    omega (arith, h.0, further)

non_decreasing_from_rises : (from : ℕ) (xs : List ℕ) → Rises from xs → IsNonDecreasing xs
non_decreasing_from_rises from [] h i j d ordered within = absurd (omega arith)
non_decreasing_from_rises from (x ∷ xs) h zero zero d ordered within = omega arith
non_decreasing_from_rises from (x ∷ xs) h zero (suc j) d ordered within = rises_at x xs j d h.1 (omega arith)
non_decreasing_from_rises from (x ∷ xs) h (suc i) zero d ordered within = absurd (omega arith)
non_decreasing_from_rises from (x ∷ xs) h (suc i) (suc j) d ordered within =
    non_decreasing_from_rises x xs h.1 i j d (omega arith) (omega arith)

rises_from_non_decreasing : (from : ℕ) (xs : List ℕ) → (0 < length xs → from ≤ get_or xs 0 0) → IsNonDecreasing xs
    → Rises from xs
rises_from_non_decreasing from [] least h = tt
rises_from_non_decreasing from (x ∷ xs) least h = (
  least (omega arith),
  rises_from_non_decreasing x xs (λ some. h 0 1 0 (omega arith) (omega arith))
      (λ i j d ordered within. h (suc i) (suc j) d (omega arith) (omega arith)),
)

pub picks_never_fall : (readings targets : List ℕ) → IsNonDecreasing readings → IsNonDecreasing (picks readings targets)
picks_never_fall readings targets h =
    non_decreasing_from_rises 0 (picks readings targets)
    (rises-picks 0 readings targets (rises_from_non_decreasing 0 readings (λ _. omega arith) h))

-- ---- at least the targets
abbrev BeginsAtLeast : ℕ → List ℕ → Type 0
BeginsAtLeast target [] = Unit {0}
BeginsAtLeast target (r ∷ rs) = target ≤ r

begins-reached : (readings : List ℕ) (target : ℕ) → BeginsAtLeast target (remaining_from readings target)
begins-reached [] target = tt
begins-reached (r ∷ later) target =
    (elim (ltb r target) as (λ b. ltb r target ≡ b
    → BeginsAtLeast target (cond b (remaining_from later target) (r ∷ later))) [
      | true ↦ λ _. begins-reached later target
      | false ↦ λ test. ltb-false r target test
    ]) refl

first_pick : (target : ℕ) (rs answers targets : List ℕ) (i : ℕ) → BeginsAtLeast target rs
    → i < length (picked rs answers) → ((k : ℕ) → k < length answers → get_or targets k 0 ≤ get_or answers k 0)
    → get_or (target ∷ targets) i 0 ≤ get_or (picked rs answers) i 0
first_pick target [] answers targets i begins within later = absurd (omega arith)
first_pick target (r ∷ rs) answers targets zero begins within later = begins
first_pick target (r ∷ rs) answers targets (suc i) begins within later = later i (omega arith)

pub picks_at_least : (readings targets : List ℕ) (i : ℕ) → i < length (picks readings targets)
    → get_or targets i 0 ≤ get_or (picks readings targets) i 0
picks_at_least readings [] i within = absurd (omega arith)
picks_at_least readings (t ∷ ts) i within =
    first_pick t (remaining_from readings t) (picks (remaining_from readings t) ts) ts i (begins-reached readings t)
    within
    (picks_at_least (remaining_from readings t) ts)
