-- Search among the numbers below a bound, and the pigeonhole principle: n + 1 different numbers are not all below n.
use Rattle.std.proofs.Common.{◌≡◌, ◌≢◌, ◌⊎◌, ◌∙◌, inl, inr, ℕ, zero, suc, ◌<◌, Bool, true, false, map, length, Contains}
use Rattle.std.proofs.Common.{refl, sym, ap, arith}
use Rattle.std.specs.List.{range_with_len}
use Rattle.std.proofs.lemmas.Bool.{cases_lt, eqb-true, eq-eqb}
use Rattle.std.proofs.lemmas.List.FromFn.{length-map-range_with_len, get_or-map-range_with_len}
use Rattle.std.proofs.lemmas.Map.Made.{IsDistinct-from_AllPairs}
use Rattle.std.proofs.lemmas.Map.Steps.{length-le_from_distinct_below}
use Rattle.std.proofs.lemmas.Map.Views.{Contains-from_any}

-- ---- a number passes a test, or none does
abbrev pub Search : (ℕ → Bool) → ℕ → Type 0
Search test n = ((k : ℕ) × (k < n) × (test k ≡ true)) ⊎ ((k : ℕ) → k < n → test k ≡ false)

last_or : (test : ℕ → Bool) (n : ℕ) (b : Bool) → test n ≡ b → Search test n → Search test (suc n)
last_or test n true is before = inl (n, omega arith, is)
last_or test n false is (inl found) = let below = found.1 in inl (found.0, omega (arith, below), found.2)
last_or test n false is (inr none) = inr (λ k within.
    elim (cases_lt k n) [
      | inl below ↦ none k below
      | inr not_below ↦ (let same : k ≡ n = omega arith in ap test same ∙ is)
    ])

pub search_below : (test : ℕ → Bool) (n : ℕ) → Search test n
search_below test zero = inr (λ k within. absurd (omega arith))
search_below test (suc n) = last_or test n (test n) refl (search_below test n)

-- ---- more numbers than there are below a bound are not all below it
pub too_many : (f : ℕ → ℕ) (n : ℕ) → ((k : ℕ) → k < suc n → f k < n) → ((i j : ℕ) → i < j → j < suc n → f i ≢ f j) → ⊥
too_many f n below apart =
    let xs = map f (range_with_len 0 (suc n)) in
    let size : length xs ≡ suc n = length-map-range_with_len f 0 (suc n) in
    let at : (k d : ℕ) → k < suc n → _ =
    λ k d within. get_or-map-range_with_len f 0 (suc n) k k d within (omega arith) in
    let distinct = IsDistinct-from_AllPairs (λ x y. (eqb-true x y, eq-eqb x y)) xs
    (λ i j d before within same.
    let first : i < suc n = omega (arith, before, within, size) in
    let second : j < suc n = omega (arith, within, size) in
    apart i j before second (sym (at i d first) ∙ same ∙ at j d second)) in
    let few = length-le_from_distinct_below xs n distinct
    (λ q found.
    let among : Contains xs q = Contains-from_any eqb-true q xs found in
    let inside : among.0 < suc n = (let within = among.1 in omega (arith, within, size)) in
    let is = sym (at among.0 q inside) ∙ among.2 in
    let less = below among.0 inside in
    omega (arith, is, less)) in
    omega (arith, size, few)
