-- Searches over the numbers below a bound: either the first number with a property, or a number with the smallest
-- value, exists, or no number has the property.
use Rattle.std.proofs.Common.{◌≡◌, ◌⊎◌, inl, inr, ℕ, zero, suc, ◌<◌, ◌≤◌, subst, arith}
use Rattle.std.proofs.lemmas.Bool.{cases_lt}

one_more : (R : ℕ → Type 0) (n : ℕ) → ((k : ℕ) → k < n → R k) → R n → (k : ℕ) → k < suc n → R k
one_more R n before last k within = elim (cases_lt k n) [
  | inl below ↦ before k below
  | inr past ↦ let same : n ≡ k = omega arith in subst R same last
]

-- the first is found, or none is
pub record IsFirst (P Q : ℕ → Type 0) (n : ℕ) : Type 0 where
  pub place : ℕ
  pub within : place < n
  pub found : P place
  pub before : (k : ℕ) → k < place → Q k

next_first : (P Q : ℕ → Type 0) (n : ℕ) → P n ⊎ Q n → IsFirst P Q n ⊎ ((k : ℕ) → k < n → Q k)
    → IsFirst P Q (suc n) ⊎ ((k : ℕ) → k < suc n → Q k)
next_first P Q n last (inl first) = let below = first.within in
    inl (record { place = first.place; within = omega arith; found = first.found; before = first.before })
next_first P Q n (inl is) (inr none) = inl (record { place = n; within = omega arith; found = is; before = none })
next_first P Q n (inr not) (inr none) = inr (one_more Q n none not)

pub first_or_none : (P Q : ℕ → Type 0) (n : ℕ) → ((k : ℕ) → k < n → P k ⊎ Q k) → IsFirst P Q n ⊎ ((k : ℕ) → k < n → Q k)
first_or_none P Q zero each = inr (λ k within. absurd (omega arith))
first_or_none P Q (suc n) each =
    next_first P Q n (each n (omega arith)) (first_or_none P Q n (λ k below. each k (omega arith)))

-- one of least value is found, or none is
pub record IsLeastOf (P Q : ℕ → Type 0) (f : ℕ → ℕ) (n : ℕ) : Type 0 where
  pub place : ℕ
  pub within : place < n
  pub found : P place
  pub least : (k : ℕ) → k < n → Q k ⊎ (f place ≤ f k)

lower : (R : Type 0) (a b c : ℕ) → a ≤ b → R ⊎ (b ≤ c) → R ⊎ (a ≤ c)
lower R a b c le (inl is) = inl is
lower R a b c le (inr most) = inr (omega arith)

next_least : (P Q : ℕ → Type 0) (f : ℕ → ℕ) (n : ℕ) → P n ⊎ Q n → IsLeastOf P Q f n ⊎ ((k : ℕ) → k < n → Q k)
    → IsLeastOf P Q f (suc n) ⊎ ((k : ℕ) → k < suc n → Q k)
next_least P Q f n (inl is) (inl old) = elim (cases_lt (f n) (f old.place)) [
  | inl less ↦ inl (record {
    place = n;
    within = omega arith;
    found = is;
    least =
        one_more (λ k. Q k ⊎ (f n ≤ f k)) n
        (λ k below. lower (Q k) (f n) (f old.place) (f k) (omega arith) (old.least k below)) (inr (omega arith));
  })
  | inr most ↦
      let below = old.within in
      inl (record {
        place = old.place;
        within = omega arith;
        found = old.found;
        least = one_more (λ k. Q k ⊎ (f old.place ≤ f k)) n old.least (inr most);
      })
]
next_least P Q f n (inr not) (inl old) =
    let below = old.within in
    inl (record {
      place = old.place;
      within = omega arith;
      found = old.found;
      least = one_more (λ k. Q k ⊎ (f old.place ≤ f k)) n old.least (inl not);
    })
next_least P Q f n (inl is) (inr none) =
    inl (record {
      place = n;
      within = omega arith;
      found = is;
      least = one_more (λ k. Q k ⊎ (f n ≤ f k)) n (λ k below. inl (none k below)) (inr (omega arith));
    })
next_least P Q f n (inr not) (inr none) = inr (one_more Q n none not)

pub least_or_none : (P Q : ℕ → Type 0) (f : ℕ → ℕ) (n : ℕ) → ((k : ℕ) → k < n → P k ⊎ Q k)
    → IsLeastOf P Q f n ⊎ ((k : ℕ) → k < n → Q k)
least_or_none P Q f zero each = inr (λ k within. absurd (omega arith))
least_or_none P Q f (suc n) each =
    next_least P Q f n (each n (omega arith)) (least_or_none P Q f n (λ k below. each k (omega arith)))
