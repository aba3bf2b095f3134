-- Sums over the numbers below a bound.
use Rattle.std.proofs.Common.{◌≡◌, ◌≢◌, inl, inr, ℕ, zero, suc, ◌+◌, ◌*◌, ◌<◌, ◌≤◌, nat_eq, Bool, true, false, List}
use Rattle.std.proofs.Common.{length, take, refl, sym, ap, ◌∙◌, subst, arith}
use Rattle.std.specs.Prelude.{slice_index_or}
use Rattle.std.specs.List.{sum_by}
use Rattle.std.proofs.lemmas.Bool.{cases_eq, ne_eqb}
use Rattle.std.proofs.lemmas.List.{take_all}
use Rattle.std.proofs.lemmas.List.Sums.{sum_by_more}
use Rattle.run_laws.specs.proof.LinkTiming.{one_if}

abbrev pub sum_below : (ℕ → ℕ) → ℕ → ℕ
sum_below f zero = 0
sum_below f (suc n) = sum_below f n + f n

-- ---- monotonicity
-- if no term is greater, the sum is not greater
pub sum_stays : (f g : ℕ → ℕ) (n : ℕ) → ((k : ℕ) → k < n → g k ≤ f k) → sum_below g n ≤ sum_below f n
sum_stays f g zero most = omega arith
sum_stays f g (suc n) most =
    let rest = sum_stays f g n (λ k below. most k (omega arith)) in
    let last = most n (omega arith) in
    omega arith

-- if each term grows by at most another term, so does the sum
pub sum_rises : (f g h : ℕ → ℕ) (n : ℕ) → ((k : ℕ) → k < n → g k ≤ f k + h k)
    → sum_below g n ≤ sum_below f n + sum_below h n
sum_rises f g h zero most = omega arith
sum_rises f g h (suc n) most =
    let rest = sum_rises f g h n (λ k below. most k (omega arith)) in
    let last = most n (omega arith) in
    omega arith

-- if one term falls and no other term rises, the sum falls
pub sum_falls : (f g : ℕ → ℕ) (n j less : ℕ) → j < n → g j + less ≤ f j → ((k : ℕ) → k < n → k ≢ j → g k ≤ f k)
    → sum_below g n + less ≤ sum_below f n
sum_falls f g zero j less within falls most = absurd (omega arith)
sum_falls f g (suc n) j less within falls most = elim (cases_eq n j) [
  | inl same ↦
      let rest = sum_stays f g n (λ k below. most k (omega arith) (λ here. omega arith)) in
      let last : g n + less ≤ f n = subst (λ i. g i + less ≤ f i) (sym same) falls in
      omega arith
  | inr other ↦
      let before : j < n = omega arith in
      let rest = sum_falls f g n j less before falls (λ k below. most k (omega arith)) in
      let last = most n (omega arith) other in
      omega arith
]

-- ---- of several
pub sum_none : (n : ℕ) → sum_below (λ k. 0) n ≡ 0
sum_none zero = refl
sum_none (suc n) = let rest = sum_none n in omega arith

pub sum_scale : (f : ℕ → ℕ) (a n : ℕ) → sum_below (λ k. a * f k) n ≡ a * sum_below f n
sum_scale f a zero = omega arith
sum_scale f a (suc n) = let rest = sum_scale f a n in omega arith

pub sum_both : (f g : ℕ → ℕ) (n : ℕ) → sum_below (λ k. f k + g k) n ≡ sum_below f n + sum_below g n
sum_both f g zero = refl
sum_both f g (suc n) = let rest = sum_both f g n in omega arith

-- if each column of a table sums to at most one, the table sums to at most its number of columns
pub sum_columns : (h : ℕ → ℕ → ℕ) (n m : ℕ) → ((i : ℕ) → i < m → sum_below (λ k. h k i) n ≤ 1)
    → sum_below (λ k. sum_below (h k) m) n ≤ m
sum_columns h n zero one = let none = sum_none n in omega arith
sum_columns h n (suc m) one =
    let rest = sum_columns h n m (λ i below. one i (omega arith)) in
    let last = one m (omega arith) in
    let both = sum_both (λ k. sum_below (h k) m) (λ k. h k m) n in
    omega arith

-- at most one number below a bound equals a given number
bit_most : (b : Bool) → one_if b ≤ 1
bit_most true = omega arith
bit_most false = omega arith

none_is : (j n : ℕ) → n ≤ j → sum_below (λ k. one_if (nat_eq j k)) n ≡ 0
none_is j zero below = refl
none_is j (suc n) below =
    let rest = none_is j n (omega arith) in
    let other : one_if (nat_eq j n) ≡ 0 = ap one_if (ne_eqb j n (λ same. omega arith)) in
    omega arith

pub one_is : (j n : ℕ) → sum_below (λ k. one_if (nat_eq j k)) n ≤ 1
one_is j zero = omega arith
one_is j (suc n) = elim (cases_eq j n) [
  | inl same ↦
      let none = none_is j n (omega arith) in
      let one = bit_most (nat_eq j n) in
      omega arith
  | inr apart ↦
      let rest = one_is j n in
      let other : one_if (nat_eq j n) ≡ 0 = ap one_if (ne_eqb j n apart) in
      omega arith
]

-- ---- of a list
sum_front : {X : Type 0} (f : X → ℕ) (xs : List X) (d : X) (n : ℕ) → n ≤ length xs
    → sum_below (λ k. f (slice_index_or xs k d)) n ≡ sum_by f (take n xs)
sum_front f xs d zero within = refl
sum_front f xs d (suc n) within =
    let rest = sum_front f xs d n (omega arith) in
    let more = sum_by_more f xs n d (omega arith) in
    let next : n + 1 ≡ suc n = omega arith in
    let last = ap (λ i. sum_by f (take i xs)) next in
    omega arith

pub sum_list : {X : Type 0} (f : X → ℕ) (xs : List X) (d : X)
    → sum_below (λ k. f (slice_index_or xs k d)) (length xs) ≡ sum_by f xs
sum_list f xs d = sum_front f xs d (length xs) (omega arith) ∙ ap (sum_by f) (take_all (length xs) xs (omega arith))
