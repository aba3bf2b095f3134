-- The multiples of several rates, up to one hour.
use Rattle.std.proofs.Common.{◌≡◌, ◌∙◌, ap, sym, subst, ℕ, ◌+◌, ◌-◌, ◌*◌, ◌%◌, ◌<◌, ◌≤◌, ◌^◌, inl, inr, min, max, List}
use Rattle.std.proofs.Common.{[], ◌∷◌, ◌++◌, arith}
use Rattle.std.specs.Prelude.{All, fold}
use Rattle.std.specs.Int.{◌∣◌, next_multiple_of}
use Rattle.std.proofs.lemmas.List.Elements.{All-nil, All-cons, All-head, All-tail, All-push}
use Rattle.std.proofs.lemmas.Bool.{cases_lt}
use Rattle.std.proofs.lemmas.Nat.{mul-le, mod_below}
use Rattle.std.proofs.Math.Nat.{dvd_of_mod-eq-zero, mod-eq-zero_of_dvd, dvd_trans, dvd-sub, le_of_dvd, mod-eq_of_lt}
use Rattle.std.proofs.Math.Nat.{min-eq_left, min-eq_right}
use Rattle.pals_base.specs.declared.period_bound_and_releases.Gamma.{Gamma}
use Rattle.pals_base.specs.PeriodBoundAndReleases.{least_period}
use Rattle.pals_base.specs.declared.limits.TheConstants.{HOUR}
use Rattle.bound_checker.specs.proof.OverflowLimits.{IsWithinHour, IsRate}
use Rattle.bound_checker.specs.LeastMultiples.{greatest_rate, IsSuited, IsLeastMultiple, HasNoMultiple}
use Rattle.bound_checker.specs.proof.DivisorsAndMultiples.{IsLeastCommonMultiple}
use Rattle.bound_checker.specs.proof.RateMultiples.{HasMultiplesOf}

-- ---- lists
init_of_All : (P : ℕ → Type 0) (xs : List ℕ) (x : ℕ) → All P (xs ++ x ∷ []) → All P xs
init_of_All P [] x all = All-nil P
init_of_All P (y ∷ ys) x all = All-cons P y ys (All-head P y _ all) (init_of_All P ys x (All-tail P y _ all))

last_of_All : (P : ℕ → Type 0) (xs : List ℕ) (x : ℕ) → All P (xs ++ x ∷ []) → P x
last_of_All P [] x all = All-head P x [] all
last_of_All P (y ∷ ys) x all = last_of_All P ys x (All-tail P y _ all)

-- ---- below the cap, the multiples of a number are the multiples of the capped number
mod-cut : (t m cut : ℕ) → t < cut → t % min m cut ≡ t % m
mod-cut t m cut below = elim (cases_lt m cut) [
  | inl less ↦ ap (λ x. t % x) (min-eq_left (omega arith))
  | inr more ↦ ap (λ x. t % x) (min-eq_right more) ∙ mod-eq_of_lt below ∙ sym (mod-eq_of_lt (omega arith))
]

-- ---- the multiples of the rates so far
pub multiples_of_none : HasMultiplesOf [] 1
multiples_of_none = record {
  some_time = omega arith;
  at_most = omega arith;
  from_all = λ t within all. omega arith;
  to_all = λ t within multiple. All-nil _;
}

pub multiples_of_more : (rates : List ℕ) (rate common next : ℕ) → HasMultiplesOf rates common → 0 < next
    → IsLeastCommonMultiple common rate next
    → HasMultiplesOf (rates ++ rate ∷ []) (min next (HOUR + 1))
multiples_of_more rates rate common next so_far some least = record {
  some_time = omega arith;
  at_most = omega arith;
  from_all = λ t within all.
      mod-cut t next (HOUR + 1) (omega arith)
      ∙ mod-eq-zero_of_dvd next (least.least t
      (dvd_of_mod-eq-zero common (so_far.from_all t within (init_of_All (λ k. t % k ≡ 0) rates rate all)))
      (dvd_of_mod-eq-zero rate (last_of_All (λ k. t % k ≡ 0) rates rate all)));
  to_all = λ t within multiple.
      let of_next : next ∣ t = dvd_of_mod-eq-zero next (sym (mod-cut t next (HOUR + 1) (omega arith)) ∙ multiple) in
      All-push (λ k. t % k ≡ 0) rates rate
      (so_far.to_all t within (mod-eq-zero_of_dvd common (dvd_trans common least.left of_next)))
      (mod-eq-zero_of_dvd rate (dvd_trans rate least.right of_next));
}

-- ---- the first multiple from a number on
pub first_multiple : (m s t low : ℕ) → 0 < m → s % m ≡ 0 → t % m ≡ 0 → low ≤ s → t < low + m → t ≤ s
first_multiple m s t low some of_s of_t above near = elim (cases_lt s t) [
  | inl less ↦
      let of_gap : m ∣ t - s = dvd-sub m (dvd_of_mod-eq-zero m of_t) (dvd_of_mod-eq-zero m of_s) in
      let far : m ≤ t - s = le_of_dvd (omega arith) of_gap in
      absurd (omega arith)
  | inr more ↦ more
]

-- ---- the maximum rate
greatest_from : (rates : List ℕ) (k : ℕ) → IsRate k → All IsRate rates → IsRate (fold max k rates)
greatest_from [] k first all = first
greatest_from (x ∷ rates) k first all =
    let rate : IsRate x = All-head IsRate x rates all in
    greatest_from rates (max k x) (record { some_step = omega arith; at_most = omega arith })
    (All-tail IsRate x rates all)

pub greatest-IsRate : (rates : List ℕ) → All IsRate rates → IsRate (greatest_rate rates)
greatest-IsRate rates all = greatest_from rates 1 (record { some_step = omega arith; at_most = omega arith }) all

-- ---- the smallest suitable period
-- for the numbers in a call: the minimum period, and the first multiple of the common one from there on
pub record IsFirst (g : Gamma) (rates : List ℕ) (common t : ℕ) : Type 0 where
  pub multiples : HasMultiplesOf rates common
  pub meets : least_period g (greatest_rate rates) ≤ t
  pub near : t < least_period g (greatest_rate rates) + common
  pub multiple : t % common ≡ 0

le_from_first : (g : Gamma) (rates : List ℕ) (common t s : ℕ) → IsFirst g rates common t → s ≤ HOUR
    → IsSuited g rates s → t ≤ s
le_from_first g rates common t s first within suited =
    first_multiple common s t _ first.multiples.some_time (first.multiples.from_all s within suited.multiple)
    first.multiple suited.meets first.near

pub is_least_multiple : (g : Gamma) (rates : List ℕ) (common t : ℕ) → IsFirst g rates common t → t ≤ HOUR
    → IsLeastMultiple g rates t
is_least_multiple g rates common t first within = record {
  suited = record { meets = first.meets; multiple = first.multiples.to_all t within first.multiple };
  within = within;
  least = λ s suited. elim (cases_lt s t) [
    | inl less ↦ le_from_first g rates common t s first (omega arith) suited
    | inr more ↦ more
  ];
}

pub has_no_multiple : (g : Gamma) (rates : List ℕ) (common t : ℕ) → IsFirst g rates common t → HOUR < t
    → HasNoMultiple g rates
has_no_multiple g rates common t first long s within suited =
    let no_longer : t ≤ s = le_from_first g rates common t s first within suited in
    omega arith

pub first_of_call : (g : Gamma) (rates : List ℕ) (rate least common t : ℕ) → HasMultiplesOf rates common
    → rate ≡ greatest_rate rates → least ≡ least_period g rate
    → least ≤ t → t < least + common → t % common ≡ 0 → IsFirst g rates common t
first_of_call g rates rate least common t multiples greatest is meets near multiple =
    let e : least ≡ least_period g (greatest_rate rates) = is ∙ ap (λ k. least_period g k) greatest in
    record {
      multiples = multiples;
      meets = subst (λ x. x ≤ t) e meets;
      near = subst (λ x. t < x + common) e near;
      multiple = multiple;
    }

-- ---- no number exceeds 64 bits
pub next_multiple-fits : (g : Gamma) (rate least common : ℕ) → IsWithinHour g → rate ≤ 64 → least ≡ least_period g rate
    → 1 ≤ common → common ≤ HOUR + 1
    → next_multiple_of least common < 2 ^ 64
next_multiple-fits g rate least common within few is some at_most =
    let steps : rate * g.alpha_max ≤ 64 * HOUR = mul-le rate g.alpha_max 64 HOUR few within.execution in
    let rest : (common - least % common) % common < common = mod_below (common - least % common) common some in
    omega (arith, within.skew, within.network, within.execution)
