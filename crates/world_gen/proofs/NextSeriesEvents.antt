-- Which event of an event series is next, and which one is at a moment.
use Rattle.std.proofs.Common.{◌≡◌, inl, inr, ℕ, ◌+◌, ◌-◌, ◌*◌, ◌/◌, ◌%◌, ◌<◌, ◌≤◌, min, nat_eq, nat_le, Bool, true}
use Rattle.std.proofs.Common.{false, slice_get, Option, Some, None, refl, sym, ap, ◌∙◌, arith}
use Rattle.std.specs.Prelude.{position}
use Rattle.std.proofs.lemmas.Bool.{cases_lt, leb-true, leb-false, le-leb, lt-leb, eq-eqb, ne_eqb, false≢true}
use Rattle.std.proofs.lemmas.Nat.{mul-le}
use Rattle.std.proofs.lemmas.Grind.{div_ceil_times}
use Rattle.std.proofs.lemmas.List.Quantifiers.{position-Some}
use Rattle.std.proofs.lemmas.Option.{get_or_from_slice_get}
use Rattle.pals_base.specs.UpwardNumbers.{upwards}
use Rattle.pals_base.proofs.UpwardNumbers.{slice_get-upwards, upwards_is}
use Rattle.pals_model.proofs.FirstMatches.{first_at, found_at}
use Rattle.bus_machine.proofs.ListsAndOldestCopies.{none_found}
use Rattle.world_gen.specs.declared.event_series.EventSeries.{EventSeries}
use Rattle.world_gen.specs.proof.Schedules.{number_at_moment}
use Rattle.world_gen.specs.proof.EventSeries.{time_of, next_of}

-- ---- the first number that passes a test
pub first_number : (test : ℕ → Bool) (count n : ℕ) → n < count → test n ≡ true → ((k : ℕ) → k < n → test k ≡ false)
    → position test (upwards 0 count) ≡ Some n
first_number test count n below passes before =
    first_at test (upwards 0 count) n n (slice_get-upwards count n below) passes
    (λ k y less is_y. let at = upwards_is 0 count k y is_y in let same : k ≡ y = let one = at.0 in omega arith in
    ap test (sym same) ∙ before k less)

no_number_is : (test : ℕ → Bool) (count : ℕ) (o : Option ℕ) → position test (upwards 0 count) ≡ o
    → ((k : ℕ) → k < count → test k ≡ false) → o ≡ None
no_number_is test count None is none = refl
no_number_is test count (Some n) is none =
    let found = found_at test (upwards 0 count) n is in
    let at = upwards_is 0 count n found.0 found.1 in
    absurd (false≢true (sym (none found.0 (let one = at.0 in let two = at.1 in omega arith)) ∙ found.2))

pub no_number : (test : ℕ → Bool) (count : ℕ) → ((k : ℕ) → k < count → test k ≡ false)
    → position test (upwards 0 count) ≡ None
no_number test count none = no_number_is test count (position test (upwards 0 count)) refl none

pub record IsFirst (test : ℕ → Bool) (count n : ℕ) : Type 0 where
  pub below : n < count
  pub passes : test n ≡ true
  pub before : (k : ℕ) → k < n → test k ≡ false

pub is_first : (test : ℕ → Bool) (count n : ℕ) → position test (upwards 0 count) ≡ Some n → IsFirst test count n
is_first test count n is =
    let found = found_at test (upwards 0 count) n is in
    let at = upwards_is 0 count n found.0 found.1 in
    let same : found.0 ≡ n = let one = at.0 in omega arith in
    record {
      below = at.1;
      passes = ap test (sym same) ∙ found.2;
      before = λ k less.
          let fails = position-Some test (upwards 0 count) n 0 is in
          let here : slice_get (upwards 0 count) k ≡ Some k =
          slice_get-upwards count k (let few = at.1 in omega arith) in
          ap test (sym (get_or_from_slice_get (upwards 0 count) k k 0 here)) ∙ fails.2 k less;
    }

pub is_nowhere : (test : ℕ → Bool) (count k : ℕ) → position test (upwards 0 count) ≡ None → k < count → test k ≡ false
is_nowhere test count k none below = none_found test (upwards 0 count) k k none (slice_get-upwards count k below)

-- ---- times of a course
pub times_rise : (c : EventSeries) (j k : ℕ) → j ≤ k → time_of c j ≤ time_of c k
times_rise c j k more = let product : j * c.every ≤ k * c.every =
    mul-le j c.every k c.every more (omega arith) in omega arith

pub times_end : (c : EventSeries) (j k : ℕ) → 0 < c.every → j < k → time_of c j < time_of c k
times_end c j k rises less = let product : (j + 1) * c.every ≤ k * c.every =
    mul-le (j + 1) c.every k c.every (omega arith) (omega arith) in omega arith

-- the number that the code computes
abbrev steps_to : EventSeries → ℕ → ℕ
steps_to c from = (from - c.first) / c.every + min 1 ((from - c.first) % c.every)

reaches : (c : EventSeries) (from : ℕ) → 0 < c.every → from ≤ time_of c (steps_to c from)
reaches c from rises = let far = (div_ceil_times (from - c.first) c.every rises).0 in omega arith

not_before : (c : EventSeries) (from k : ℕ) → 0 < c.every → k < steps_to c from → time_of c k < from
not_before c from k rises less =
    let near = (div_ceil_times (from - c.first) c.every rises).1 in
    let product : (k + 1) * c.every ≤ steps_to c from * c.every =
    mul-le (k + 1) c.every (steps_to c from) c.every (omega arith) (omega arith) in
    omega arith

-- it is, by the distance from the first time
same_steps : (c : EventSeries) (from far n : ℕ) → far ≡ from - c.first → n ≡ far / c.every + min 1 (far % c.every)
    → n ≡ steps_to c from
same_steps c from far n is_far is = is ∙ ap (λ d. d / c.every + min 1 (d % c.every)) is_far

pub next_is : (c : EventSeries) (from far n : ℕ) → 0 < c.every → far ≡ from - c.first
    → n ≡ far / c.every + min 1 (far % c.every) → n < c.count → Some n ≡ next_of c from
next_is c from far n rises is_far is below =
    let same = same_steps c from far n is_far is in
    sym (first_number (λ k. nat_le from (time_of c k)) c.count n below
    (le-leb from (time_of c n)
    (let there = reaches c from rises in
    let here : time_of c n ≡ time_of c (steps_to c from) = ap (time_of c) same in omega arith))
    (λ k less. lt-leb from (time_of c k) (not_before c from k rises (omega arith))))

pub next_none : (c : EventSeries) (from far n : ℕ) → 0 < c.every → far ≡ from - c.first
    → n ≡ far / c.every + min 1 (far % c.every) → c.count ≤ n → None ≡ next_of c from
next_none c from far n rises is_far is past =
    let same = same_steps c from far n is_far is in
    sym (no_number (λ k. nat_le from (time_of c k)) c.count
    (λ k below. lt-leb from (time_of c k) (not_before c from k rises (omega arith))))

-- ---- the properties of the next one
pub record IsNext (c : EventSeries) (from n : ℕ) : Type 0 where
  pub below : n < c.count
  pub reached : from ≤ time_of c n
  pub before : (k : ℕ) → k < n → time_of c k < from

pub is_next : (c : EventSeries) (from n : ℕ) → next_of c from ≡ Some n → IsNext c from n
is_next c from n is =
    let first = is_first (λ k. nat_le from (time_of c k)) c.count n is in
    record {
      below = first.below;
      reached = leb-true from (time_of c n) first.passes;
      before = λ k less. leb-false from (time_of c k) (first.before k less);
    }

pub all_before : (c : EventSeries) (from k : ℕ) → next_of c from ≡ None → k < c.count → time_of c k < from
all_before c from k none below =
    leb-false from (time_of c k) (is_nowhere (λ n. nat_le from (time_of c n)) c.count k none below)

-- ---- which one is at a moment
pub at_moment : (c : EventSeries) (moment n : ℕ) → next_of c moment ≡ Some n → time_of c n ≡ moment
    → number_at_moment (time_of c) c.count moment ≡ Some n
at_moment c moment n is now =
    let next = is_next c moment n is in
    first_number (λ k. nat_eq (time_of c k) moment) c.count n next.below (eq-eqb (time_of c n) moment now)
    (λ k less. ne_eqb (time_of c k) moment (λ same. let early = next.before k less in omega arith))

pub after_moment : (c : EventSeries) (moment n : ℕ) → next_of c moment ≡ Some n → (time_of c n ≡ moment → ⊥)
    → number_at_moment (time_of c) c.count moment ≡ None
after_moment c moment n is later =
    let next = is_next c moment n is in
    no_number (λ k. nat_eq (time_of c k) moment) c.count
    (λ k below. ne_eqb (time_of c k) moment (λ same. elim (cases_lt k n) [
      | inl less ↦ let early = next.before k less in omega arith
      | inr more ↦ let rises = times_rise c n k more in let there = next.reached in later (omega arith)
    ]))

pub over_at : (c : EventSeries) (moment : ℕ) → next_of c moment ≡ None
    → number_at_moment (time_of c) c.count moment ≡ None
over_at c moment none =
    no_number (λ k. nat_eq (time_of c k) moment) c.count
    (λ k below. ne_eqb (time_of c k) moment (λ same. let early = all_before c moment k none below in omega arith))

-- between a time and the next deed nothing comes
pub quiet_until : (c : EventSeries) (from n time : ℕ) → next_of c from ≡ Some n → from ≤ time → time < time_of c n
    → number_at_moment (time_of c) c.count time ≡ None
quiet_until c from n time is after before =
    let next = is_next c from n is in
    no_number (λ k. nat_eq (time_of c k) time) c.count
    (λ k below. ne_eqb (time_of c k) time (λ same. elim (cases_lt k n) [
      | inl less ↦ let early = next.before k less in omega arith
      | inr more ↦ let rises = times_rise c n k more in omega arith
    ]))

pub quiet_after : (c : EventSeries) (from time : ℕ) → next_of c from ≡ None → from ≤ time
    → number_at_moment (time_of c) c.count time ≡ None
quiet_after c from time none after =
    no_number (λ k. nat_eq (time_of c k) time) c.count
    (λ k below. ne_eqb (time_of c k) time (λ same. let early = all_before c from k none below in omega arith))

-- the next event is at its time
pub next_comes : (c : EventSeries) (from n : ℕ) → 0 < c.every → next_of c from ≡ Some n
    → number_at_moment (time_of c) c.count (time_of c n) ≡ Some n
next_comes c from n rises is =
    first_number (λ k. nat_eq (time_of c k) (time_of c n)) c.count n (is_next c from n is).below
    (eq-eqb (time_of c n) (time_of c n) refl)
    (λ k less. ne_eqb (time_of c k) (time_of c n) (λ same. let early = times_end c k n rises less in omega arith))
