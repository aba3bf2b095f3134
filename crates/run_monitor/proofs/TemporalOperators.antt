-- The recursion of past-time operators from one round to the next.
use Rattle.std.proofs.Common.{◌≡◌, ◌∙◌, inl, inr, ℕ, zero, suc, ◌+◌, ◌-◌, ◌<◌, ◌≤◌, Bool, true, false, ◌&&◌, ◌||◌, []}
use Rattle.std.proofs.Common.{◌∷◌, ◌++◌, refl, sym, ap, ap₂, arith, eq-or-lt_of_le, ◌↔◌}
use Rattle.std.specs.List.{list_any, list_all}
use Rattle.std.proofs.lemmas.Bool.{and_parts, and_from, or_left, or_right, or_cases}
use Rattle.std.proofs.lemmas.List.Folds.{list_any-append, list_all-append}
use Rattle.std.proofs.Math.Bool.{or-false, and-true}
use Rattle.list_lemmas.proofs.Booleans.{and_assoc_left}
use Rattle.pals_base.specs.UpwardNumbers.{upwards}
use Rattle.pals_base.proofs.UpwardNumbers.{upwards-more, list_all_upwards}
use Rattle.run_monitor.specs.TemporalOperators.{rounds_to, rounds_after, previously, once, always, since}

-- ---- tests

either_and : (a b c : Bool) → ((a && c) || (b && c)) ≡ ((a || b) && c)
either_and true true true = refl
either_and true true false = refl
either_and true false true = refl
either_and true false false = refl
either_and false b c = refl

-- ---- one round more
rounds-more : (n : ℕ) → rounds_to (suc n) ≡ rounds_to n ++ suc n ∷ []
rounds-more n = upwards-more 0 (suc n) ∙ ap (λ k. rounds_to n ++ k ∷ []) (omega arith)

pub once-first : (p : ℕ → Bool) → once p 0 ≡ p 0
once-first p = or-false (p 0)

pub once-next : (p : ℕ → Bool) (n : ℕ) → once p (suc n) ≡ (once p n || p (suc n))
once-next p n =
    ap (list_any p) (rounds-more n) ∙ list_any-append p (rounds_to n) (suc n ∷ [])
    ∙ ap (λ b. once p n || b) (or-false (p (suc n)))

pub always-first : (p : ℕ → Bool) → always p 0 ≡ p 0
always-first p = and-true (p 0)

pub always-next : (p : ℕ → Bool) (n : ℕ) → always p (suc n) ≡ (always p n && p (suc n))
always-next p n =
    ap (list_all p) (rounds-more n) ∙ list_all-append p (rounds_to n) (suc n ∷ [])
    ∙ ap (λ b. always p n && b) (and-true (p (suc n)))

-- the rounds after m are one more, where m is not the last
after-more : (m n : ℕ) → m ≤ n → rounds_after m (suc n) ≡ rounds_after m n ++ suc n ∷ []
after-more m n within =
    let one : suc n - m ≡ suc (n - m) = omega arith in
    let last : suc m + (n - m) ≡ suc n = omega arith in
    ap (upwards (suc m)) one ∙ upwards-more (suc m) (n - m) ∙ ap (λ k. rounds_after m n ++ k ∷ []) last

after-none : (n : ℕ) → rounds_after n n ≡ []
after-none n = let none : n - n ≡ 0 = omega arith in ap (upwards (suc n)) none

abbrev held_since : (ℕ → Bool) → (ℕ → Bool) → ℕ → ℕ → Bool
held_since p q n m = q m && list_all p (rounds_after m n)

held-more : (p q : ℕ → Bool) (m n : ℕ) → m ≤ n → held_since p q (suc n) m ≡ (held_since p q n m && p (suc n))
held-more p q m n within =
    ap (λ ks. q m && list_all p ks) (after-more m n within)
    ∙ ap (λ b. q m && b) (list_all-append p (rounds_after m n) (suc n ∷ [])
    ∙ ap (λ b. list_all p (rounds_after m n) && b) (and-true (p (suc n))))
    ∙ and_assoc_left (q m) (list_all p (rounds_after m n)) (p (suc n))

held-now : (p q : ℕ → Bool) (n : ℕ) → held_since p q n n ≡ q n
held-now p q n = ap (λ ks. q n && list_all p ks) (after-none n) ∙ and-true (q n)

any-more : (p q : ℕ → Bool) (n from count : ℕ) → from + count ≤ suc n
    → list_any (held_since p q (suc n)) (upwards from count)
    ≡ (list_any (held_since p q n) (upwards from count) && p (suc n))
any-more p q n from zero within = refl
any-more p q n from (suc count) within =
    ap₂ (λ a b. a || b) (held-more p q from n (omega arith)) (any-more p q n (suc from) count (omega arith))
    ∙ either_and (held_since p q n from) (list_any (held_since p q n) (upwards (suc from) count)) (p (suc n))

pub since-first : (p q : ℕ → Bool) → since p q 0 ≡ q 0
since-first p q = or-false (held_since p q 0 0) ∙ held-now p q 0

pub since-next : (p q : ℕ → Bool) (n : ℕ) → since p q (suc n) ≡ ((since p q n && p (suc n)) || q (suc n))
since-next p q n =
    ap (list_any (held_since p q (suc n))) (rounds-more n)
    ∙ list_any-append (held_since p q (suc n)) (rounds_to n) (suc n ∷ [])
    ∙ ap₂ (λ a b. a || b) (any-more p q n 0 (suc n) (omega arith))
    (or-false (held_since p q (suc n) (suc n)) ∙ held-now p q (suc n))

-- ---- an operator depends only on the values of the rounds up to its own
abbrev pub AgreeTo : (ℕ → Bool) → (ℕ → Bool) → ℕ → Type 0
AgreeTo p q n = (m : ℕ) → m ≤ n → p m ≡ q m

fewer : (p q : ℕ → Bool) (n : ℕ) → AgreeTo p q (suc n) → AgreeTo p q n
fewer p q n same = λ m within. same m (omega arith)

pub previously-same : (p q : ℕ → Bool) (n : ℕ) → AgreeTo p q n → previously p n ≡ previously q n
previously-same p q zero same = refl
previously-same p q (suc n) same = same n (omega arith)

pub once-same : (p q : ℕ → Bool) (n : ℕ) → AgreeTo p q n → once p n ≡ once q n
once-same p q zero same = once-first p ∙ same 0 (omega arith) ∙ sym (once-first q)
once-same p q (suc n) same =
    once-next p n ∙ ap₂ (λ a b. a || b) (once-same p q n (fewer p q n same)) (same (suc n) (omega arith))
    ∙ sym (once-next q n)

pub always-same : (p q : ℕ → Bool) (n : ℕ) → AgreeTo p q n → always p n ≡ always q n
always-same p q zero same = always-first p ∙ same 0 (omega arith) ∙ sym (always-first q)
always-same p q (suc n) same =
    always-next p n ∙ ap₂ (λ a b. a && b) (always-same p q n (fewer p q n same)) (same (suc n) (omega arith))
    ∙ sym (always-next q n)

abbrev continued : Bool → Bool → Bool → Bool
continued before p q = (before && p) || q

pub since-same : (p q r s : ℕ → Bool) (n : ℕ) → AgreeTo p r n → AgreeTo q s n → since p q n ≡ since r s n
since-same p q r s zero first second = since-first p q ∙ second 0 (omega arith) ∙ sym (since-first r s)
since-same p q r s (suc n) first second =
    since-next p q n
    ∙ ap₂ (λ b c. continued b c (q (suc n))) (since-same p q r s n (fewer p r n first) (fewer q s n second))
    (first (suc n) (omega arith))
    ∙ ap (continued (since r s n) (r (suc n))) (second (suc n) (omega arith))
    ∙ sym (since-next r s n)

-- ---- read in words
some_at : (p : ℕ → Bool) (from count : ℕ) → list_any p (upwards from count) ≡ true
    → (m : ℕ) × (from ≤ m) × (m < from + count) × (p m ≡ true)
some_at p from zero is = absurd (cc)
some_at p from (suc count) is =
    elim (or_cases (p from) (list_any p (upwards (suc from) count)) is) [
      | inl here ↦ (from, omega arith, omega arith, here)
      | inr later ↦ let rest = some_at p (suc from) count later in
          (rest.0, omega (arith, rest.1), omega (arith, rest.2), rest.3)
    ]

at_some : (p : ℕ → Bool) (from count m : ℕ) → from ≤ m → m < from + count → p m ≡ true
    → list_any p (upwards from count) ≡ true
at_some p from zero m low high is = absurd (omega arith)
at_some p from (suc count) m low high is =
    elim (eq-or-lt_of_le low) [
      | inl here ↦ or_left (p from) (list_any p (upwards (suc from) count)) (ap p here ∙ is)
      | inr above ↦ or_right (p from) (list_any p (upwards (suc from) count))
          (at_some p (suc from) count m (omega arith) (omega arith) is)
    ]

all_at : (p : ℕ → Bool) (from count : ℕ) → list_all p (upwards from count) ≡ true → (m : ℕ) → from ≤ m
    → m < from + count → p m ≡ true
all_at p from zero is m low high = absurd (omega arith)
all_at p from (suc count) is m low high =
    let halves = and_parts (p from) (list_all p (upwards (suc from) count)) is in
    elim (eq-or-lt_of_le low) [
      | inl here ↦ sym (ap p here) ∙ halves.0
      | inr above ↦ all_at p (suc from) count halves.1 m (omega arith) (omega arith)
    ]

pub previously-reads : (p : ℕ → Bool) (n : ℕ) → previously p n ≡ true ↔ ((m : ℕ) × (n ≡ suc m) × (p m ≡ true))
previously-reads p zero = (λ is. absurd (cc), λ at. absurd (omega (arith, at.1)))
previously-reads p (suc n) = (λ is. (n, refl, is), λ at. let same : n ≡ at.0 = omega (arith, at.1) in ap p same ∙ at.2)

pub once-reads : (p : ℕ → Bool) (n : ℕ) → once p n ≡ true ↔ ((m : ℕ) × (m ≤ n) × (p m ≡ true))
once-reads p n = (
  λ is. (let at = some_at p 0 (suc n) is in (at.0, omega (arith, at.2), at.3)),
  λ at. at_some p 0 (suc n) at.0 (omega arith) (omega (arith, at.1)) at.2,
)

pub always-reads : (p : ℕ → Bool) (n : ℕ) → always p n ≡ true ↔ ((m : ℕ) → m ≤ n → p m ≡ true)
always-reads p n = (
  λ is. (λ m within. all_at p 0 (suc n) is m (omega arith) (omega arith)),
  λ each. list_all_upwards p 0 (suc n) (λ m low high. each m (omega arith)),
)

abbrev HoldsSince : (ℕ → Bool) → (ℕ → Bool) → ℕ → Type 0
HoldsSince p q n = (m : ℕ) × (m ≤ n) × (q m ≡ true) × ((i : ℕ) → m < i → i ≤ n → p i ≡ true)

pub since-reads : (p q : ℕ → Bool) (n : ℕ)
    → since p q n ≡ true ↔ ((m : ℕ) × (m ≤ n) × (q m ≡ true) × ((i : ℕ) → m < i → i ≤ n → p i ≡ true))
since-reads p q n = (there, back)
  where
    there : since p q n ≡ true → HoldsSince p q n
    there is =
        let at = some_at (held_since p q n) 0 (suc n) is in
        let halves = and_parts (q at.0) (list_all p (rounds_after at.0 n)) at.3 in
        let within : at.0 ≤ n = omega (arith, at.2) in
        (at.0, within, halves.0, λ i low high. all_at p (suc at.0) (n - at.0) halves.1 i (omega arith) (omega arith))

    back : HoldsSince p q n → since p q n ≡ true
    back at =
        let m = at.0 in
        let within : m ≤ n = at.1 in
        at_some (held_since p q n) 0 (suc n) m (omega arith) (omega arith)
        (and_from (q m) (list_all p (rounds_after m n)) at.2
        (list_all_upwards p (suc m) (n - m) (λ i low high. at.3 i (omega arith) (omega arith))))
