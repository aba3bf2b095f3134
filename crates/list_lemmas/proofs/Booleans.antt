-- Tests joined by `&&` and `||`.
use Rattle.std.proofs.Common.{◌≡◌, ◌∙◌, ◌⊎◌, inl, inr, Bool, true, false, ◌&&◌, ◌||◌, refl, sym}
use Rattle.std.proofs.lemmas.Bool.{false≢true, true≢false}

-- a goal by the two values of a test
pub by_test : (b : Bool) (P : Type 0) → (b ≡ true → P) → (b ≡ false → P) → P
by_test true P holds fails = holds refl
by_test false P holds fails = fails refl

pub opposed : (b : Bool) → b ≡ true → b ≡ false → ⊥
opposed b holds fails = true≢false (sym holds ∙ fails)

pub and_assoc_left : (a b c : Bool) → (a && (b && c)) ≡ ((a && b) && c)
and_assoc_left true b c = refl
and_assoc_left false b c = refl

pub and_three_parts : (a b c : Bool) → (a && b && c) ≡ true → (a ≡ true) × (b ≡ true) × (c ≡ true)
and_three_parts true true true all = (refl, refl, refl)
and_three_parts true true false all = absurd (false≢true all)
and_three_parts true false c all = absurd (false≢true all)
and_three_parts false b c all = absurd (false≢true all)

pub and_second_false : (a b : Bool) → a ≡ true → (a && b) ≡ false → b ≡ false
and_second_false true b holds fails = fails
and_second_false false b holds fails = absurd (false≢true holds)

pub or_false_left : (a b : Bool) → (a || b) ≡ false → a ≡ false
or_false_left true b none = none
or_false_left false b none = refl

pub or_false_right : (a b : Bool) → (a || b) ≡ false → b ≡ false
or_false_right true b none = absurd (cc)
or_false_right false b none = none

-- if the first of two fails, the second holds
pub or_second : (a b : Bool) → a ≡ false → (a || b) ≡ true → b ≡ true
or_second true b fails one = absurd (cc)
or_second false b fails one = one

pub or_and_cases : (a b c : Bool) → (a || (b && c)) ≡ true → (a ≡ true) ⊎ ((b ≡ true) × (c ≡ true))
or_and_cases true b c one = inl refl
or_and_cases false true c one = inr (refl, one)
or_and_cases false false c one = absurd (false≢true one)
