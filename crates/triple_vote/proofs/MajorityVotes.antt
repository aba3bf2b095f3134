-- In a vote of three, a value that two agree on wins; if all differ, the result is absent.
use Rattle.std.proofs.Common.{◌≡◌, ◌≢◌, ◌∙◌, ◌||◌, Bool, true, false, if◌then◌else◌, refl, ap, ap₂}
use Rattle.std.proofs.lemmas.Bool.{or_left, or_right, or_from, false_from_ne_true}
use Rattle.std.proofs.lemmas.Bool.Decides.{Decides-int_eq}
use Rattle.pals_base.specs.declared.basic_types.PortValue.{PortValue}
use Rattle.pals_base.specs.declared.basic_types.PortValue.TheVariants.{Absent, Present}
use Rattle.triple_vote.specs.Votes.{same_port, vote}
use Rattle.triple_vote.specs.proof.VoteLaws.{VotesOfThree}

-- ---- ports
same-itself : (x : PortValue) → same_port x x ≡ true
same-itself Absent = refl
same-itself (Present v) = (Decides-int_eq v v).1 refl

same-true : (x y : PortValue) → same_port x y ≡ true → x ≡ y
same-true Absent Absent is = refl
same-true Absent (Present w) is = absurd (cc)
same-true (Present v) Absent is = absurd (cc)
same-true (Present v) (Present w) is = ap Present ((Decides-int_eq v w).0 is)

differ : (x y : PortValue) → x ≢ y → same_port x y ≡ false
differ x y apart = false_from_ne_true (same_port x y) (λ is. apart (same-true x y is))

-- the vote, by the two answers that it looks at
abbrev by_two : PortValue → PortValue → Bool → Bool → PortValue
by_two x y first last = if first then x else if last then y else Absent

pub vote-first_two : (x z : PortValue) → vote x x z ≡ x
vote-first_two x z = ap (λ b. by_two x x b (same_port x z)) (or_left (same_port x x) (same_port x z) (same-itself x))

pub vote-outer_two : (x y : PortValue) → vote x y x ≡ x
vote-outer_two x y = ap (λ b. by_two x y b (same_port y x)) (or_right (same_port x y) (same_port x x) (same-itself x))

last_by : (x y : PortValue) (b : Bool) → same_port x y ≡ b → vote x y y ≡ y
last_by x y true is = ap (λ b. by_two x y (b || b) (same_port y y)) is ∙ same-true x y is
last_by x y false is = ap (λ b. by_two x y (b || b) (same_port y y)) is ∙ ap (by_two x y false) (same-itself y)

pub vote-last_two : (x y : PortValue) → vote x y y ≡ y
vote-last_two x y = last_by x y (same_port x y) refl

vote-no_two : (x y z : PortValue) → x ≢ y → x ≢ z → y ≢ z → vote x y z ≡ Absent
vote-no_two x y z a b c =
    ap₂ (by_two x y) (or_from (same_port x y) (same_port x z) (differ x y a) (differ x z b)) (differ y z c)

pub two_of_three_win : VotesOfThree
two_of_three_win =
    record { first_two = vote-first_two; outer_two = vote-outer_two; last_two = vote-last_two; no_two = vote-no_two }
