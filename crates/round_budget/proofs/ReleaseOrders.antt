-- Sorted releases: a property of all stays, and each release comes before the releases that it precedes.
use Rattle.std.proofs.Common.{◌≡◌, ◌⊎◌, inl, inr, ℕ, suc, ◌<◌, ◌≤◌, true, false, List, [], ◌∷◌, length, refl, ap, ◌∙◌}
use Rattle.std.proofs.Common.{arith}
use Rattle.std.specs.Prelude.{nat_eq, nat_lt, ◌&&◌, ◌||◌, if◌then◌else◌}
use Rattle.std.specs.List.{AllByRecursion as Every}
use Rattle.std.proofs.lemmas.Bool.Decides.{nat_tests}
use Rattle.list_lemmas.proofs.Elements.{AllByRecursion-weaker}
use Rattle.list_lemmas.proofs.PairwiseProperties.{Pairs}
use Rattle.step_code.specs.proof.StackHeights.{Member}
use Rattle.round_budget.specs.Budgets.{Release, precedes, put, in_order}

-- ---- all elements
every_put : (P : Release → Type 0) (x : Release) (ys : List Release) → P x → Every P ys → Every P (put x ys)
every_put P x [] here all = (here, tt)
every_put P x (y ∷ ys) here all =
    elim (precedes y x) as (λ b. Every P (if b then y ∷ put x ys else x ∷ y ∷ ys)) [
      | true ↦ (all.0, every_put P x ys here all.1)
      | false ↦ (here, all)
    ]

pub every_in_order : (P : Release → Type 0) (xs : List Release) → Every P xs → Every P (in_order xs)
every_in_order P [] all = tt
every_in_order P (x ∷ xs) all = every_put P x (in_order xs) all.0 (every_in_order P xs all.1)

-- ---- all pairs, where either may come first
module _ (R : Release → Release → Type 0) (either : (x y : Release) → R x y → R y x) where
  pairs_put : (x : Release) (ys : List Release) → Every (R x) ys → Pairs R ys → Pairs R (put x ys)
  pairs_put x [] here all = (tt, tt)
  pairs_put x (y ∷ ys) here all =
      elim (precedes y x) as (λ b. Pairs R (if b then y ∷ put x ys else x ∷ y ∷ ys)) [
        | true ↦ (every_put (R y) x ys (either x y here.0) all.0, pairs_put x ys here.1 all.1)
        | false ↦ (here, all)
      ]

  pub pairs_in_order : (xs : List Release) → Pairs R xs → Pairs R (in_order xs)
  pairs_in_order [] all = tt
  pairs_in_order (x ∷ xs) all = pairs_put x (in_order xs) (every_in_order (R x) xs all.0) (pairs_in_order xs all.1)

-- ---- the order
-- one does not follow the other
pub record NotAfter (x y : Release) : Type 0 where
  pub time : x.time ≤ y.time
  pub node : y.time ≤ x.time → x.node ≤ y.node

before_numbers : (t s n m : ℕ) → (nat_lt t s || (nat_eq t s && nat_lt n m)) ≡ true → (t ≤ s) × (s ≤ t → n ≤ m)
before_numbers t s n m is = grind (arith, nat_tests)

after_numbers : (t s n m : ℕ) → (nat_lt t s || (nat_eq t s && nat_lt n m)) ≡ false → (s ≤ t) × (t ≤ s → m ≤ n)
after_numbers t s n m is = grind (arith, nat_tests)

pub strict_numbers : (t s n m : ℕ) → t ≤ s → (s ≤ t → n < m) → (nat_lt t s || (nat_eq t s && nat_lt n m)) ≡ true
strict_numbers t s n m first second = grind (arith, nat_tests)

not_after_before : (x y : Release) → precedes y x ≡ true → NotAfter y x
not_after_before x y is = let both = before_numbers y.time x.time y.node x.node is in
    record { time = both.0; node = both.1 }

not_after_other : (x y : Release) → precedes y x ≡ false → NotAfter x y
not_after_other x y is = let both = after_numbers y.time x.time y.node x.node is in
    record { time = both.0; node = both.1 }

pub not_after_both : (x y z : Release) → NotAfter x y → NotAfter y z → NotAfter x z
not_after_both x y z first second = record {
  time = omega (arith, first.time, second.time);
  node = λ same. (let a = first.node in let b = second.node in omega (arith, first.time, second.time, a, b, same));
}

sorted_put : (x : Release) (ys : List Release) → Pairs NotAfter ys → Pairs NotAfter (put x ys)
sorted_put x [] all = (tt, tt)
sorted_put x (y ∷ ys) all =
    (elim (precedes y x) as (λ b. precedes y x ≡ b → Pairs NotAfter (if b then y ∷ put x ys else x ∷ y ∷ ys)) [
      | true ↦ λ is. (every_put (NotAfter y) x ys (not_after_before x y is) all.0, sorted_put x ys all.1)
      | false ↦ λ is. (let here = not_after_other x y is in
          ((here, AllByRecursion-weaker (NotAfter y) (NotAfter x) (λ z. not_after_both x y z here) ys all.0), all))
    ]) refl

pub sorted_in_order : (xs : List Release) → Pairs NotAfter (in_order xs)
sorted_in_order [] = tt
sorted_in_order (x ∷ xs) = sorted_put x (in_order xs) (sorted_in_order xs)

-- ---- the same elements
length_put : (x : Release) (ys : List Release) → length (put x ys) ≡ suc (length ys)
length_put x [] = refl
length_put x (y ∷ ys) =
    elim (precedes y x) as (λ b. length (if b then y ∷ put x ys else x ∷ y ∷ ys) ≡ suc (suc (length ys))) [
      | true ↦ ap suc (length_put x ys)
      | false ↦ refl
    ]

pub length_in_order : (xs : List Release) → length (in_order xs) ≡ length xs
length_in_order [] = refl
length_in_order (x ∷ xs) = length_put x (in_order xs) ∙ ap suc (length_in_order xs)

member_put : (x z : Release) (ys : List Release) → (x ≡ z) ⊎ Member ys z → Member (put x ys) z
member_put x z [] among = among
member_put x z (y ∷ ys) among =
    elim (precedes y x) as (λ b. Member (if b then y ∷ put x ys else x ∷ y ∷ ys) z) [
      | true ↦ elim among [
        | inl here ↦ inr (member_put x z ys (inl here))
        | inr later ↦ elim later [
          | inl next ↦ inl next
          | inr beyond ↦ inr (member_put x z ys (inr beyond))
        ]
      ]
      | false ↦ among
    ]

put_member : (x z : Release) (ys : List Release) → Member (put x ys) z → (x ≡ z) ⊎ Member ys z
put_member x z [] among = among
put_member x z (y ∷ ys) among =
    (elim (precedes y x) as (λ b. Member (if b then y ∷ put x ys else x ∷ y ∷ ys) z → (x ≡ z) ⊎ Member (y ∷ ys) z) [
      | true ↦ λ there. elim there [
        | inl next ↦ inr (inl next)
        | inr later ↦ elim (put_member x z ys later) [ inl here ↦ inl here | inr beyond ↦ inr (inr beyond) ]
      ]
      | false ↦ λ there. there
    ]) among

pub member_in_order : (z : Release) (xs : List Release) → Member xs z → Member (in_order xs) z
member_in_order z [] among = among
member_in_order z (x ∷ xs) (inl here) = member_put x z (in_order xs) (inl here)
member_in_order z (x ∷ xs) (inr later) = member_put x z (in_order xs) (inr (member_in_order z xs later))

pub in_order_member : (z : Release) (xs : List Release) → Member (in_order xs) z → Member xs z
in_order_member z [] among = among
in_order_member z (x ∷ xs) among =
    elim (put_member x z (in_order xs) among) [ inl here ↦ inl here | inr later ↦ inr (in_order_member z xs later) ]
