-- Two lists in order with the same elements are equal, where no two elements of the first are equal in the order.
use Rattle.std.proofs.Common.{◌≡◌, ◌⊎◌, inl, inr, ℕ, suc, ◌+◌, ◌<◌, ◌≤◌, Bool, true, false, cond, List, [], ◌∷◌, map}
use Rattle.std.proofs.Common.{refl, sym, ap, ap₂, ◌∙◌, subst, arith, Less, Equal, Greater}
use Rattle.std.specs.Prelude.{nat_eq, nat_lt, ◌==◌, ◌&&◌, ◌||◌, if◌then◌else◌, IsTrue, slice_index_or}
use Rattle.std.specs.Ordering.{is_lt, ordering_then, nat_cmp}
use Rattle.std.specs.List.Sorted.{IsSortedBy}
use Rattle.std.specs.List.{sum_by, AllByRecursion as Every}
use Rattle.std.proofs.lemmas.List.Sums.{sum_by-cons}
use Rattle.std.proofs.lemmas.Bool.Decides.{nat_tests}
use Rattle.list_lemmas.proofs.Elements.{AllByRecursion-weaker}
use Rattle.list_lemmas.proofs.PairwiseProperties.{Pairs}
use Rattle.step_code.specs.proof.StackHeights.{Member}
use Rattle.round_budget.specs.Budgets.{Release, Served, precedes, put, in_order, begins, serve}
use Rattle.round_budget.proofs.ReleaseOrders.{NotAfter, not_after_both}
use Rattle.round_budget.specs.declared.releases.Release as steps
use Rattle.round_budget.specs.proof.ReleaseAndLineValues.{release_value}

-- ---- the same elements, as often
abbrev pub AreSame : List Release → List Release → Type 0
AreSame xs ys = (f : Release → ℕ) → sum_by f xs ≡ sum_by f ys

abbrev is_same : Release → Release → Bool
is_same x y = nat_eq x.node y.node && (nat_eq x.round y.round && (nat_eq x.step y.step && nat_eq x.time y.time))

abbrev bit : Bool → ℕ
bit true = 1
bit false = 0

abbrev counted : Release → Release → ℕ
counted x y = bit (is_same x y)

same_numbers : (a b c d a' b' c' d' : ℕ) → (nat_eq a a' && (nat_eq b b' && (nat_eq c c' && nat_eq d d'))) ≡ true
    → (a ≡ a') × ((b ≡ b') × ((c ≡ c') × (d ≡ d')))
same_numbers a b c d a' b' c' d' is = grind (arith, nat_tests)

itself_numbers : (a b c d : ℕ) → (nat_eq a a && (nat_eq b b && (nat_eq c c && nat_eq d d))) ≡ true
itself_numbers a b c d = grind (arith, nat_tests)

itself : (x : Release) → is_same x x ≡ true
itself x = itself_numbers x.node x.round x.step x.time

is_it : (x y : Release) → is_same x y ≡ true → x ≡ y
is_it x y is =
    let all = same_numbers x.node x.round x.step x.time y.node y.round y.step y.time is in
    let make : ℕ → ℕ → ℕ → ℕ → Release =
    λ node round step time. record { node = node; round = round; step = step; time = time } in
    ap (λ n. make n x.round x.step x.time) all.0
    ∙ ap (λ r. make y.node r x.step x.time) all.1.0
    ∙ ap (λ s. make y.node y.round s x.time) all.1.1.0
    ∙ ap (λ t. make y.node y.round y.step t) all.1.1.1

member_counts : (x : Release) (ys : List Release) → Member ys x → 1 ≤ sum_by (counted x) ys
member_counts x [] among = absurd among
member_counts x (y ∷ ys) (inl here) =
    let here_is : counted x y ≡ 1 = ap bit (ap (is_same x) here ∙ itself x) in
    let whole = sum_by-cons (counted x) y ys in
    omega (arith, here_is, whole)
member_counts x (y ∷ ys) (inr later) =
    let more = member_counts x ys later in
    let whole = sum_by-cons (counted x) y ys in
    omega (arith, more, whole)

counts_member : (x : Release) (ys : List Release) → 1 ≤ sum_by (counted x) ys → Member ys x
counts_member x [] some = absurd (omega (arith, some))
counts_member x (y ∷ ys) some =
    (elim (is_same x y) as (λ b. is_same x y ≡ b → (y ≡ x) ⊎ Member ys x) [
      | true ↦ λ is. inl (sym (is_it x y is))
      | false ↦ λ is. inr (counts_member x ys
          (let none : counted x y ≡ 0 = ap bit is in
          let whole = sum_by-cons (counted x) y ys in
          omega (arith, none, whole, some)))
    ]) refl

member_same : (x : Release) (xs ys : List Release) → AreSame xs ys → Member xs x → Member ys x
member_same x xs ys same among =
    let some = member_counts x xs among in
    let is = same (counted x) in
    counts_member x ys (omega (arith, some, is))

-- ---- in order
every_member : (P : Release → Type 0) (xs : List Release) (x : Release) → Every P xs → Member xs x → P x
every_member P [] x all among = absurd among
every_member P (y ∷ ys) x all (inl here) = subst P here all.0
every_member P (y ∷ ys) x all (inr later) = every_member P ys x all.1 later

never_both : (t s n m : ℕ) → (t ≤ s) → (s ≤ t → n ≤ m) → s ≤ t → (t ≤ s → m < n) → ⊥
never_both t s n m a b c d = (let e = b c in let f = d a in omega (arith, e, f))

-- the first comes before the second
pub record IsBefore (x y : Release) : Type 0 where
  pub time : x.time ≤ y.time
  pub node : y.time ≤ x.time → x.node < y.node

not_both : (x y : Release) → IsBefore x y → NotAfter y x → ⊥
not_both x y before after = never_both y.time x.time y.node x.node after.time after.node before.time before.node

first_is : (x y : Release) (xs ys : List Release) → Every (IsBefore x) xs → Every (NotAfter y) ys
    → (y ≡ x) ⊎ Member ys x → (x ≡ y) ⊎ Member xs y → x ≡ y
first_is x y xs ys before after (inl here) other = sym here
first_is x y xs ys before after (inr later) (inl here) = here
first_is x y xs ys before after (inr later) (inr other) =
    absurd (not_both x y (every_member (IsBefore x) xs y before other) (every_member (NotAfter y) ys x after later))

less_one : (x : Release) (xs ys : List Release) → AreSame (x ∷ xs) (x ∷ ys) → AreSame xs ys
less_one x xs ys same f =
    let is = same f in
    let a = sum_by-cons f x xs in
    let b = sum_by-cons f x ys in
    omega (arith, is, a, b)

none_of : (y : Release) (ys : List Release) → AreSame [] (y ∷ ys) → ⊥
none_of y ys same = member_same y (y ∷ ys) [] (λ f. sym (same f)) (inl refl)

pub only_one : (xs ys : List Release) → AreSame xs ys → Pairs IsBefore xs → Pairs NotAfter ys → xs ≡ ys
only_one [] [] same before after = refl
only_one [] (y ∷ ys) same before after = absurd (none_of y ys same)
only_one (x ∷ xs) [] same before after = absurd (none_of x xs (λ f. sym (same f)))
only_one (x ∷ xs) (y ∷ ys) same before after =
    let first =
    first_is x y xs ys before.0 after.0 (member_same x (x ∷ xs) (y ∷ ys) same (inl refl))
    (member_same y (y ∷ ys) (x ∷ xs) (λ f. sym (same f)) (inl refl)) in
    let rest : AreSame xs ys = less_one x xs ys (subst (λ (z : Release). AreSame (x ∷ xs) (z ∷ ys)) (sym first) same) in
    ap₂ (λ (z : Release) (zs : List Release). z ∷ zs) first (only_one xs ys rest before.1 after.1)

-- ---- what puts in order keeps the elements
sum_put : (f : Release → ℕ) (x : Release) (ys : List Release) → sum_by f (put x ys) ≡ f x + sum_by f ys
sum_put f x [] = sum_by-cons f x []
sum_put f x (y ∷ ys) =
    elim (precedes y x) as (λ b. sum_by f (if b then y ∷ put x ys else x ∷ y ∷ ys) ≡ f x + sum_by f (y ∷ ys)) [
      | true ↦ (
          let later = sum_put f x ys in
          let a = sum_by-cons f y (put x ys) in
          let b = sum_by-cons f y ys in
          omega (arith, later, a, b))
      | false ↦ sum_by-cons f x (y ∷ ys)
    ]

pub same_in_order : (xs : List Release) → AreSame (in_order xs) xs
same_in_order [] f = refl
same_in_order (x ∷ xs) f =
    let later = same_in_order xs f in
    let a = sum_put f x (in_order xs) in
    let b = sum_by-cons f x xs in
    omega (arith, later, a, b)

-- ---- from neighbours to all pairs
lower_numbers : (a b n m : ℕ) (s t : Bool) → nat_lt a b ≡ s → (a == b) ≡ t
    → is_lt (ordering_then (cond s Less (cond t Equal Greater)) (nat_cmp n m)) ≡ false → (b ≤ a) × (a ≤ b → m ≤ n)
lower_numbers a b n m true t less same is = absurd (cc)
lower_numbers a b n m false false less same is = grind (arith, nat_tests)
lower_numbers a b n m false true less same is =
    (elim (nat_lt n m) as (λ u. nat_lt n m ≡ u → is_lt (cond u Less (cond (n == m) Equal Greater)) ≡ false
    → (b ≤ a) × (a ≤ b → m ≤ n)) [
      | true ↦ λ below other. absurd (cc)
      | false ↦ λ below other. grind (arith, nat_tests)
    ]) refl is

abbrev pub lower : steps.Release → steps.Release → Bool
lower x y = is_lt (ordering_then (nat_cmp x.time y.time) (nat_cmp x.node.0 y.node.0))

not_after : (x y : steps.Release) → lower y x ≡ false → NotAfter (release_value x) (release_value y)
not_after x y is =
    let both = lower_numbers y.time x.time y.node.0 x.node.0 (nat_lt y.time x.time) (y.time == x.time) refl refl is in
    record { time = both.0; node = both.1 }

pub all_not_after : (xs : List steps.Release) → IsSortedBy lower xs → Pairs NotAfter (map release_value xs)
all_not_after [] sorted = tt
all_not_after (x ∷ []) sorted = (tt, tt)
all_not_after (x ∷ y ∷ rest) sorted =
    let at_one : 0 + 1 ≡ 1 = omega arith in
    let here : lower y x ≡ false =
    subst (λ j. lower (slice_index_or (x ∷ y ∷ rest) j x) x ≡ false) at_one
    (sorted 0 x (omega arith) (omega arith)) in
    let first = not_after x y here in
    let later = all_not_after (y ∷ rest) (λ k d low within.
    (let onward : suc k + 1 ≡ suc (k + 1) = omega arith in
    subst (λ j. lower (slice_index_or (x ∷ y ∷ rest) j d) (slice_index_or (y ∷ rest) k d) ≡ false) onward
    (sorted (suc k) d (omega arith) (omega (arith, within))))) in (
      (
        first,
        AllByRecursion-weaker (NotAfter (release_value y)) (NotAfter (release_value x))
            (λ z. not_after_both (release_value x) (release_value y) z first) (map release_value rest) later.0,
      ),
      later,
    )

-- ---- the served steps are in strict order
every_unserved : (P : Release → Type 0) (cost : Release → ℕ) (free : ℕ) (xs : List Release)
    → Every (λ (s : Served). P s.release) (serve cost free xs) → Every P xs
every_unserved P cost free [] all = tt
every_unserved P cost free (x ∷ xs) all = (all.0, every_unserved P cost (begins free x + cost x) xs all.1)

before_numbers : (t s n m : ℕ) → (nat_lt t s || (nat_eq t s && nat_lt n m)) ≡ true → (t ≤ s) × (s ≤ t → n < m)
before_numbers t s n m is = grind (arith, nat_tests)

is_before : (x y : Release) → IsTrue (precedes x y) → IsBefore x y
is_before x y is = let both = before_numbers x.time y.time x.node y.node is in record { time = both.0; node = both.1 }

pub all_before : (cost : Release → ℕ) (free : ℕ) (xs : List Release)
    → Pairs (λ (s t : Served). IsTrue (precedes s.release t.release)) (serve cost free xs) → Pairs IsBefore xs
all_before cost free [] all = tt
all_before cost free (x ∷ xs) all = (
  AllByRecursion-weaker (λ y. IsTrue (precedes x y)) (IsBefore x) (is_before x) xs
      (every_unserved (λ y. IsTrue (precedes x y)) cost (begins free x + cost x) xs all.0),
  all_before cost (begins free x + cost x) xs all.1,
)
