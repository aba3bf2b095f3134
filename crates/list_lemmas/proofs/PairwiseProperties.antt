-- Properties of all pairs of elements of a list.
use Rattle.std.proofs.Common.{◌≡◌, ◌≢◌, ◌∙◌, inl, inr, ℕ, suc, ◌<◌, false, List, [], ◌∷◌, ◌++◌, map, slice_get, Some}
use Rattle.std.proofs.Common.{AllPairs, sym, subst₂, arith}
use Rattle.std.specs.Prelude.{bytes_eq}
use Rattle.std.specs.List.{AllByRecursion}
use Rattle.std.proofs.lemmas.Bool.{true≢false, cases_lt}
use Rattle.std.proofs.lemmas.List.Elements.{All-nil, All-cons, All-from_recursion, recursion_from_All}
use Rattle.std.proofs.lemmas.List.Kept.{AllPairs-cons}
use Rattle.std.proofs.lemmas.Option.{slice_get_within, get_or_from_slice_get}
use Rattle.std.proofs.lemmas.Slice.Eq.{bytes_eq-Decides}
use Rattle.list_lemmas.proofs.Elements.{AllByRecursion-append, AllByRecursion-map, AllByRecursion-weaker}

pub AllPairs-nil : {X : Type 0} (R : X → X → Type 0) → AllPairs R []
AllPairs-nil R i j d less within = absurd (omega arith)

pub AllPairs-one : {X : Type 0} (R : X → X → Type 0) (x : X) → AllPairs R (x ∷ [])
AllPairs-one R x = AllPairs-cons R x [] (All-nil (R x)) (AllPairs-nil R)

pub AllPairs-three : {X : Type 0} (R : X → X → Type 0) (x y z : X) → R x y → R x z → R y z → AllPairs R (x ∷ y ∷ z ∷ [])
AllPairs-three R x y z xy xz yz =
    AllPairs-cons R x (y ∷ z ∷ []) (All-cons (R x) y (z ∷ []) xy (All-cons (R x) z [] xz (All-nil (R x))))
    (AllPairs-cons R y (z ∷ []) (All-cons (R y) z [] yz (All-nil (R y))) (AllPairs-one R z))

pub AllPairs-slice_get : {X : Type 0} (R : X → X → Type 0) (xs : List X) (k n : ℕ) (x y : X) → AllPairs R xs → k < n
    → slice_get xs k ≡ Some x → slice_get xs n ≡ Some y → R x y
AllPairs-slice_get R xs k n x y all below is_x is_y =
    subst₂ R (get_or_from_slice_get xs k x y is_x) (get_or_from_slice_get xs n y y is_y)
    (all k n y below (slice_get_within xs n y is_y))

-- if names are distinct, each name has one position
pub same_place : {X Y : Type 0} (name : X → Y) (xs : List X) (i j : ℕ) (x y : X)
    → AllPairs (λ a b. name a ≢ name b) xs → slice_get xs i ≡ Some x → slice_get xs j ≡ Some y → name x ≡ name y → i ≡ j
same_place name xs i j x y apart is_x is_y same = elim (cases_lt i j) [
  | inl below ↦ absurd (AllPairs-slice_get (λ a b. name a ≢ name b) xs i j x y apart below is_x is_y same)
  | inr not_below ↦ elim (cases_lt j i) [
    | inl above ↦ absurd (AllPairs-slice_get (λ a b. name a ≢ name b) xs j i y x apart above is_y is_x (sym same))
    | inr not_above ↦ omega arith
  ]
]

pub bytes_ne_by_test : (x y : List ℕ) → bytes_eq x y ≡ false → x ≢ y
bytes_ne_by_test x y differ same = true≢false (sym ((bytes_eq-Decides x y).1 same) ∙ differ)

-- ---- by recursion on the list
abbrev pub Pairs : {X : Type 0} → (X → X → Type 0) → List X → Type 0
Pairs R [] = Unit {0}
Pairs R (x ∷ xs) = AllByRecursion (R x) xs × Pairs R xs

pub pairs_weaker : {X : Type 0} (R S : X → X → Type 0) → ((x y : X) → R x y → S x y) → (xs : List X) → Pairs R xs
    → Pairs S xs
pairs_weaker R S weaker [] all = tt
pairs_weaker R S weaker (x ∷ xs) all =
    (AllByRecursion-weaker (R x) (S x) (weaker x) xs all.0, pairs_weaker R S weaker xs all.1)

pub pairs_map : {X Y : Type 0} (R : Y → Y → Type 0) (f : X → Y) (xs : List X) → Pairs (λ x y. R (f x) (f y)) xs
    → Pairs R (map f xs)
pairs_map R f [] all = tt
pairs_map R f (x ∷ xs) all = (AllByRecursion-map (R (f x)) f xs all.0, pairs_map R f xs all.1)

pub pairs_append : {X : Type 0} (R : X → X → Type 0) (xs ys : List X) → Pairs R xs → Pairs R ys
    → AllByRecursion (λ x. AllByRecursion (R x) ys) xs → Pairs R (xs ++ ys)
pairs_append R [] ys within more across = more
pairs_append R (x ∷ xs) ys within more across =
    (AllByRecursion-append (R x) xs ys within.0 across.0, pairs_append R xs ys within.1 more across.1)

pub all_pairs_from : {X : Type 0} (R : X → X → Type 0) (xs : List X) → Pairs R xs → AllPairs R xs
all_pairs_from R [] all = λ i j d less within. absurd (omega arith)
all_pairs_from R (x ∷ xs) all = AllPairs-cons R x xs (All-from_recursion (R x) xs all.0) (all_pairs_from R xs all.1)

pub pairs_from : {X : Type 0} (R : X → X → Type 0) (xs : List X) → AllPairs R xs → Pairs R xs
pairs_from R [] all = tt
pairs_from R (x ∷ xs) all = (
  recursion_from_All (R x) xs (λ k d within. all 0 (suc k) d (omega arith) (omega arith)),
  pairs_from R xs (λ i j d less within. all (suc i) (suc j) d (omega arith) (omega arith)),
)
