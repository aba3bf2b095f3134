-- Lemmas on properties of all elements and of all pairs of a list: for its images, its parts, and the two halves that
-- a test selects.
use Rattle.std.proofs.Common.{◌≡◌, ◌∙◌, ℕ, zero, suc, ◌+◌, ◌<◌, Bool, true, false, not, cond, List, [], ◌∷◌, ◌++◌, map}
use Rattle.std.proofs.Common.{Option, Some, refl, sym, ap, subst, arith}
use Rattle.std.specs.Prelude.{filter, slice_get, find}
use Rattle.std.specs.List.{AllByRecursion, list_all, enumerate_from}
use Rattle.std.proofs.lemmas.Option.{same_Some}
use Rattle.std.proofs.lemmas.Bool.{and_from}
use Rattle.list_lemmas.proofs.Elements.{found_either, AllByRecursion-append, AllByRecursion-at}
use Rattle.list_lemmas.proofs.PairwiseProperties.{Pairs}

-- ---- the image of a list

pub all_unmapped : {X Y : Type 0} (P : Y → Type 0) (f : X → Y) (xs : List X) → AllByRecursion P (map f xs)
    → AllByRecursion (λ x. P (f x)) xs
all_unmapped P f [] h = tt
all_unmapped P f (x ∷ xs) h = (h.0, all_unmapped P f xs h.1)

pub pairs_unmapped : {X Y : Type 0} (R : Y → Y → Type 0) (f : X → Y) (xs : List X) → Pairs R (map f xs)
    → Pairs (λ x y. R (f x) (f y)) xs
pairs_unmapped R f [] h = tt
pairs_unmapped R f (x ∷ xs) h = (all_unmapped (R (f x)) f xs h.0, pairs_unmapped R f xs h.1)

-- ---- concatenated lists
pub all_first : {X : Type 0} (P : X → Type 0) (xs ys : List X) → AllByRecursion P (xs ++ ys) → AllByRecursion P xs
all_first P [] ys h = tt
all_first P (x ∷ xs) ys h = (h.0, all_first P xs ys h.1)

pub all_second : {X : Type 0} (P : X → Type 0) (xs ys : List X) → AllByRecursion P (xs ++ ys) → AllByRecursion P ys
all_second P [] ys h = h
all_second P (x ∷ xs) ys h = all_second P xs ys h.1

pub pairs_first : {X : Type 0} (R : X → X → Type 0) (xs ys : List X) → Pairs R (xs ++ ys) → Pairs R xs
pairs_first R [] ys h = tt
pairs_first R (x ∷ xs) ys h = (all_first (R x) xs ys h.0, pairs_first R xs ys h.1)

pub pairs_second : {X : Type 0} (R : X → X → Type 0) (xs ys : List X) → Pairs R (xs ++ ys) → Pairs R ys
pairs_second R [] ys h = h
pairs_second R (x ∷ xs) ys h = pairs_second R xs ys h.1

pub pairs_across : {X : Type 0} (R : X → X → Type 0) (xs ys : List X) → Pairs R (xs ++ ys)
    → AllByRecursion (λ x. AllByRecursion (R x) ys) xs
pairs_across R [] ys h = tt
pairs_across R (x ∷ xs) ys h = (all_second (R x) xs ys h.0, pairs_across R xs ys h.1)

-- ---- the elements that pass a test, and then the elements that fail it
all_kept_by : {X : Type 0} (P : X → Type 0) (b : Bool) (x : X) (ys : List X) → P x → AllByRecursion P ys
    → AllByRecursion P (cond b (x ∷ ys) ys)
all_kept_by P true x ys here rest = (here, rest)
all_kept_by P false x ys here rest = rest

pub all_kept : {X : Type 0} (P : X → Type 0) (p : X → Bool) (xs : List X) → AllByRecursion P xs
    → AllByRecursion P (filter p xs)
all_kept P p [] h = tt
all_kept P p (x ∷ xs) h = all_kept_by P (p x) x (filter p xs) h.0 (all_kept P p xs h.1)

module _ {X : Type 0} (R : X → X → Type 0) (turned : (x y : X) → R x y → R y x) where
  put_between : (x : X) (xs ys : List X) → AllByRecursion (R x) xs → AllByRecursion (R x) ys → Pairs R (xs ++ ys)
      → Pairs R (xs ++ x ∷ ys)
  put_between x [] ys a b h = (b, h)
  put_between x (z ∷ xs) ys a b h = (
    AllByRecursion-append (R z) xs (x ∷ ys) (all_first (R z) xs ys h.0)
        (turned x z a.0, all_second (R z) xs ys h.0),
    put_between x xs ys a.1 b h.1,
  )

  split_by : (b : Bool) (x : X) (xs ys : List X) → AllByRecursion (R x) xs → AllByRecursion (R x) ys
      → Pairs R (xs ++ ys)
      → Pairs R (cond b (x ∷ xs) xs ++ cond (not b) (x ∷ ys) ys)
  split_by true x xs ys a b h = (AllByRecursion-append (R x) xs ys a b, h)
  split_by false x xs ys a b h = put_between x xs ys a b h

  pub split : (p : X → Bool) (xs : List X) → Pairs R xs → Pairs R (filter p xs ++ filter (λ x. not (p x)) xs)
  split p [] h = tt
  split p (x ∷ xs) h =
      split_by (p x) x (filter p xs) (filter (λ y. not (p y)) xs) (all_kept (R x) p xs h.0)
      (all_kept (R x) (λ y. not (p y)) xs h.0) (split p xs h.1)

-- ---- numbered
module _ {X : Type 0} (P : ℕ × X → Type 0) (look : ℕ → Option X)
    (each : (n : ℕ) (x : X) → look n ≡ Some x → P (n, x)) where
  pub numbered_from : (from : ℕ) (xs : List X) → ((n : ℕ) → look (from + n) ≡ slice_get xs n)
      → AllByRecursion P (enumerate_from from xs)
  numbered_from from [] same = tt
  numbered_from from (x ∷ xs) same =
      let here : from + 0 ≡ from = omega arith in (
        each from x (ap look (sym here) ∙ same 0),
        numbered_from (from + 1) xs
            (λ n. let next : (from + 1) + n ≡ from + suc n = omega arith in ap look next ∙ same (suc n)),
      )

pub numbered : {X : Type 0} (P : ℕ × X → Type 0) (xs : List X) → ((n : ℕ) (x : X) → slice_get xs n ≡ Some x → P (n, x))
    → AllByRecursion P (enumerate_from 0 xs)
numbered P xs each =
    numbered_from P (slice_get xs) each 0 xs (λ n. let none : 0 + n ≡ n = omega arith in ap (slice_get xs) none)

pub pairs_at : {X : Type 0} (R : X → X → Type 0) (xs : List X) (i j : ℕ) (x y : X) → Pairs R xs → i < j
    → slice_get xs i ≡ Some x
    → slice_get xs j ≡ Some y → R x y
pairs_at R [] i j x y h lt first second = absurd (cc first)
pairs_at R (z ∷ xs) i zero x y h lt first second = absurd (omega arith)
pairs_at R (z ∷ xs) zero (suc j) x y h lt first second =
    subst (λ k. R k y) (same_Some z x first) (AllByRecursion-at (R z) xs j y h.0 second)
pairs_at R (z ∷ xs) (suc i) (suc j) x y h lt first second = pairs_at R xs i j x y h.1 (omega arith) first second

-- ---- tests

pub found_one : {X : Type 0} (P : X → Type 0) (p : X → Bool) (xs : List X) (x : X) → AllByRecursion P xs
    → find p xs ≡ Some x → P x
found_one P p [] x h is = absurd (cc is)
found_one P p (y ∷ xs) x h is = found_either P (p y) y x (find p xs) h.0 (found_one P p xs x h.1) is

pub all_true : {X : Type 0} (p : X → Bool) (xs : List X) → AllByRecursion (λ x. p x ≡ true) xs → list_all p xs ≡ true
all_true p [] h = refl
all_true p (x ∷ xs) h = and_from (p x) (list_all p xs) h.0 (all_true p xs h.1)
