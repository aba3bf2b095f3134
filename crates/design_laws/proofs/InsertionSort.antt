-- Each list has a stable sort: each element is inserted into the sorted list of the elements after it.
use Rattle.std.proofs.Common.{◌≡◌, ◌∙◌, ap, subst, refl, ℕ, zero, suc, ◌+◌, ◌<◌, Bool, true, false, cond, not, ◌&&◌}
use Rattle.std.proofs.Common.{List, [], ◌∷◌, length, get_or, arith}
use Rattle.std.specs.Prelude.{filter}
use Rattle.std.specs.Cmp.{IsStrictWeakOrder}
use Rattle.std.specs.List.Sorted.{ties, IsSortedBy, IsStableBy}

-- a list with the same elements, in order, in which equivalent elements keep their order
pub record HasSorted {X : Type 0} (lt : X → X → Bool) (xs : List X) : Type 0 where
  pub list : List X
  pub in_order : IsSortedBy lt list
  pub same : IsStableBy lt xs list

module _ {X : Type 0} (lt : X → X → Bool) (order : IsStrictWeakOrder lt) where
  abbrev put : X → List X → List X
  put x [] = x ∷ []
  put x (y ∷ ys) = cond (lt y x) (y ∷ put x ys) (x ∷ y ∷ ys)

  abbrev sorted : List X → List X
  sorted [] = []
  sorted (x ∷ xs) = put x (sorted xs)

  -- no smaller element is first
  abbrev NotAbove : X → List X → Type 0
  NotAbove x [] = Unit {0}
  NotAbove x (y ∷ ys) = lt y x ≡ false

  abbrev Ascends : List X → Type 0
  Ascends [] = Unit {0}
  Ascends (x ∷ xs) = NotAbove x xs × Ascends xs

  above_put : (y x : X) (ys : List X) → lt y x ≡ true → NotAbove y ys → NotAbove y (put x ys)
  above_put y x [] h n = order.one_way y x h
  above_put y x (z ∷ zs) h n = by (lt z x)
    where
      by : (b : Bool) → NotAbove y (cond b (z ∷ put x zs) (x ∷ z ∷ zs))
      by true = n
      by false = order.one_way y x h

  put_ascends : (x : X) (ys : List X) → Ascends ys → Ascends (put x ys)
  put_ascends x [] a = (tt, tt)
  put_ascends x (y ∷ ys) (n, a) = by (put_ascends x ys a) (lt y x) refl
    where
      by : Ascends (put x ys) → (b : Bool) → lt y x ≡ b → Ascends (cond b (y ∷ put x ys) (x ∷ y ∷ ys))
      by later true e = (above_put y x ys e n, later)
      by later false e = (e, (n, a))

  ascends : (xs : List X) → Ascends (sorted xs)
  ascends [] = tt
  ascends (x ∷ xs) = put_ascends x (sorted xs) (ascends xs)

  -- ---- equivalent elements keep their order
  keep : Bool → X → List X → List X
  keep b x xs = cond b (x ∷ xs) xs

  not_true : (b : Bool) → not b ≡ true → b ≡ false
  not_true true e = absurd cc
  not_true false e = refl

  left : (a b : Bool) → (a && b) ≡ true → a ≡ true
  left true b e = refl
  left false b e = absurd cc

  right : (a b : Bool) → (a && b) ≡ true → b ≡ true
  right true b e = e
  right false b e = absurd cc

  -- elements equivalent to one element are equivalent
  both_tie : (z x y : X) → ties lt z x ≡ true → ties lt z y ≡ true → lt y x ≡ false
  both_tie z x y h k =
      order.chain y z x (not_true (lt y z) (right (not (lt z y)) (not (lt y z)) k))
      (not_true (lt z x) (left (not (lt z x)) (not (lt x z)) h))

  turned : (z x y : X) (rest : List X) (a b : Bool) → ties lt z x ≡ a → ties lt z y ≡ b → lt y x ≡ true
      → cond b (y ∷ cond a (x ∷ rest) rest) (cond a (x ∷ rest) rest)
      ≡ cond a (x ∷ cond b (y ∷ rest) rest) (cond b (y ∷ rest) rest)
  turned z x y rest true true e f h = let g = both_tie z x y e f in absurd cc
  turned z x y rest true false e f h = refl
  turned z x y rest false true e f h = refl
  turned z x y rest false false e f h = refl

  put_same : (z x : X) (ys : List X) → filter (ties lt z) (put x ys) ≡ filter (ties lt z) (x ∷ ys)
  put_same z x [] = refl
  put_same z x (y ∷ ys) = by (put_same z x ys) (lt y x) refl
    where
      by : filter (ties lt z) (put x ys) ≡ filter (ties lt z) (x ∷ ys) → (b : Bool) → lt y x ≡ b
          → filter (ties lt z) (cond b (y ∷ put x ys) (x ∷ y ∷ ys)) ≡ filter (ties lt z) (x ∷ y ∷ ys)
      by later true e =
          ap (λ (l : List X). cond (ties lt z y) (y ∷ l) l) later
          ∙ turned z x y (filter (ties lt z) ys) (ties lt z x) (ties lt z y) refl refl e
      by later false e = refl

  same : (z : X) (xs : List X) → filter (ties lt z) (sorted xs) ≡ filter (ties lt z) xs
  same z [] = refl
  same z (x ∷ xs) = put_same z x (sorted xs) ∙ ap (λ (l : List X). cond (ties lt z x) (x ∷ l) l) (same z xs)

  -- ---- by numbers
  in_order : (xs : List X) → Ascends xs → (k : ℕ) (d : X) → k + 1 < length xs
      → lt (get_or xs (k + 1) d) (get_or xs k d) ≡ false
  in_order [] a k d h = absurd (omega arith)
  in_order (x ∷ []) a k d h = absurd (omega arith)
  in_order (x ∷ y ∷ xs) (n, a) zero d h = n
  in_order (x ∷ y ∷ xs) (n, a) (suc k) d h =
      let e : suc (k + 1) ≡ suc k + 1 = omega arith in
      subst (λ (i : ℕ). lt (get_or (x ∷ y ∷ xs) i d) (get_or (y ∷ xs) k d) ≡ false) e
      (in_order (y ∷ xs) a k d (omega arith))

  pub has_sorted : (xs : List X) → HasSorted lt xs
  has_sorted xs =
      record {
        list = sorted xs;
        in_order = λ k d low h. in_order (sorted xs) (ascends xs) k d h;
        same = λ z. same z xs;
      }
