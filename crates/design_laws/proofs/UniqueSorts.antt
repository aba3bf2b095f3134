-- The result of a stable sort is unique.
use Rattle.std.proofs.Common.{◌≡◌, ◌∙◌, ℕ, suc, ◌<◌, ◌≤◌, Bool, true, false, cond, not, ◌&&◌, List, [], ◌∷◌, length}
use Rattle.std.proofs.Common.{get_or, sym, ap, subst, arith}
use Rattle.std.specs.List.{filter}
use Rattle.std.specs.List.Sorted.{IsSortedBy, ties}
use Rattle.std.specs.Cmp.{IsStrictWeakOrder}
use Rattle.std.proofs.lemmas.Bool.{false≢true}
use Rattle.std.proofs.lemmas.List.Sorted.{sorted_far}

module _ {X : Type 0} (lt : X → X → Bool) (order : IsStrictWeakOrder lt) where
  -- no element of a list precedes x
  abbrev Above : X → List X → Type 0
  Above x [] = Unit {0}
  Above x (y ∷ ys) = (lt y x ≡ false) × Above x ys

  abbrev Up : List X → Type 0
  Up [] = Unit {0}
  Up (x ∷ xs) = Above x xs × Up xs

  above_of : (x : X) (xs : List X) → ((k : ℕ) → k < length xs → lt (get_or xs k x) x ≡ false) → Above x xs
  above_of x [] h = tt
  above_of x (y ∷ ys) h = (h 0 (omega arith), above_of x ys (λ k p. h (suc k) (omega arith)))

  up_of : (xs : List X) → ((i j : ℕ) (d : X) → i ≤ j → j < length xs
      → lt (get_or xs j d) (get_or xs i d) ≡ false) → Up xs
  up_of [] h = tt
  up_of (x ∷ xs) h = (
    above_of x xs (λ k p. h 0 (suc k) x (omega arith) (omega arith)),
    up_of xs (λ i j d p q. h (suc i) (suc j) d (omega arith) (omega arith)),
  )

  above_if : (x y : X) (l : List X) (b : Bool) → lt y x ≡ false → Above x l → Above x (cond b (y ∷ l) l)
  above_if x y l true p q = (p, q)
  above_if x y l false p q = q

  above_kept : (t : X → Bool) (x : X) (xs : List X) → Above x xs → Above x (filter t xs)
  above_kept t x [] h = tt
  above_kept t x (y ∷ ys) h = above_if x y (filter t ys) (t y) h.0 (above_kept t x ys h.1)

  -- ---- equivalent elements
  not_less : (b : Bool) → (b ≡ true → b ≡ false) → b ≡ false
  not_less true h = h (λ i. true)
  not_less false h = λ i. false

  not_itself : (x : X) → lt x x ≡ false
  not_itself x = not_less (lt x x) (order.one_way x x)

  tie_of : (x y : X) → lt x y ≡ false → lt y x ≡ false → ties lt x y ≡ true
  tie_of x y p q = λ i. not (p i) && not (q i)

  ties_itself : (x : X) → ties lt x x ≡ true
  ties_itself x = tie_of x x (not_itself x) (not_itself x)

  ties_turned : (x y : X) → ties lt x y ≡ ties lt y x
  ties_turned x y = turned (lt x y) (lt y x)
    where
      turned : (a b : Bool) → (not a && not b) ≡ (not b && not a)
      turned true true = λ i. false
      turned true false = λ i. false
      turned false true = λ i. false
      turned false false = λ i. true

  -- ---- the first element of each
  abbrev first_of : X → List X → X
  first_of x [] = x
  first_of x (y ∷ ys) = y

  abbrev rest_of : List X → List X
  rest_of [] = []
  rest_of (x ∷ xs) = xs

  heads : (x y : X) (xs ys : List X) → x ∷ xs ≡ y ∷ ys → x ≡ y
  heads x y xs ys e = ap (first_of x) e

  tails : (x y : X) (xs ys : List X) → x ∷ xs ≡ y ∷ ys → xs ≡ ys
  tails x y xs ys e = ap rest_of e

  -- a filter of a list that begins with x
  kept_itself : (x : X) (xs : List X) → filter (ties lt x) (x ∷ xs) ≡ x ∷ filter (ties lt x) xs
  kept_itself x xs = ap (λ b. cond b (x ∷ filter (ties lt x) xs) (filter (ties lt x) xs)) (ties_itself x)

  kept_or_not : (x y : X) (ys : List X) (b : Bool) → ties lt x y ≡ b
      → filter (ties lt x) (y ∷ ys) ≡ cond b (y ∷ filter (ties lt x) ys) (filter (ties lt x) ys)
  kept_or_not x y ys b e = ap (λ c. cond c (y ∷ filter (ties lt x) ys) (filter (ties lt x) ys)) e

  -- x is among the elements after y, so it does not precede y
  behind : (x y : X) (ys rest : List X) → Above y ys → filter (ties lt x) ys ≡ x ∷ rest → lt x y ≡ false
  behind x y ys rest above e = (subst (Above y) e (above_kept (ties lt x) y ys above)).0

  -- they agree if a filter by equivalence with any element gives the same list
  abbrev Same : List X → List X → Type 0
  Same xs ys = (z : X) → filter (ties lt z) xs ≡ filter (ties lt z) ys

  by_tie : (x y : X) (xs ys : List X) → Up (x ∷ xs) → Up (y ∷ ys) → Same (x ∷ xs) (y ∷ ys) → (b : Bool)
      → ties lt x y ≡ b → x ≡ y
  by_tie x y xs ys a b same true e =
      heads x y (filter (ties lt x) xs) (filter (ties lt x) ys)
      (sym (kept_itself x xs) ∙ (same x ∙ kept_or_not x y ys true e))
  by_tie x y xs ys a b same false e =
      let ahead : filter (ties lt x) ys ≡ x ∷ filter (ties lt x) xs =
      sym (sym (kept_itself x xs) ∙ (same x ∙ kept_or_not x y ys false e)) in
      let after : filter (ties lt y) xs ≡ y ∷ filter (ties lt y) ys =
      sym (kept_or_not y x xs false (ties_turned y x ∙ e)) ∙ (same y ∙ kept_itself y ys) in
      let tie =
      tie_of x y (behind x y ys (filter (ties lt x) xs) b.0 ahead)
      (behind y x xs (filter (ties lt y) ys) a.0 after) in
      absurd (false≢true (sym e ∙ tie))

  same_rest : (x y : X) (xs ys : List X) → x ≡ y → Same (x ∷ xs) (y ∷ ys) → Same xs ys
  same_rest x y xs ys e same z =
      one_less (filter (ties lt z) xs) (filter (ties lt z) ys) (ties lt z x)
      (same z ∙ ap (λ w. cond (ties lt z w) (w ∷ filter (ties lt z) ys) (filter (ties lt z) ys)) (sym e))
    where
      one_less : (l m : List X) (b : Bool) → cond b (x ∷ l) l ≡ cond b (x ∷ m) m → l ≡ m
      one_less l m true h = tails x x l m h
      one_less l m false h = h

  none_or_some : (y : X) (ys : List X) → Same [] (y ∷ ys) → ⊥
  none_or_some y ys same = let e : [] ≡ y ∷ filter (ties lt y) ys = same y ∙ kept_itself y ys in absurd (cc e)

  one_up : (xs ys : List X) → Up xs → Up ys → Same xs ys → xs ≡ ys
  one_up [] [] a b same = λ i. []
  one_up [] (y ∷ ys) a b same = absurd (none_or_some y ys same)
  one_up (x ∷ xs) [] a b same = absurd (none_or_some x xs (λ z. sym (same z)))
  one_up (x ∷ xs) (y ∷ ys) a b same =
      let first = by_tie x y xs ys a b same (ties lt x y) (λ i. ties lt x y) in
      let rest = one_up xs ys a.1 b.1 (same_rest x y xs ys first same) in
      λ i. first i ∷ rest i

  pub one_order : (xs ys : List X) → IsSortedBy lt xs → IsSortedBy lt ys
      → ((z : X) → filter (ties lt z) xs ≡ filter (ties lt z) ys) → xs ≡ ys
  one_order xs ys a b same =
      one_up xs ys (up_of xs (sorted_far lt order xs a)) (up_of ys (sorted_far lt order ys b)) same
