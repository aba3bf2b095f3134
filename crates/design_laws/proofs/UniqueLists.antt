-- The list of all elements with a property is unique if the order is asymmetric.
use Rattle.std.proofs.Common.{◌≡◌, ◌⊎◌, inl, inr, suc, List, [], ◌∷◌, AllPairs, All, Contains, sym, subst, arith}
use Rattle.list_lemmas.proofs.Elements.{Contains-nil, Contains-cons, Contains-cons_cases, Contains-head}
use Rattle.aadl_uses.specs.ThreadsBelow.{Lists}

module _ {X : Type 0} (Before : X → X → Type 0) (one_way : (x y : X) → Before x y → Before y x → ⊥) where
  head_before : (x z : X) (xs : List X) → AllPairs Before (x ∷ xs) → Contains xs z → Before x z
  head_before x z xs a h = let lt = h.1 in subst (Before x) h.2 (a 0 (suc h.0) z (omega arith) (omega arith))

  tail_pairs : (x : X) (xs : List X) → AllPairs Before (x ∷ xs) → AllPairs Before xs
  tail_pairs x xs a i j d less lt = a (suc i) (suc j) d (omega arith) (omega arith)

  -- each begins with the first element of the other
  same_first : (x y : X) (xs ys : List X) → AllPairs Before (x ∷ xs) → AllPairs Before (y ∷ ys)
      → (y ≡ x) ⊎ Contains ys x → (x ≡ y) ⊎ Contains xs y → x ≡ y
  same_first x y xs ys a b (inl e) h = sym e
  same_first x y xs ys a b (inr k) (inl e) = e
  same_first x y xs ys a b (inr k) (inr h) = absurd (one_way x y (head_before x y xs a h) (head_before y x ys b k))

  -- the elements after the first one of a list are the elements after the same first one of the other
  behind : (x y z : X) (xs ys : List X) → x ≡ y → AllPairs Before (x ∷ xs) → Contains xs z → (y ≡ z) ⊎ Contains ys z
      → Contains ys z
  behind x y z xs ys e a h (inl f) =
      let before = head_before x z xs a h in
      let round = subst (λ w. Before w z) e before in
      let back = subst (λ w. Before w w) f (subst (Before y) (sym f) round) in
      absurd (one_way z z back back)
  behind x y z xs ys e a h (inr k) = k

  same_lists : (xs ys : List X) → AllPairs Before xs → AllPairs Before ys
      → ((z : X) → Contains xs z → Contains ys z) → ((z : X) → Contains ys z → Contains xs z) → xs ≡ ys
  same_lists [] [] a b there back = λ i. []
  same_lists [] (y ∷ ys) a b there back = absurd (Contains-nil y (back y (Contains-head y ys)))
  same_lists (x ∷ xs) [] a b there back = absurd (Contains-nil x (there x (Contains-head x xs)))
  same_lists (x ∷ xs) (y ∷ ys) a b there back =
      let first =
      same_first x y xs ys a b (Contains-cons_cases y ys x (there x (Contains-head x xs)))
      (Contains-cons_cases x xs y (back y (Contains-head y ys))) in
      let rest =
      same_lists xs ys (tail_pairs x xs a) (tail_pairs y ys b)
      (λ z h. behind x y z xs ys first a h (Contains-cons_cases y ys z (there z (Contains-cons x z xs h))))
      (λ z h. behind y x z ys xs (sym first) b h (Contains-cons_cases x xs z (back z (Contains-cons y z ys h)))) in
      λ i. first i ∷ rest i

  has_each : (P : X → Type 0) (xs : List X) (z : X) → All P xs → Contains xs z → P z
  has_each P xs z each h = subst P h.2 (each h.0 z h.1)

  pub one_listing : (P : X → Type 0) (xs ys : List X) → Lists P Before xs → Lists P Before ys → xs ≡ ys
  one_listing P xs ys a b =
      same_lists xs ys a.in_order b.in_order (λ z h. b.complete z (has_each P xs z a.each h))
      (λ z h. a.complete z (has_each P ys z b.each h))
