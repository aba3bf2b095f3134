-- Two lists, one of which has the images of the other, in whatever order.
use Rattle.std.proofs.Common.{◌≡◌, ◌∙◌, ◌↔◌, ℕ, Bool, false, List, map, get_or, Some, All, Contains, slice_get, sym, ap}
use Rattle.std.proofs.Common.{subst}
use Rattle.std.proofs.lemmas.Option.{slice_get-get_or}
use Rattle.list_lemmas.proofs.ElementPositions.{Contains-from_slice_get, slice_get-from_Contains, slice_get-map_some}
use Rattle.list_lemmas.proofs.ElementPositions.{slice_get-map_parts}
use Rattle.pals_model.proofs.FirstMatches.{at_element}

module _ {X : Type 0} (f : X → X) (xs ys : List X) (same : (y : X) → Contains ys y ↔ Contains (map f xs) y) where
  pub there : (k : ℕ) (x : X) → slice_get xs k ≡ Some x → (m : ℕ) × (slice_get ys m ≡ Some (f x))
  there k x is =
      let image = Contains-from_slice_get (map f xs) k (f x) (slice_get-map_some f xs k x is) in
      let among : Contains ys (f x) = (same (f x)).1 image in
      (among.0, slice_get-from_Contains ys (f x) among)

  pub comes_from : (m : ℕ) (y : X) → slice_get ys m ≡ Some y → (k : ℕ) × (x : X) × (slice_get xs k ≡ Some x) × (f x ≡ y)
  comes_from m y is =
      let among : Contains (map f xs) y = (same y).0 (Contains-from_slice_get ys m y is) in
      let from = slice_get-map_parts f xs among.0 y (slice_get-from_Contains (map f xs) y among) in
      (among.0, from.0, from.1, from.2)

  -- where elements pass a test just if their images pass another one, and none does
  pub none_there : (p q : X → Bool) → ((k : ℕ) (x : X) → slice_get xs k ≡ Some x → q (f x) ≡ p x)
      → All (λ x. p x ≡ false) xs
      → All (λ y. q y ≡ false) ys
  none_there p q alike none k d inside =
      let first = comes_from k (get_or ys k d) (slice_get-get_or ys k d inside) in
      ap q (sym first.3) ∙ alike first.0 first.1 first.2 ∙ at_element (λ x. p x ≡ false) xs first.0 first.1 none first.2

  -- where another function undoes this one on the elements
  module _ (g : X → X) (undoes : (k : ℕ) (x : X) → slice_get xs k ≡ Some x → g (f x) ≡ x) where
    returns : (x : X) → Contains xs x → Contains (map g ys) x
    returns x among =
        let is = slice_get-from_Contains xs x among in
        let over = there among.0 x is in
        let image = slice_get-map_some g ys over.0 (f x) over.1 in
        subst (Contains (map g ys)) (undoes among.0 x is) (Contains-from_slice_get (map g ys) over.0 (g (f x)) image)

    came : (x : X) → Contains (map g ys) x → Contains xs x
    came x among =
        let from = slice_get-map_parts g ys among.0 x (slice_get-from_Contains (map g ys) x among) in
        let first = comes_from among.0 from.0 from.1 in
        let same_one = sym (undoes first.0 first.1 first.2) ∙ ap g first.3 ∙ from.2 in
        subst (Contains xs) same_one (Contains-from_slice_get xs first.0 first.1 first.2)

    pub images_back : (x : X) → Contains xs x ↔ Contains (map g ys) x
    images_back x = (returns x, came x)
