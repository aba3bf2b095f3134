-- The images of the elements of a list, if none is missing, match the list one by one.
use Rattle.std.proofs.Common.{◌≡◌, ◌∙◌, ℕ, zero, suc, List, [], ◌∷◌, map, length, Option, Some, AllPairs, refl, ap}
use Rattle.std.proofs.Common.{subst}
use Rattle.std.specs.Prelude.{slice_get, All}
use Rattle.std.specs.List.{AllByRecursion}
use Rattle.std.proofs.lemmas.List.Elements.{All-from_recursion}
use Rattle.std.proofs.lemmas.Option.{same_Some}
use Rattle.list_lemmas.proofs.PairwiseProperties.{Pairs, all_pairs_from}
use Rattle.design_laws.specs.InstanceDesigns.{put_first, all_of}

-- one list matches another, one by one
abbrev pub Zipped : {X Y : Type 0} → (X → Y → Type 0) → List X → List Y → Type 0
Zipped R [] [] = Unit {0}
Zipped R [] (y ∷ ys) = ⊥
Zipped R (x ∷ xs) [] = ⊥
Zipped R (x ∷ xs) (y ∷ ys) = R x y × Zipped R xs ys

module _ {X Y : Type 0} (f : X → Option Y) (R : X → Y → Type 0) where
  -- all images exist
  pub record Made (xs : List X) : Type 0 where
    pub all : List Y
    pub are : all_of (map f xs) ≡ Some all
    pub each : Zipped R xs all

  pub all_made : (xs : List X) → AllByRecursion (λ x. (y : Y) × (f x ≡ Some y) × R x y) xs → Made xs
  all_made [] h = record { all = []; are = refl; each = tt }
  all_made (x ∷ xs) h =
      let rest = all_made xs h.1 in
      record {
        all = h.0.0 ∷ rest.all;
        are = ap (λ o. put_first o (all_of (map f xs))) h.0.1 ∙ ap (put_first (Some h.0.0)) rest.are;
        each = (h.0.2, rest.each);
      }

module _ {X Y : Type 0} (R : X → Y → Type 0) where
  pub zipped_length : (xs : List X) (ys : List Y) → Zipped R xs ys → length ys ≡ length xs
  zipped_length [] [] h = refl
  zipped_length [] (y ∷ ys) h = absurd h
  zipped_length (x ∷ xs) [] h = absurd h
  zipped_length (x ∷ xs) (y ∷ ys) h = ap suc (zipped_length xs ys h.1)

  pub zipped_at : (xs : List X) (ys : List Y) (n : ℕ) (x : X) → Zipped R xs ys → slice_get xs n ≡ Some x
      → (y : Y) × (slice_get ys n ≡ Some y) × R x y
  zipped_at [] ys n x h is = absurd (cc is)
  zipped_at (z ∷ xs) [] n x h is = absurd h
  zipped_at (z ∷ xs) (y ∷ ys) zero x h is = let e : z ≡ x = same_Some z x is in (y, refl, subst (λ k. R k y) e h.0)
  zipped_at (z ∷ xs) (y ∷ ys) (suc n) x h is = zipped_at xs ys n x h.1 is

  all_by : (P : Y → Type 0) → ((x : X) (y : Y) → R x y → P y) → (xs : List X) (ys : List Y) → Zipped R xs ys
      → AllByRecursion P ys
  all_by P from [] [] h = tt
  all_by P from [] (y ∷ ys) h = absurd h
  all_by P from (x ∷ xs) [] h = absurd h
  all_by P from (x ∷ xs) (y ∷ ys) h = (from x y h.0, all_by P from xs ys h.1)

  pub all_zipped : (P : Y → Type 0) → ((x : X) (y : Y) → R x y → P y) → (xs : List X) (ys : List Y)
      → Zipped R xs ys → All P ys
  all_zipped P from xs ys h = All-from_recursion P ys (all_by P from xs ys h)

  module _ (S : X → X → Type 0) (T : Y → Y → Type 0) (from : (x w : X) (y z : Y) → S x w → R x y → R w z → T y z) where
    pairs_by : (x : X) (y : Y) → R x y → (xs : List X) (ys : List Y) → AllByRecursion (S x) xs → Zipped R xs ys
        → AllByRecursion (T y) ys
    pairs_by x y r [] [] a h = tt
    pairs_by x y r [] (z ∷ ys) a h = absurd h
    pairs_by x y r (w ∷ xs) [] a h = absurd h
    pairs_by x y r (w ∷ xs) (z ∷ ys) a h = (from x w y z a.0 r h.0, pairs_by x y r xs ys a.1 h.1)

    pairs_of : (xs : List X) (ys : List Y) → Pairs S xs → Zipped R xs ys → Pairs T ys
    pairs_of [] [] a h = tt
    pairs_of [] (y ∷ ys) a h = absurd h
    pairs_of (x ∷ xs) [] a h = absurd h
    pairs_of (x ∷ xs) (y ∷ ys) a h = (pairs_by x y h.0 xs ys a.0 h.1, pairs_of xs ys a.1 h.1)

    pub pairs_zipped : (xs : List X) (ys : List Y) → Pairs S xs → Zipped R xs ys → AllPairs T ys
    pairs_zipped xs ys a h = all_pairs_from T ys (pairs_of xs ys a h)

pub zipped_weaker : {X Y : Type 0} (R S : X → Y → Type 0) → ((x : X) (y : Y) → R x y → S x y)
    → (xs : List X) (ys : List Y) → Zipped R xs ys
    → Zipped S xs ys
zipped_weaker R S from [] [] h = tt
zipped_weaker R S from [] (y ∷ ys) h = absurd h
zipped_weaker R S from (x ∷ xs) [] h = absurd h
zipped_weaker R S from (x ∷ xs) (y ∷ ys) h = (from x y h.0, zipped_weaker R S from xs ys h.1)
