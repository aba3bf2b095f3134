-- In a renumbered design, each component has the same taps under its other number.
use Rattle.std.proofs.Common.{◌≡◌, ◌∙◌, ℕ, ◌<◌, Bool, true, false, cond, nat_eq, List, [], ◌∷◌, map, filter, length}
use Rattle.std.proofs.Common.{All, slice_index_or, refl, ap, ap₂}
use Rattle.std.proofs.lemmas.List.Elements.{All-head, All-tail}
use Rattle.pals_base.specs.declared.basic_types.PortValue.{PortValue}
use Rattle.pals_model.specs.declared.design.Tap.{Tap}
use Rattle.pals_model.specs.declared.design.DesignParts.{DesignParts}
use Rattle.sync_product.specs.proof.RenumberedDesigns.{renumbered_tap, IsRenumbered}
use Rattle.sync_product.proofs.RenumberedDesigns.{same_number}

-- one more element of each of two lists with the same images
more_or_not : {X Y : Type 0} (f : X → Y) (x y : X) (xs ys : List X) (more : Bool) → f x ≡ f y → map f xs ≡ map f ys
    → map f (cond more (x ∷ xs) xs) ≡ map f (cond more (y ∷ ys) ys)
more_or_not {X} {Y} f x y xs ys true first rest = ap₂ (λ z (zs : List Y). z ∷ zs) first rest
more_or_not f x y xs ys false first rest = rest

-- the tuple that a tap shows
abbrev pub shown : List (List PortValue) → Tap → List PortValue
shown tuples tap = slice_index_or tuples tap.out_port []

module _ (to : ℕ → ℕ) (a b : DesignParts) (r : IsRenumbered to a b) where
  pub same_shown : (tuples : List (List PortValue)) (node : ℕ) → node < length a.components → (taps : List Tap)
      → All (λ tap. tap.source.0 < length a.components) taps
      → map (shown tuples) (filter (λ tap. nat_eq tap.source.0 (to node)) (map (renumbered_tap to) taps))
      ≡ map (shown tuples) (filter (λ tap. nat_eq tap.source.0 node) taps)
  same_shown tuples node within [] inside = refl
  same_shown tuples node within (tap ∷ taps) inside =
      let others = filter (λ (other : Tap). nat_eq other.source.0 (to node)) (map (renumbered_tap to) taps) in
      let own = filter (λ (other : Tap). nat_eq other.source.0 node) taps in
      let here = All-head (λ (other : Tap). other.source.0 < length a.components) tap taps inside in
      let later = All-tail (λ (other : Tap). other.source.0 < length a.components) tap taps inside in
      ap (λ more. map (shown tuples) (cond more (renumbered_tap to tap ∷ others) others))
      (same_number to a b r tap.source.0 node here within)
      ∙ more_or_not (shown tuples) (renumbered_tap to tap) tap others own (nat_eq tap.source.0 node) refl
      (same_shown tuples node within taps later)
