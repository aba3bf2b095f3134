-- For the laws of kinds: elements of lists, by their places.
use Rattle.std.proofs.Common.{◌≡◌, ℕ, zero, suc, ◌+◌, Bool, true, false, if◌then◌else◌, List, [], ◌∷◌, map}
use Rattle.std.proofs.Common.{slice_index_or, All, subst, arith}
use Rattle.std.proofs.lemmas.List.Elements.{All-nil, All-cons}
use Rattle.pals_base.specs.UpwardNumbers.{upwards}

-- an element of a list made from counted numbers, or past its end
pub upwards_at : {X : Type 0} (P : X → Type 0) (f : ℕ → X) (from n k place : ℕ) (d : X) → place ≡ from + k
    → P (f place) → P d
    → P (slice_index_or (map f (upwards from n)) k d)
upwards_at P f from zero k place d at fits none = none
upwards_at P f from (suc n) zero place d at fits none = let same : place ≡ from = omega arith in
    subst (λ i. P (f i)) same fits
upwards_at P f from (suc n) (suc k) place d at fits none = upwards_at P f (suc from) n k place d (omega arith) fits none

-- a property of each element, and of the default past the last
pub places_all : {X : Type 0} (P : X → Type 0) (xs : List X) (d : X) → ((k : ℕ) → P (slice_index_or xs k d)) → All P xs
places_all P [] d each = All-nil P
places_all P (x ∷ xs) d each = All-cons P x xs (each 0) (places_all P xs d (λ k. each (suc k)))

pub either_fits : {X : Type 0} (P : X → Type 0) (b : Bool) (x y : X) → P x → P y → P (if b then x else y)
either_fits P true x y first second = first
either_fits P false x y first second = second
