-- Which pairs can be fused, and the first pair that cannot, for which there is no fused composition.
use Rattle.std.specs.Prelude.{◌≡◌, ◌≢◌, ℕ, ◌<◌, nat_eq, Bool, not, ◌&&◌, ◌||◌, List, length, Some, slice_get}
use Rattle.pals_model.specs.declared.design.Link.{Link}
use Rattle.pals_model.specs.declared.design.DesignParts.{DesignParts}
use Rattle.pals_runs.specs.declared.plant_pairs.Pair.{Pair}
use Rattle.plant_fuse.specs.declared.fuse_failure.FuseEnd.{FuseEnd}
use Rattle.plant_fuse.specs.declared.fuse_failure.FuseEnd.TheVariants.{BadPair, Memory}
use Rattle.plant_fuse.specs.FusedComposition.{IsPair, AreApart, ArePairs}

-- two components, out of a number of them
pub record AreTwo (pair : Pair) (count : ℕ) : Type 0 where
  pub plant : pair.plant.0 < count
  pub controller : pair.controller.0 < count
  pub two : pair.plant.0 ≢ pair.controller.0

-- if one end of a link is the plant, the other is the controller
abbrev pub stays_inside : Pair → Link → Bool
stays_inside pair link =
    (not (nat_eq link.source.0 pair.plant.0) || nat_eq link.target.0 pair.controller.0)
    && (not (nat_eq link.target.0 pair.plant.0) || nat_eq link.source.0 pair.controller.0)

-- no other pair shares a component with this one
pub record StandsApart (pairs : List Pair) (index : ℕ) : Type 0 where
  pub others : (other : ℕ) (a b : Pair) → other ≢ index → slice_get pairs index ≡ Some a
      → slice_get pairs other ≡ Some b → AreApart a b

pub record CanBeFused (design : DesignParts) (pairs : List Pair) (index : ℕ) : Type 0 where
  pub pair : (a : Pair) → slice_get pairs index ≡ Some a → IsPair design a
  pub apart : StandsApart pairs index

-- the first that can not
pub record IsFirstBad (design : DesignParts) (pairs : List Pair) (index : ℕ) : Type 0 where
  pub within : index < length pairs
  pub bad : ¬ CanBeFused design pairs index
  pub before : (k : ℕ) → k < index → CanBeFused design pairs k

-- the first pair that can not be fused; or all can, and there was not enough memory
abbrev pub IsEnd : DesignParts → List Pair → FuseEnd → Type 0
IsEnd design pairs (BadPair index) = IsFirstBad design pairs index
IsEnd design pairs Memory = ArePairs design pairs
