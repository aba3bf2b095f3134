-- An element that is taken out of a list: another element replaces it.
use Rattle.std.specs.Prelude.{◌≡◌, ℕ, List, Some, slice_get, slice_set}

pub record TakenFrom {X : Type 0} (old new : List X) (at : ℕ) (x : X) : Type 0 where
  pub was : slice_get old at ≡ Some x
  pub other : X
  pub now_is : new ≡ slice_set old at other
