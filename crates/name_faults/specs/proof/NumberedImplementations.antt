-- The implementation with a number.
use Rattle.std.specs.Prelude.{◌≡◌, ℕ, Some, slice_get}
use Rattle.aadl_tree.specs.Declarations.{Implementation, implementation, PackageTree}

abbrev pub StandsAt : PackageTree ℕ → ℕ → Implementation ℕ → Type 0
StandsAt tree n x = slice_get tree.declarations n ≡ Some (implementation x)
