-- The connection with the number of its implementation and its own number.
use Rattle.std.specs.Prelude.{◌≡◌, ℕ, Some, slice_get}
use Rattle.aadl_tree.specs.Declarations.{Connection, Implementation, PackageTree}
use Rattle.aadl_names.specs.NameResolution.{implementation_at}

-- the implementation with a number, and its connection with a number
pub record IsConnection (tree : PackageTree ℕ) (number at : ℕ) (x : Implementation ℕ) (c : Connection ℕ) : Type 0 where
  pub declared : implementation_at tree number ≡ Some x
  pub listed : slice_get x.connections at ≡ Some c
