-- A canonical text has a tree, which is the given tree without its places.
use Rattle.std.specs.Prelude.{ℕ, ◌≡◌, List}
use Rattle.aadl_tree.specs.Declarations.{PackageTree}
use Rattle.aadl_tree.specs.proof.PlaceMaps.{package_to, no_place}
use Rattle.aadl_tree.specs.TextTreesAndFaults.{IsTreeOf}

-- The text has a tree within the nesting limit, and this is the given tree without its places.
pub record HasSameTree (text : List ℕ) (meaning : PackageTree (Unit {0})) : Type 0 where
  pub tree : PackageTree ℕ
  pub read : IsTreeOf text tree
  pub same : package_to no_place tree ≡ meaning
