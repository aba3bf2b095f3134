-- The same package at other places.
use Rattle.std.specs.Prelude.{ℕ, ◌≡◌, List, []}
use Rattle.aadl_tree.specs.Terminals.{PlacedTerminal}
use Rattle.aadl_tree.specs.SpellingParts.{Written}
use Rattle.aadl_tree.specs.Declarations.{PackageTree, package_parts}
use Rattle.aadl_tree.specs.proof.PlaceMaps.{package_to, no_place}

-- these terminals spell the same package, at their places
pub record SamePackage (t : PackageTree ℕ) (ts : List PlacedTerminal) : Type 0 where
  pub tree : PackageTree ℕ
  pub written : Written (package_parts tree) ts []
  pub same : package_to no_place tree ≡ package_to no_place t
