-- A bundle with a valid design text.
use Rattle.std.specs.Prelude.{ℕ, List}
use Rattle.aadl_tree.specs.Declarations.{PackageTree}
use Rattle.aadl_tree.specs.TextTreesAndFaults.{IsTreeOf}
use Rattle.bundle_designs.specs.Bundles.{IsSplit}

-- A line divides the bundle into this text and this scenario, and the text has this tree.
pub record IsParsed (bundle text scenario : List ℕ) (tree : PackageTree ℕ) : Type 0 where
  pub split : IsSplit bundle text scenario
  pub read : IsTreeOf text tree
