-- The canonical text of a bundle's design.
use Rattle.std.specs.Prelude.{◌≡◌, ℕ, List}
use Rattle.aadl_tree.specs.Declarations.{PackageTree}
use Rattle.aadl_tree.specs.CanonicalText.{canon}
use Rattle.bundle_designs.specs.ParsedBundles.{IsParsed}

-- The design text has a tree, and the text is its canonical text.
pub record IsPrinted (bundle text : List ℕ) : Type 0 where
  pub design : List ℕ
  pub scenario : List ℕ
  pub tree : PackageTree ℕ
  pub parsed : IsParsed bundle design scenario tree
  pub text_is : text ≡ canon tree
