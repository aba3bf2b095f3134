-- For PackageNames: the package of each text has these facts about names.
use Rattle.std.proofs.Props.{props}
use Rattle.std.proofs.Math.Logic.{∥∥₁_elim}
use Rattle.aadl_tree.specs.declared.package.PackageTree as source
use Rattle.aadl_tree.specs.proof.PackageViews.{placed}
use Rattle.design_laws.specs.proof.PackageNames.{AreNamed}
use Rattle.design_laws.proofs.DistinctPackageNames.{differ_given}
use Rattle.design_laws.proofs.IdentifiersAreWords.{have_words}

pub named : (tree : source.PackageTree) → AreNamed (placed tree)
named tree = record {
  words = have_words tree;
  differ =
      λ root n x none is. ∥∥₁_elim tree.given (hlevel props)
      (λ given. differ_given (placed tree) root n x given none is);
}
