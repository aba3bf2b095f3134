-- What a bundle has, or has not: a tree, a design, a refused tree.
use Rattle.std.proofs.Common.{ℕ, List}
use Rattle.pals_runs.specs.declared.commands.Command.{Command}
use Rattle.bundle_designs.specs.RefusedTexts.{IsTextRefused}
use Rattle.bundle_designs.specs.AcceptedAndRefusedPackages.{IsPackageRefused}
use Rattle.answer_laws.specs.proof.BundleContents.{HasTree, MeansDesign, MeansScenario}
use Rattle.answer_laws.proofs.UniqueDesignsAndRefusals.{read_or_refused, package_refused}

-- a rejected text has no tree
pub no_tree : (bundle a : List ℕ) → IsTextRefused bundle a → HasTree bundle → ⊥
no_tree bundle a x h = read_or_refused bundle h.text h.scenario h.tree a h.parsed x

pub no_design : (root bundle a : List ℕ) → IsPackageRefused root bundle a → MeansDesign root bundle → ⊥
no_design root bundle a x h = package_refused root bundle h.0 h.1 a h.2 x

pub refused_tree : (root bundle a : List ℕ) → IsPackageRefused root bundle a → HasTree bundle
refused_tree root bundle a x = record { text = x.text; scenario = x.scenario; tree = x.tree; parsed = x.parsed }

-- a bundle with a design has a tree
pub has_tree : (root bundle : List ℕ) → MeansDesign root bundle → HasTree bundle
has_tree root bundle h = record { text = h.2.text; scenario = h.1; tree = h.2.tree; parsed = h.2.parsed }

pub has_design : (root bundle : List ℕ) (command : Command) → MeansScenario root bundle command
    → MeansDesign root bundle
has_design root bundle command h = (h.0, h.2.bytes, h.2.accepted)
