-- The design and the scenario of a bundle with an accepted package, and the output for a rejected package.
use Rattle.std.specs.Prelude.{ℕ, ◌≡◌, ◌≢◌, List, [], ◌++◌, ◌⊎◌}
use Rattle.aadl_tree.specs.Declarations.{PackageTree}
use Rattle.aadl_names.specs.declared.fault.PackageFault.{PackageFault}
use Rattle.aadl_instance.specs.InstancesByPaths.{InstanceParts, IsFlat}
use Rattle.aadl_instance.specs.Faults.{IsFault}
use Rattle.annex_resolve.specs.declared.violation.Violation.{Violation}
use Rattle.model_violations.specs.Violations.{shown_by, AreViolations}
use Rattle.design_laws.specs.PackageDesigns.{IsDesignIn}
use Rattle.pals_model.specs.declared.design.DesignParts.{DesignParts}
use Rattle.pals_model.specs.RoundTexts.{line_end, text_of as lines_text}
use Rattle.bundle_designs.specs.PackageFaultLines.{package_fault_line}
use Rattle.bundle_designs.specs.ViolationLines.{violation_lines}
use Rattle.bundle_designs.specs.ParsedBundles.{IsParsed}
use Rattle.aadl_names.specs.declared.fault.PackageFault.TheVariants as flat

-- ---- packages
-- The package has no instance model below the root of this name, and the text names its first fault.
pub record IsFaulty (text : List ℕ) (tree : PackageTree ℕ) (root written : List ℕ) : Type 0 where
  pub fault : PackageFault
  pub faulty : IsFault tree root fault
  pub named : fault ≢ flat.Memory
  pub text_is : written ≡ package_fault_line text fault ++ line_end

-- The instance model has violations, and the text names all of them.
pub record HasViolations (text : List ℕ) (tree : PackageTree ℕ) (root written : List ℕ) : Type 0 where
  pub parts : InstanceParts
  pub flat : IsFlat tree root parts
  pub list : List Violation
  pub all : AreViolations tree (shown_by tree parts) list
  pub some : list ≢ []
  pub text_is : written ≡ lines_text (violation_lines text list)

abbrev pub IsRefusedIn : List ℕ → PackageTree ℕ → List ℕ → List ℕ → Type 0
IsRefusedIn text tree root written = IsFaulty text tree root written ⊎ HasViolations text tree root written

-- ---- bundles
-- The design text has a tree, this is the design of its package, and the scenario is after the text.
pub record IsAccepted (root bundle : List ℕ) (design : DesignParts) (scenario : List ℕ) : Type 0 where
  pub text : List ℕ
  pub tree : PackageTree ℕ
  pub parsed : IsParsed bundle text scenario tree
  pub design_in : IsDesignIn tree root design

-- The design text has a tree, and the package is rejected.
pub record IsPackageRefused (root bundle written : List ℕ) : Type 0 where
  pub text : List ℕ
  pub scenario : List ℕ
  pub tree : PackageTree ℕ
  pub parsed : IsParsed bundle text scenario tree
  pub refused : IsRefusedIn text tree root written
