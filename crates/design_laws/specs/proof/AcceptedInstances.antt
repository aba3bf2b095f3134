-- An instance model without findings.
use Rattle.std.specs.Prelude.{◌≡◌, ℕ, Bool, []}
use Rattle.pals_model.specs.declared.design.DesignParts.{DesignParts}
use Rattle.pals_model.specs.DesignRules.{IsDesign}
use Rattle.aadl_tree.specs.Declarations.{PackageTree}
use Rattle.aadl_instance.specs.InstancesByNumbers.{IsInstance}
use Rattle.model_violations.specs.UsedDeclarations.{IsUse}
use Rattle.model_violations.specs.Violations.{ShownInstance, findings}
use Rattle.design_laws.specs.InstanceDesigns.{IsDesignOf}

-- the instance model of a package without a fault
abbrev pub IsShown : PackageTree ℕ → ShownInstance → Type 0
IsShown tree s = IsInstance tree s.root s.threads s.links s.feeds s.taps

-- with the predicate of the declarations in use
pub record NothingFound (tree : PackageTree ℕ) (s : ShownInstance) : Type 0 where
  pub used : ℕ → Bool
  pub is_use : IsUse tree s.root used
  pub none : findings tree s used ≡ []

-- the parts of its design, which satisfy the rules of designs
abbrev pub HasDesign : PackageTree ℕ → ShownInstance → Type 0
HasDesign tree s = (design : DesignParts) × IsDesignOf tree s design × IsDesign design
