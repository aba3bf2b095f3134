-- The reason why an instance model has no design.
use Rattle.std.specs.Prelude.{◌≢◌, ℕ, []}
use Rattle.std.specs.Bool.{⊤}
use Rattle.pals_model.specs.declared.design.DesignParts.{DesignParts}
use Rattle.aadl_tree.specs.Declarations.{PackageTree}
use Rattle.model_checks.specs.declared.instance_check.CheckFault.{CheckFault}
use Rattle.model_checks.specs.declared.instance_check.CheckFault.TheVariants.{Violations, Memory}
use Rattle.design_laws.specs.InstanceDesigns.{IsDesignOf}
use Rattle.model_violations.specs.Violations.{ShownInstance, AreViolations}

-- all its violations, of which there is at least one; nothing is stated on an allocation failure
abbrev pub IsRefused : PackageTree ℕ → ShownInstance → CheckFault → Type 0
IsRefused tree s (Violations list) = AreViolations tree s list × (list ≢ [])
IsRefused tree s Memory = ⊤

-- some part of it is missing or rejected
abbrev pub HasNoDesign : PackageTree ℕ → ShownInstance → Type 0
HasNoDesign tree s = (design : DesignParts) → IsDesignOf tree s design → ⊥
