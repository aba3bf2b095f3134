-- The design of a package below a root.
use Rattle.std.specs.Prelude.{ℕ, List, []}
use Rattle.pals_model.specs.declared.design.DesignParts.{DesignParts}
use Rattle.aadl_tree.specs.Declarations.{PackageTree}
use Rattle.aadl_instance.specs.InstancesByPaths.{InstanceParts, IsFlat}
use Rattle.model_violations.specs.Violations.{shown_by, AreViolations}
use Rattle.design_laws.specs.InstanceDesigns.{IsDesignOf}

-- The package has an instance model below the root of this name, without violations, and this is its design.
pub record IsDesignIn (tree : PackageTree ℕ) (root : List ℕ) (design : DesignParts) : Type 0 where
  pub parts : InstanceParts
  pub flat : IsFlat tree root parts
  pub nothing_wrong : AreViolations tree (shown_by tree parts) []
  pub design_of : IsDesignOf tree (shown_by tree parts) design
