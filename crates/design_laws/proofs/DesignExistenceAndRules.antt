-- If an instance model has no findings, it is contradictory that it has no design, and its design satisfies the rules
-- of designs. The only assumption is that some package without a fault has the instance model.
use Rattle.std.proofs.Common.{ℕ, subst}
use Rattle.std.proofs.Props.{props}
use Rattle.std.proofs.Math.Logic.{∥∥₁_elim}
use Rattle.pals_base.specs.BehaviourRules.{IsAcyclic}
use Rattle.pals_model.specs.declared.design.DesignParts.{DesignParts}
use Rattle.pals_model.specs.DesignRules.{IsDesign}
use Rattle.aadl_tree.specs.Declarations.{PackageTree}
use Rattle.design_laws.specs.proof.PackageNames.{AreNamed}
use Rattle.model_violations.specs.Violations.{ShownInstance}
use Rattle.design_laws.specs.proof.AcceptedInstances.{IsShown, NothingFound}
use Rattle.design_laws.specs.InstanceDesigns.{IsDesignOf}
use Rattle.design_laws.proofs.InstanceBehaviours.{ThreadLaw}
use Rattle.design_laws.proofs.AcceptedInstances.{has_design, one_design}

pub keeps : ThreadLaw → (tree : PackageTree ℕ) (s : ShownInstance) → AreNamed tree → ∥ IsShown tree s ∥₁
    → NothingFound tree s
    → (design : DesignParts)
    → IsDesignOf tree s design → IsDesign design
unfolding IsAcyclic
keeps law tree s named shown nothing design is =
    ∥∥₁_elim shown (hlevel props)
    (λ i. let d = has_design law tree s named i nothing in subst IsDesign (one_design tree s d.0 design d.1 is) d.2)

pub there_is : ThreadLaw → (tree : PackageTree ℕ) (s : ShownInstance) → AreNamed tree → ∥ IsShown tree s ∥₁
    → NothingFound tree s
    → ((design : DesignParts) → IsDesignOf tree s design → ⊥) → ⊥
there_is law tree s named shown nothing never =
    ∥∥₁_elim shown (hlevel props) (λ i. let d = has_design law tree s named i nothing in never d.0 d.1)
