-- Behaviours of a design satisfy the rules of behaviours.
use Rattle.std.proofs.Common.{ℕ}
use Rattle.std.specs.Prelude.{All}
use Rattle.aadl_tree.specs.Declarations.{PackageTree}
use Rattle.design_laws.specs.proof.PackageNames.{AreNamed}
use Rattle.model_violations.specs.Violations.{ShownInstance, shown_by}
use Rattle.design_laws.specs.proof.AcceptedInstances.{IsShown, NothingFound}
use Rattle.design_laws.specs.InstanceDesigns.{HasRules}
use Rattle.design_laws.proofs.SoundInstanceParts.{all_parts}
use Rattle.design_laws.proofs.InstanceBehaviours as ruling
use Rattle.design_laws.proofs.InstanceBehaviours.{ThreadLaw}
use Rattle.std.proofs.Props.{props}
use Rattle.std.proofs.Math.Logic.{∥∥₁_elim}
use Rattle.pals_base.specs.BehaviourRules.{IsAcyclic}
use Rattle.design_laws.proofs.InstancesFromParts.{of_shown, to_shown}

pub have_rules : ThreadLaw → (tree : PackageTree ℕ) (s : ShownInstance) → AreNamed tree → IsShown tree s
    → NothingFound tree s
    → All (HasRules tree) s.threads
have_rules law tree s named i nothing =
    let there = to_shown (NothingFound tree) tree s i nothing in
    let found = all_parts tree (shown_by tree i.parts) there.used there.none in
    of_shown (λ (x : ShownInstance). All (HasRules tree) x.threads) tree s i
    (ruling.have_rules i.flat there.used there.is_use found.declarations named law)

-- all threads of an instance model satisfy the rules; the only assumption is that a package without a fault has the
-- instance model
pub all_rules : ThreadLaw → (tree : PackageTree ℕ) (s : ShownInstance) → AreNamed tree → ∥ IsShown tree s ∥₁
    → NothingFound tree s
    → All (HasRules tree) s.threads
unfolding IsAcyclic
all_rules law tree s named shown nothing = ∥∥₁_elim shown (hlevel props) (λ i. have_rules law tree s named i nothing)
