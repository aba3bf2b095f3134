-- A thread's implementation with a behaviour.
use Rattle.std.specs.Prelude.{◌≡◌, ℕ, Some}
use Rattle.pals_base.specs.declared.behaviour.BehaviourParts.{BehaviourParts}
use Rattle.pals_base.specs.BehaviourRules.{IsBehaviour}
use Rattle.aadl_tree.specs.Declarations.{Implementation, PackageTree}
use Rattle.model_violations.specs.ThreadBehaviours.{behaviour_in}

-- the parts that its annex gives are the parts of a behaviour
pub record Behaves (tree : PackageTree ℕ) (x : Implementation ℕ) : Type 0 where
  pub behaviour : BehaviourParts
  pub is_behaviour : behaviour_in tree x ≡ Some behaviour
  pub keeps : IsBehaviour behaviour
