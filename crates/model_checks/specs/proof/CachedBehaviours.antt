-- The cached behaviours, by the numbers of implementations: each is the behaviour of its implementation.
use Rattle.std.specs.Prelude.{◌≡◌, ℕ, List, Option, Some, nat_eq}
use Rattle.std.specs.Map.{lookup}
use Rattle.std.specs.Option.{option_and_then}
use Rattle.pals_base.specs.declared.behaviour.BehaviourParts.{BehaviourParts}
use Rattle.aadl_tree.specs.Declarations.{PackageTree}
use Rattle.aadl_names.specs.NameResolution.{implementation_at}
use Rattle.model_violations.specs.ThreadBehaviours.{behaviour_in}

-- the behaviour of the implementation with a number, if it exists and has one
abbrev pub behaviour_at : PackageTree ℕ → ℕ → Option BehaviourParts
behaviour_at tree number = option_and_then (behaviour_in tree) (implementation_at tree number)

-- the cached behaviour of a number is the behaviour of its implementation
abbrev pub AreKept : PackageTree ℕ → List (ℕ × BehaviourParts) → Type 0
AreKept tree kept =
    (number : ℕ) (b : BehaviourParts) → lookup (nat_eq number) kept ≡ Some b → behaviour_at tree number ≡ Some b
