-- The behaviour of a thread's implementation, and its violations.
use Rattle.std.specs.Prelude.{◌≡◌, ℕ, ◌≤◌, List, [], ◌∷◌, ◌++◌, length, Option, Some, None, slice_get}
use Rattle.pals_base.specs.declared.limits.TheConstants.{PORTS, VARIABLES}
use Rattle.pals_base.specs.declared.behaviour.BehaviourParts.{BehaviourParts}
use Rattle.aadl_tree.specs.Declarations.{Implementation, PackageTree}
use Rattle.aadl_tree.specs.Annexes.{AnnexTree}
use Rattle.aadl_names.specs.BehaviourAnnexes.{behaviours}
use Rattle.aadl_names.specs.NameResolution.{ports_of}
use Rattle.annex_resolve.specs.declared.violation.Violation.{Violation}
use Rattle.annex_resolve.specs.declared.violation.TheConstants.{NO_INITIAL}
use Rattle.annex_resolve.specs.FindingRecords.{finding}
use Rattle.annex_resolve.specs.BehavioursAndFindings.{behaviour_of, annex_findings}
use Rattle.component_checks.specs.TypeFindings.{variables_findings}
use Rattle.model_violations.specs.PortsAndVariables.{variables_of, values_of, scope_of}

-- the first behaviour annex, with its position
abbrev pub first_annex : Implementation ℕ → Option (ℕ × AnnexTree ℕ)
first_annex x = slice_get (behaviours x.annexes) 0

-- a thread has at most as many ports and variables as a design may have
pub record IsSmall (tree : PackageTree ℕ) (x : Implementation ℕ) : Type 0 where
  pub ports : length (ports_of tree x) ≤ PORTS
  pub variables : (b : ℕ × AnnexTree ℕ) → first_annex x ≡ Some b → length (variables_of b.1) ≤ VARIABLES

-- without one there is no initial state
abbrev pub annex_rules : PackageTree ℕ → Implementation ℕ → Option (ℕ × AnnexTree ℕ) → List Violation
annex_rules tree x None = finding x.name.component_type.at NO_INITIAL [] ∷ []
annex_rules tree x (Some b) =
    variables_findings b.1 ++ annex_findings (values_of tree x b.1) (scope_of tree x b.1) b.0 b.1

abbrev pub behaviour_by : PackageTree ℕ → Implementation ℕ → Option (ℕ × AnnexTree ℕ) → Option BehaviourParts
behaviour_by tree x None = None
behaviour_by tree x (Some b) = Some (behaviour_of (values_of tree x b.1) (scope_of tree x b.1) b.1)

abbrev pub implementation_findings : PackageTree ℕ → Implementation ℕ → List Violation
implementation_findings tree x = annex_rules tree x (first_annex x)

abbrev pub behaviour_in : PackageTree ℕ → Implementation ℕ → Option BehaviourParts
behaviour_in tree x = behaviour_by tree x (first_annex x)
