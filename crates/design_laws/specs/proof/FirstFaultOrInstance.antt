-- A package has a first fault below a named root or an instance model, and an instance model has a list of all its
-- violations.
use Rattle.std.specs.Prelude.{ℕ, List}
use Rattle.aadl_tree.specs.Declarations.{PackageTree}
use Rattle.aadl_names.specs.declared.fault.PackageFault.{PackageFault}
use Rattle.annex_resolve.specs.declared.violation.Violation.{Violation}
use Rattle.aadl_instance.specs.Faults.{IsFault}
use Rattle.aadl_instance.specs.InstancesByPaths.{InstanceParts, IsFlat}
use Rattle.model_violations.specs.Violations.{shown_by, AreViolations}

-- it has a first fault
abbrev pub HasFirstFault : PackageTree ℕ → List ℕ → Type 0
HasFirstFault tree root = (fault : PackageFault) × IsFault tree root fault

-- it has an instance model: its threads, links, feeds and taps, each list in its order
abbrev pub HasInstance : PackageTree ℕ → List ℕ → Type 0
HasInstance tree root = (parts : InstanceParts) × IsFlat tree root parts

-- a list of all violations of the instance model exists, in its order
abbrev pub HasList : PackageTree ℕ → InstanceParts → Type 0
HasList tree parts = (list : List Violation) × AreViolations tree (shown_by tree parts) list
