-- The fault of the first subcomponent that leads back to the declaration that contains it, among those tested so far.
use Rattle.std.specs.Prelude.{◌≡◌, ℕ, ◌≤◌, Bool, true, nat_lt, List, Option, Some, None, Contains}
use Rattle.aadl_tree.specs.Declarations.{Subcomponent, PackageTree}
use Rattle.aadl_names.specs.declared.fault.PackageFault.{PackageFault}
use Rattle.aadl_names.specs.FirstFaults.{place_of, IsFirst}
use Rattle.aadl_uses.specs.ContainmentAndUse.{sub_at}
use Rattle.aadl_uses.specs.Recursion.{IsRecursive}
use Rattle.aadl_uses.specs.proof.PackageContainment.{containment}
use Rattle.aadl_uses.specs.proof.ContainmentGraphs.{LeadsBack}

-- a position is before the position of a fault, if there is one
abbrev pub is_sooner : ℕ → Option PackageFault → Bool
is_sooner at None = true
is_sooner at (Some fault) = nat_lt at (place_of fault)

-- it is the fault of a subcomponent that leads back, at this position or before it
abbrev pub IsBefore : PackageTree ℕ → ℕ → Option PackageFault → Type 0
IsBefore tree at None = ⊥
IsBefore tree at (Some fault) = IsRecursive tree fault × (place_of fault ≤ at)

-- each of these subcomponents that leads back has such a fault at its position or before it
abbrev pub AreBefore : PackageTree ℕ → List (ℕ × ℕ) → Option PackageFault → Type 0
AreBefore tree subs first =
    (n s : ℕ) (sub : Subcomponent ℕ) → Contains subs (n, s) → LeadsBack (containment tree) n s
    → sub_at tree n s ≡ Some sub
    → IsBefore tree sub.name.at first

-- the result is such a fault
abbrev pub IsFound : PackageTree ℕ → Option PackageFault → Type 0
IsFound tree None = Unit {0}
IsFound tree (Some fault) = IsRecursive tree fault

-- the first of the earlier result and one more subcomponent
pub record IsSooner (tree : PackageTree ℕ) (old : Option PackageFault) (n s : ℕ)
    (new : Option PackageFault) : Type 0 where
  pub found : IsFound tree old → IsFound tree new
  pub kept : (at : ℕ) → IsBefore tree at old → IsBefore tree at new
  pub here : (sub : Subcomponent ℕ) → LeadsBack (containment tree) n s → sub_at tree n s ≡ Some sub → IsFound tree old
      → IsBefore tree sub.name.at new

-- the result for these subcomponents is the first of them that leads back
pub record IsFirstOf (tree : PackageTree ℕ) (subs : List (ℕ × ℕ)) (first : Option PackageFault) : Type 0 where
  pub found : IsFound tree first
  pub before : AreBefore tree subs first

-- the first of the faults that satisfy the predicate, or `None` if no fault does
abbrev pub FirstIn : (PackageFault → Type 0) → Option PackageFault → Type 0
FirstIn Found None = (fault : PackageFault) → Found fault → ⊥
FirstIn Found (Some fault) = IsFirst Found fault
