-- The facts about a package without findings, and the results of `check_package`.
use Rattle.std.specs.Prelude.{◌≡◌, ◌↔◌, ℕ, [], Contains, Option, Some, None}
use Rattle.aadl_tree.specs.Declarations.{PackageTree}
use Rattle.aadl_names.specs.declared.fault.PackageFault.{PackageFault}
use Rattle.aadl_names.specs.FirstFaults.{IsFirstByLine}
use Rattle.aadl_names.specs.PackageNameFaults.{package_faults}
use Rattle.aadl_uses.specs.proof.PackageContainment.{containment}
use Rattle.aadl_uses.specs.ContainmentAndUse.{IsInUse}
use Rattle.aadl_uses.specs.Recursion.{IsRecursive}
use Rattle.aadl_uses.specs.proof.ContainmentOrders.{IsOrder}
use Rattle.aadl_instance.specs.declared.checked_package.Checked.{Checked}
use Rattle.aadl_instance.specs.Faults.{FoundIn, IsRoot}

-- its names and its containment have no faults
pub record IsOrdered (tree : PackageTree ℕ) (checked : Checked) : Type 0 where
  pub is_root : IsRoot tree checked.root
  pub order : IsOrder (containment tree) checked.order.keys
  pub used : (n : ℕ) → Contains checked.used.keys n ↔ IsInUse tree checked.root n
  pub names : package_faults tree checked.root ≡ []
  pub recursion : (fault : PackageFault) → IsRecursive tree fault → ⊥

-- and the package has no other fault
pub record IsChecked (tree : PackageTree ℕ) (checked : Checked) : Type 0 where
  pub ordered : IsOrdered tree checked
  pub silent : (line : ℕ) (fault : PackageFault) → FoundIn tree checked.root line fault → ⊥

-- the first fault, or a proof that there is none
abbrev pub FindsFault : PackageTree ℕ → Checked → Option PackageFault → Type 0
FindsFault tree checked None = IsChecked tree checked
FindsFault tree checked (Some fault) = IsFirstByLine (FoundIn tree checked.root) fault
