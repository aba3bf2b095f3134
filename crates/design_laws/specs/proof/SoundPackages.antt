-- A package that passes the first four checks.
use Rattle.std.specs.Prelude.{◌≡◌, ℕ, List, [], Some}
use Rattle.aadl_tree.specs.Declarations.{PackageTree}
use Rattle.aadl_names.specs.declared.fault.PackageFault.{PackageFault}
use Rattle.aadl_names.specs.NameResolution.{root_number}
use Rattle.aadl_names.specs.PackageNameFaults.{package_faults}
use Rattle.aadl_uses.specs.Recursion.{IsRecursive}
use Rattle.aadl_chains.specs.ChainFaults.{IsEndFault}

-- it has a root of the name, and its names, its containment relation and the ends of its connections have no faults
pub record IsSound (tree : PackageTree ℕ) (name : List ℕ) : Type 0 where
  pub root : ℕ
  pub is_root : root_number tree name ≡ Some root
  pub names : package_faults tree root ≡ []
  pub recursion : (fault : PackageFault) → IsRecursive tree fault → ⊥
  pub ends : (fault : PackageFault) → IsEndFault tree root fault → ⊥
