-- The first four checks of a package: one of them gives the first fault, or the package passes all.
use Rattle.std.proofs.Common.{◌≡◌, ◌⊎◌, ◌↔◌, inl, inr, ℕ, ◌<◌, List, [], length, Contains, Option, Some, None, refl}
use Rattle.std.proofs.Common.{arith}
use Rattle.std.proofs.lemmas.List.{length-map}
use Rattle.aadl_tree.specs.Declarations.{PackageTree}
use Rattle.aadl_names.specs.declared.fault.PackageFault.{PackageFault}
use Rattle.aadl_names.specs.declared.fault.PackageFault.TheVariants.{NoRoot}
use Rattle.aadl_names.specs.FirstFaults.{FirstOf}
use Rattle.aadl_names.specs.proof.FirstFaultSoFar.{found}
use Rattle.aadl_names.specs.NameResolution.{root_number}
use Rattle.aadl_names.specs.PackageNameFaults.{package_faults}
use Rattle.aadl_names.proofs.SameFirstFaults.{found_is_first}
use Rattle.aadl_uses.specs.proof.PackageContainment.{containment, targets_in}
use Rattle.aadl_uses.specs.proof.FirstRecursion.{FirstIn}
use Rattle.aadl_uses.specs.ContainmentAndUse.{IsInUse}
use Rattle.aadl_uses.specs.Recursion.{IsRecursive}
use Rattle.aadl_uses.proofs.PackageContainment.{within, in_use_by}
use Rattle.aadl_uses.proofs.FirstRecursion.{no_way_back}
use Rattle.aadl_chains.specs.ChainFaults.{IsEndFault}
use Rattle.aadl_chains.proofs.PermittedConnections.{declared}
use Rattle.aadl_instance.proofs.Roots.{is_root_at, root_declared}
use Rattle.aadl_instance.proofs.FaultPrecedence.{name_fault, recursion_fault, end_fault, no_root, root_fault}
use Rattle.design_laws.proofs.ReachedDeclarations.{reach}
use Rattle.design_laws.proofs.ContainmentOrders.{order}
use Rattle.design_laws.specs.proof.FirstFaultOrInstance.{HasFirstFault}
use Rattle.design_laws.specs.proof.SoundPackages.{IsSound}
use Rattle.design_laws.proofs.FirstRecursion.{first_recursive}
use Rattle.design_laws.proofs.FirstConnectionFault.{first_end}

-- all declarations that a root contains
pub uses : (tree : PackageTree ℕ) (root : ℕ) → root < length tree.declarations
    → (used : List ℕ) × ((n : ℕ) → Contains used n ↔ IsInUse tree root n)
uses tree root lt =
    let same = length-map tree.declarations (targets_in tree) in
    let r = reach (containment tree) root (within tree) (omega arith) in
    (r.keys, λ n. in_use_by tree root n r.keys (r.are n))

module _ (tree : PackageTree ℕ) (name : List ℕ) (root : ℕ) (is : root_number tree name ≡ Some root) where
  pub declared_root : root < length tree.declarations
  declared_root = root_declared tree root (is_root_at tree name root is)

  by_ends : package_faults tree root ≡ [] → ((f : PackageFault) → IsRecursive tree f → ⊥) → (o : Option PackageFault)
      → FirstIn (IsEndFault tree root) o → HasFirstFault tree name ⊎ IsSound tree name
  by_ends names never None x = inr (record { root = root; is_root = is; names = names; recursion = never; ends = x })
  by_ends names never (Some fault) x =
      inl (fault, root_fault tree name root is fault (end_fault tree root fault names never x))

  ends_first : package_faults tree root ≡ [] → ((f : PackageFault) → IsRecursive tree f → ⊥)
      → HasFirstFault tree name ⊎ IsSound tree name
  ends_first names never =
      let o = order (containment tree) (within tree) (no_way_back tree never) in
      let u = uses tree root declared_root in
      let e = first_end tree root (declared tree root names) o.0 o.1 u.0 u.1 in
      by_ends names never e.0 e.1

  by_recursion : package_faults tree root ≡ [] → (o : Option PackageFault) → FirstIn (IsRecursive tree) o
      → HasFirstFault tree name ⊎ IsSound tree name
  by_recursion names None x = ends_first names x
  by_recursion names (Some fault) x =
      inl (fault, root_fault tree name root is fault (recursion_fault tree root fault names x))

  by_names : (o : Option PackageFault) → FirstOf (package_faults tree root) o
      → HasFirstFault tree name ⊎ IsSound tree name
  by_names None x = let r = first_recursive tree in by_recursion x r.0 r.1
  by_names (Some fault) x = inl (fault, root_fault tree name root is fault (name_fault tree root fault x))

  with_root : HasFirstFault tree name ⊎ IsSound tree name
  with_root = by_names (found None (package_faults tree root)) (found_is_first (package_faults tree root))

by_root : (tree : PackageTree ℕ) (name : List ℕ) (o : Option ℕ) → root_number tree name ≡ o
    → HasFirstFault tree name ⊎ IsSound tree name
by_root tree name None e = inl (NoRoot, no_root tree name e)
by_root tree name (Some root) e = with_root tree name root e

pub each_package_begins : (tree : PackageTree ℕ) (name : List ℕ) → HasFirstFault tree name ⊎ IsSound tree name
each_package_begins tree name = by_root tree name (root_number tree name) refl
