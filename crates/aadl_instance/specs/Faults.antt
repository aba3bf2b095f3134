-- The faults of a package with a root, by line, and its first fault.
use Rattle.std.specs.Prelude.{◌≡◌, ◌⊎◌, ℕ, ◌<◌, true, List, length, codes, Contains, Some, None}
use Rattle.pals_base.specs.declared.limits.TheConstants.{COMPONENTS, LINKS, PORTS, VARIABLES, STATES, PATH_BYTES}
use Rattle.aadl_tree.specs.Declarations.{Implementation, PackageTree}
use Rattle.aadl_names.specs.declared.fault.PackageFault.{PackageFault}
use Rattle.aadl_names.specs.declared.fault.PackageFault.TheVariants.{NoRoot, TooMany}
use Rattle.aadl_names.specs.FirstFaults.{IsFirstByLine}
use Rattle.aadl_names.specs.NameResolution.{implementation_at, is_system, ports_of, root_number}
use Rattle.aadl_names.specs.PackageNameFaults.{package_faults}
use Rattle.aadl_uses.specs.Recursion.{IsRecursive}
use Rattle.aadl_chains.specs.ChainFaults.{IsEndFault}
use Rattle.aadl_uses.specs.ThreadsBelow.{MoreThan, IsThreadAt, PathBefore}
use Rattle.aadl_uses.specs.ThreadLocations.{ThreadWith, spelled_path}
use Rattle.aadl_instance.specs.BehaviourSizes.{variable_count, state_count}
use Rattle.aadl_chains.specs.LinksFeedsAndTaps.{IsLink, OtherTarget}

-- a design exceeds a limit; the fault is at the line of the limit
abbrev pub IsOver : PackageTree ℕ → ℕ → ℕ → List ℕ → Type 0
IsOver tree root line what =
    ((line ≡ 5) × (what ≡ codes "components") × MoreThan COMPONENTS (IsThreadAt tree root) PathBefore)
    ⊎ ((line ≡ 6) × (what ≡ codes "links") × MoreThan LINKS (IsLink tree root) OtherTarget)
    ⊎ ((line ≡ 7) × (what ≡ codes "ports") × ThreadWith tree root (λ x path. PORTS < length (ports_of tree x)))
    ⊎ ((line ≡ 8) × (what ≡ codes "variables") × ThreadWith tree root (λ x path. VARIABLES < variable_count x))
    ⊎ ((line ≡ 9) × (what ≡ codes "states") × ThreadWith tree root (λ x path. STATES < state_count x))
    ⊎ ((line ≡ 10) × (what ≡ codes "path")
    × ThreadWith tree root (λ x path. PATH_BYTES < length (spelled_path tree root path)))

abbrev pub FoundIn : PackageTree ℕ → ℕ → ℕ → PackageFault → Type 0
FoundIn tree root line fault =
    ((line ≡ 2) × Contains (package_faults tree root) fault)
    ⊎ ((line ≡ 3) × IsRecursive tree fault)
    ⊎ ((line ≡ 4) × IsEndFault tree root fault)
    ⊎ ((what : List ℕ) × IsOver tree root line what × (fault ≡ TooMany what))

-- line 1, and the lines of a package with the root
abbrev pub Found : PackageTree ℕ → List ℕ → ℕ → PackageFault → Type 0
Found tree name line fault =
    ((line ≡ 1) × (root_number tree name ≡ None) × (fault ≡ NoRoot))
    ⊎ ((root : ℕ) × (root_number tree name ≡ Some root) × FoundIn tree root line fault)

abbrev pub IsFault : PackageTree ℕ → List ℕ → PackageFault → Type 0
IsFault tree name fault = IsFirstByLine (Found tree name) fault

-- the earlier lines have no findings
abbrev pub IsSilentTo : PackageTree ℕ → ℕ → ℕ → Type 0
IsSilentTo tree root end = (line : ℕ) (fault : PackageFault) → line < end → FoundIn tree root line fault → ⊥

-- it is the number of a system implementation
abbrev pub IsRoot : PackageTree ℕ → ℕ → Type 0
IsRoot tree root = (x : Implementation ℕ) × (implementation_at tree root ≡ Some x) × (is_system x.category ≡ true)
