-- The instance model of a package by paths: its root, its threads by their paths, and its links, feeds and taps
-- between ports at paths.
use Rattle.std.specs.Prelude.{◌≡◌, ℕ, List, Some}
use Rattle.aadl_tree.specs.Declarations.{PackageTree}
use Rattle.aadl_names.specs.declared.fault.PackageFault.{PackageFault}
use Rattle.aadl_names.specs.NameResolution.{root_number}
use Rattle.aadl_uses.specs.ThreadsBelow.{Lists, IsThreadAt, PathBefore}
use Rattle.aadl_chains.specs.LinksFeedsAndTaps.{CarriedChain, IsLink, IsFeed, IsTap, TargetBefore, PortBefore}
use Rattle.aadl_instance.specs.Faults.{Found}
pub use Rattle.aadl_instance.specs.Faults.{IsOver, Found, IsFault}

-- the flattened design: the root's number, its threads by their paths, and its chains
pub record InstanceParts : Type 0 where
  pub root : ℕ
  pub threads : List (List ℕ)
  pub links : List CarriedChain
  pub feeds : List CarriedChain
  pub taps : List CarriedChain

-- there are no findings, and these are the parts
pub record IsFlat (tree : PackageTree ℕ) (name : List ℕ) (parts : InstanceParts) : Type 0 where
  pub sound : (line : ℕ) (fault : PackageFault) → Found tree name line fault → ⊥
  pub root : root_number tree name ≡ Some parts.root
  pub threads : Lists (IsThreadAt tree parts.root) PathBefore parts.threads
  pub links : Lists (IsLink tree parts.root) TargetBefore parts.links
  pub feeds : Lists (IsFeed tree parts.root) TargetBefore parts.feeds
  pub taps : Lists (IsTap tree parts.root) PortBefore parts.taps
