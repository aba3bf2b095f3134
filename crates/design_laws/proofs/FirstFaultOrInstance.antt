-- A package without a fault has the parts of an instance model.
use Rattle.std.proofs.Common.{◌≡◌, ◌⊎◌, inl, inr, ℕ, List, map, reverse, false, refl, arith}
use Rattle.std.proofs.lemmas.List.{length-map}
use Rattle.aadl_tree.specs.Declarations.{PackageTree}
use Rattle.aadl_names.specs.declared.fault.PackageFault.TheVariants.{TooMany}
use Rattle.aadl_uses.specs.proof.PackageContainment.{containment, targets_in}
use Rattle.aadl_uses.specs.ThreadsBelow.{Lists, IsThreadAt, PathBefore}
use Rattle.aadl_uses.specs.proof.ThreadCounts.{thread_marks}
use Rattle.aadl_uses.proofs.PackageContainment.{within}
use Rattle.aadl_uses.proofs.ThreadCounts.{threads_listed}
use Rattle.aadl_uses.proofs.FirstRecursion.{no_way_back}
use Rattle.aadl_chains.specs.proof.PermittedConnections.{ArePermitted}
use Rattle.aadl_chains.proofs.PermittedConnections.{declared}
use Rattle.aadl_chains.specs.LinksFeedsAndTaps.{CarriedChain, IsLink, IsFeed, IsTap, TargetBefore, PortBefore}
use Rattle.aadl_chains.specs.proof.UpwardWalks.{OneEach}
use Rattle.aadl_uses.specs.proof.ContainmentGraphs.{LeadsBack}
use Rattle.design_laws.specs.proof.ReachOrderAndPaths.{HasOrder}
use Rattle.aadl_chains.specs.proof.PortsJoinedInside.{is_thread_at}
use Rattle.aadl_chains.proofs.LinkLimits.{one_each}
use Rattle.aadl_instance.specs.proof.Limits.{name_of}
use Rattle.aadl_instance.proofs.Roots.{is_root_at, root_declared, root_no_thread}
use Rattle.aadl_instance.proofs.FaultPrecedence.{silent_five, all_silent, limit_fault, root_fault, root_silent}
use Rattle.design_laws.proofs.ContainmentOrders.{order}
use Rattle.design_laws.proofs.MarkedPaths.{paths}
use Rattle.design_laws.specs.proof.SoundPackages.{IsSound}
use Rattle.design_laws.proofs.FirstFaultOrSoundPackage.{each_package_begins}
use Rattle.design_laws.specs.proof.FirstFaultOrInstance.{HasFirstFault, HasInstance}
use Rattle.design_laws.proofs.LinkAndFeedLists.{links, feeds}
use Rattle.design_laws.proofs.TapLists.{taps}
use Rattle.design_laws.proofs.FirstExceededLimits.{FirstOrNone, first}

module _ (tree : PackageTree ℕ) (name : List ℕ) (is : IsSound tree name) where
  acyclic : (n s : ℕ) → LeadsBack (containment tree) n s → ⊥
  acyclic = no_way_back tree is.recursion

  sequence : HasOrder (containment tree)
  sequence = order (containment tree) (within tree) acyclic

  sound : ArePermitted tree
  sound = declared tree is.root is.names

  one : OneEach tree is.root
  one = one_each tree is.root is.ends

  no_thread : is_thread_at tree is.root ≡ false
  no_thread = root_no_thread tree is.root (is_root_at tree name is.root is.is_root)

  threads : (ps : List (List ℕ)) × Lists (IsThreadAt tree is.root) PathBefore ps
  threads =
      let same = length-map tree.declarations (targets_in tree) in
      let lt = root_declared tree is.root (is_root_at tree name is.root is.is_root) in
      let p = paths (containment tree) (thread_marks tree) is.root (within tree) acyclic (omega arith) in
      (map reverse p.0, threads_listed tree is.root p.0 p.1)

  all_links : (ends : List CarriedChain) × Lists (IsLink tree is.root) TargetBefore ends
  all_links = links tree is.root sound one no_thread sequence.0 sequence.1 threads.0 threads.1

  all_feeds : (ends : List CarriedChain) × Lists (IsFeed tree is.root) TargetBefore ends
  all_feeds = feeds tree is.root sound one no_thread sequence.0 sequence.1 threads.0 threads.1

  all_taps : (ends : List CarriedChain) × Lists (IsTap tree is.root) PortBefore ends
  all_taps = taps tree is.root sound one no_thread sequence.0 sequence.1 threads.0

  by_limits : FirstOrNone tree is.root threads.0 threads.1 all_links.0 all_links.1
      → HasFirstFault tree name ⊎ HasInstance tree name
  by_limits (inl f) =
      inl (
        TooMany (name_of f.limit),
        root_fault tree name is.root is.is_root (TooMany (name_of f.limit))
            (limit_fault tree is.root f.limit (name_of f.limit) (silent_five tree is.root is.names is.recursion is.ends)
            refl f.passed f.before),
      )
  by_limits (inr none) =
      inr (
        record { root = is.root; threads = threads.0; links = all_links.0; feeds = all_feeds.0; taps = all_taps.0 },
        record {
          sound =
              root_silent tree name is.root is.is_root
              (all_silent tree is.root (silent_five tree is.root is.names is.recursion is.ends) none);
          root = is.is_root;
          threads = threads.1;
          links = all_links.1;
          feeds = all_feeds.1;
          taps = all_taps.1;
        },
      )

  pub ends : HasFirstFault tree name ⊎ HasInstance tree name
  ends = by_limits (first tree is.root threads.0 threads.1 all_links.0 all_links.1)

by_begin : (tree : PackageTree ℕ) (name : List ℕ) → HasFirstFault tree name ⊎ IsSound tree name
    → HasFirstFault tree name ⊎ HasInstance tree name
by_begin tree name (inl fault) = inl fault
by_begin tree name (inr is) = ends tree name is

pub each_package_ends : (tree : PackageTree ℕ) (name : List ℕ) → HasFirstFault tree name ⊎ HasInstance tree name
each_package_ends tree name = by_begin tree name (each_package_begins tree name)
