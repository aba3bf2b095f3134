-- The threads and chains of a package without faults are the ones of its instance model. For `instance_of`.
use Rattle.std.proofs.Common.{◌≡◌, ◌⊎◌, inl, inr, ℕ, ◌<◌, ◌≤◌, List, [], ◌∷◌, length, get_or, map, reverse, codes, Some}
use Rattle.std.proofs.Common.{Vec, Global, refl, sym, ap, subst, ◌∙◌, All}
use Rattle.std.specs.Prelude.{IsSome}
use Rattle.std.proofs.lemmas.Bool.{cases_lt}
use Rattle.std.proofs.lemmas.Option.{slice_get-get_or}
use Rattle.pals_base.specs.declared.limits.TheConstants.{COMPONENTS}
use Rattle.aadl_tree.specs.Declarations.{PackageTree}
use Rattle.aadl_names.specs.declared.fault.PackageFault.TheVariants.{TooMany}
use Rattle.aadl_names.specs.NameResolution.{root_number}
use Rattle.aadl_uses.specs.ContainmentAndUse.{number_at_path}
use Rattle.aadl_uses.specs.ThreadsBelow.{Lists, IsThreadAt, PathBefore}
use Rattle.aadl_uses.specs.declared.thread_locations.ThreadAt.{ThreadAt}
use Rattle.aadl_uses.specs.ThreadLocations.{thread_at}
use Rattle.aadl_chains.proofs.PermittedConnections.{declared}
use Rattle.aadl_chains.specs.LinksFeedsAndTaps.{IsLink, IsFeed, IsTap, TargetBefore, PortBefore}
use Rattle.aadl_chains.proofs.LinkLimits.{one_each}
use Rattle.aadl_instance.specs.declared.checked_package.Checked.{Checked}
use Rattle.aadl_instance.specs.proof.CheckedPackages.{IsChecked}
use Rattle.aadl_instance.proofs.FaultPrecedence.{root_silent}
use Rattle.aadl_instance.proofs.Roots.{root_no_thread}
use Rattle.aadl_instance.specs.declared.chain.Chain.{Chain}
use Rattle.aadl_instance.specs.InstancesByNumbers.{IsInstance}
use Rattle.aadl_instance.specs.proof.ChainsSoFar.{paths_of, IsSettled, AreShown}
use Rattle.aadl_instance.proofs.ChainsSoFar.{thread_listed}
use Rattle.aadl_instance.proofs.ChainEndNumbers.{path_got, stands}

-- ---- paths
paths_same : (threads : List (Vec ℕ Global)) (paths : List (List ℕ)) → map (λ path. path.items) threads ≡ paths
    → map reverse paths ≡ paths_of threads
paths_same threads paths e = ap (map reverse) (sym e) ∙ by threads
  where
    by : (l : List (Vec ℕ Global)) → map reverse (map (λ path. path.items) l) ≡ paths_of l
    by [] = refl
    by (x ∷ l) = ap (λ p. reverse x.items ∷ p) (by l)

pub all_listed : (tree : PackageTree ℕ) (root : ℕ) (threads : List (Vec ℕ Global)) (paths : List (List ℕ))
    → map (λ path. path.items) threads ≡ paths
    → Lists (IsThreadAt tree root) PathBefore (map reverse paths)
    → Lists (IsThreadAt tree root) PathBefore (paths_of threads)
all_listed tree root threads paths e l = subst (Lists (IsThreadAt tree root) PathBefore) (paths_same threads paths e) l

pub threads_same : (tree : PackageTree ℕ) (root : ℕ) (threads : List (Vec ℕ Global))
    → map (λ path. thread_at tree root (reverse path.items)) threads ≡ map (thread_at tree root) (paths_of threads)
threads_same tree root [] = refl
threads_same tree root (x ∷ l) = ap (λ p. thread_at tree root (reverse x.items) ∷ p) (threads_same tree root l)

module _ (tree : PackageTree ℕ) (checked : Checked) (is : IsChecked tree checked) where
  module _ (paths : List (List ℕ)) (threads : Lists (IsThreadAt tree checked.root) PathBefore paths) where
    few : (COMPONENTS < length paths) ⊎ (length paths ≤ COMPONENTS) → length paths ≤ COMPONENTS
    few (inl more) =
        absurd (is.silent 5 (TooMany (codes "components"))
        (inr (inr (inr (
          codes "components",
          inl (
            refl,
            refl,
            record {
              some = paths;
              each = threads.each;
              in_order = threads.in_order;
              many = more;
            },
          ),
          refl,
        )))))
    few (inr le) = le

    pub settled : IsSettled tree checked.order.keys checked.root paths
    settled = record {
      sequence = is.ordered.order;
      declared = declared tree checked.root is.ordered.names;
      one = one_each tree checked.root (λ fault e. is.silent 4 fault (inr (inr (inl (refl, e)))));
      no_thread = root_no_thread tree checked.root is.ordered.is_root;
      threads = threads;
      few = few (cases_lt COMPONENTS (length paths));
      few_ports =
          λ more. is.silent 7 (TooMany (codes "ports"))
          (inr (inr (inr (codes "ports", inr (inr (inl (refl, refl, more))), refl))));
    }

    -- ---- the instance
    pub instance_is : (name : List ℕ) (shown : List ThreadAt) (links feeds taps : List Chain)
        → root_number tree name ≡ Some checked.root
        → shown ≡ map (thread_at tree checked.root) paths
        → AreShown tree checked.root paths (IsLink tree checked.root) TargetBefore links
        → AreShown tree checked.root paths (IsFeed tree checked.root) TargetBefore feeds
        → AreShown tree checked.root paths (IsTap tree checked.root) PortBefore taps
        → (i : IsInstance tree checked.root shown links feeds taps) × (i.name ≡ name)
    instance_is name shown links feeds taps root same l f t = (
      record {
        name = name;
        parts = record { root = checked.root; threads = paths; links = l.ends; feeds = f.ends; taps = t.ends };
        flat = record {
          sound = root_silent tree name checked.root root is.silent;
          root = root;
          threads = threads;
          links = l.listed;
          feeds = f.listed;
          taps = t.listed;
        };
        root_is = refl;
        threads_are = same;
        links_are = l.shown;
        feeds_are = f.shown;
        taps_are = t.shown;
      },
      refl,
    )

-- each path leads to an implementation
pub all_stand : (tree : PackageTree ℕ) (root : ℕ) (threads : List (Vec ℕ Global))
    → Lists (IsThreadAt tree root) PathBefore (paths_of threads)
    → All (λ path. IsSome (number_at_path tree root (reverse path.items))) threads
all_stand tree root threads l k d lt =
    let at = path_got threads k (get_or threads k d) (slice_get-get_or threads k d lt) in
    let there = stands tree root (reverse (get_or threads k d).items)
    (thread_listed tree root (paths_of threads) l k (reverse (get_or threads k d).items) at) in
    subst IsSome (sym there.1) refl
