-- The ends of connection chains in an instance model: the numbers of their threads, by paths, and of their ports.
use Rattle.std.proofs.Common.{◌≡◌, ◌⊎◌, inl, inr, ℕ, ◌+◌, ◌<◌, ◌≤◌, Bool, true, false, cond, ◌||◌, List, [], ◌∷◌}
use Rattle.std.proofs.Common.{length, map, reverse, take, slice_get, get_or, AllPairs, Option, Some, None, count_by}
use Rattle.std.proofs.Common.{Vec, Global, refl, sym, ap, subst, ◌∙◌, arith}
use Rattle.std.specs.Option.{option_and_then, option_map_or}
use Rattle.std.proofs.lemmas.Bool.{true≢false, cases_lt, false_from_ne_true}
use Rattle.std.proofs.lemmas.List.{take-map}
use Rattle.std.proofs.lemmas.List.Folds.{fold-map}
use Rattle.std.proofs.lemmas.Option.{none-some, slice_get-map, slice_get_read, slice_get_within, get_or_from_slice_get}
use Rattle.list_lemmas.proofs.ElementPositions.{position_from-at}
use Rattle.pals_base.specs.declared.limits.TheConstants.{PORTS}
use Rattle.pals_base.specs.declared.basic_types.NodeNo.{NodeNo}
use Rattle.aadl_tree.specs.declared.declarations.Feature as source
use Rattle.aadl_tree.specs.Declarations.{Feature, PackageTree}
use Rattle.aadl_tree.specs.proof.PlaceMaps.{kept_place}
use Rattle.aadl_tree.specs.proof.DeclarationViews.{feature_view}
use Rattle.aadl_uses.specs.ThreadsBelow.{path_before, IsThreadAt, PathBefore}
use Rattle.aadl_names.specs.NameResolution.{ports_at, ports_of, implementation_at}
use Rattle.aadl_uses.specs.ContainmentAndUse.{number_at_path, component_at}
use Rattle.aadl_uses.specs.ThreadLocations.{ThreadWith}
use Rattle.aadl_uses.proofs.PathOrder.{never_before}
use Rattle.aadl_chains.specs.proof.PortsJoinedInside.{is_thread_at}
use Rattle.aadl_chains.proofs.ConnectionsOnChains.{thread_from}
use Rattle.aadl_chains.proofs.SamePaths.{same_path-true, same_path-self}
use Rattle.aadl_chains.specs.LinksFeedsAndTaps.{same_path}
use Rattle.aadl_instance.specs.declared.chain.ChainEnd.TheVariants.{Thread}
use Rattle.aadl_instance.specs.proof.ChainsSoFar.{paths_of}
use Rattle.aadl_instance.specs.InstancesByNumbers.{same_direction, node_at, goes_as, number_among, port_number, end_in}

-- ---- the number of a thread
pub node_is : (paths : List (List ℕ)) (node : NodeNo) (path : List ℕ) → AllPairs PathBefore paths
    → slice_get paths node.0 ≡ Some path
    → node_at paths path ≡ node
node_is paths node path pairs at =
    ap (λ (o : Option ℕ). let n : NodeNo = record { 0 = option_map_or (λ k. k) o 0 } in n)
    (position_from-at (same_path path) paths 0 node.0 path at (same_path-self path)
    (λ j y lt e. false_from_ne_true (same_path path y) (λ t. other j y lt e (same_path-true path y t)))
    ∙ ap Some (omega arith))
  where
    other : (j : ℕ) (y : List ℕ) → j < node.0 → slice_get paths j ≡ Some y → path ≡ y → ⊥
    other j y lt e same =
        let before : PathBefore y path =
        subst (λ p. PathBefore p path) (get_or_from_slice_get paths j y [] e)
        (subst (PathBefore (get_or paths j [])) (get_or_from_slice_get paths node.0 path [] at)
        (pairs j node.0 [] lt (slice_get_within paths node.0 path at))) in
        let itself : path_before (reverse path) (reverse path) ≡ true =
        subst (λ p. PathBefore p path) (sym same) before in
        true≢false (sym itself ∙ never_before (reverse path))

-- ---- paths of threads
pub path_got : (threads : List (Vec ℕ Global)) (i : ℕ) (thread : Vec ℕ Global) → slice_get threads i ≡ Some thread
    → slice_get (paths_of threads) i ≡ Some (reverse thread.items)
path_got threads i thread e =
    let line : Vec ℕ Global → List ℕ = λ path. reverse path.items in
    slice_get-map line threads i
    ∙ ap (λ (o : Option (Vec ℕ Global)).
    elim o as (λ _. Option (List ℕ)) [ None ↦ None | Some t ↦ Some (line t) ]) e

pub path_at : (threads : List (Vec ℕ Global)) (i : ℕ) (thread : Vec ℕ Global) → i < length threads
    → thread ≡ get_or threads i thread
    → slice_get (paths_of threads) i ≡ Some (reverse thread.items)
path_at threads i thread lt e = path_got threads i thread (slice_get_read threads (length threads) i thread refl lt e)

-- ---- the number of a port
count_map : {X Y : Type 0} (f : X → Y) (test : Y → Bool) (xs : List X)
    → count_by test (map f xs) ≡ count_by (λ x. test (f x)) xs
count_map f test xs = fold-map (λ (n : ℕ) y. n + cond (test y) 1 0) f 0 xs

pub number_is : (ports : List source.Feature) (port : ℕ) (x : source.Feature) → slice_get ports port ≡ Some x
    → count_by (λ p. same_direction x.direction p.direction) (take port ports)
    ≡ number_among (map (feature_view kept_place) ports) port
number_is ports port x e =
    let view : source.Feature → Feature ℕ = feature_view kept_place in
    sym (
    ap (λ o. count_by (goes_as o) (take port (map view ports))) (slice_get-map view ports port
    ∙ ap (λ (o : Option source.Feature).
    elim o as (λ _. Option (Feature ℕ)) [ None ↦ None | Some y ↦ Some (view y) ]) e)
    ∙ (ap (count_by (goes_as (Some (view x)))) (take-map view port ports)
    ∙ count_map view (goes_as (Some (view x))) (take port ports))
    )

-- ---- ports of threads
module _ (tree : PackageTree ℕ) (root : ℕ) where
  pub thread_shown : (paths : List (List ℕ)) (path : List ℕ) (port : ℕ) → is_thread_at tree root ≡ false
      → IsThreadAt tree root path
      → Thread (node_at paths path) (port_number tree root (record { path = path; port = port }))
      ≡ end_in tree root paths (record { path = path; port = port })
  thread_shown paths [] port no_thread t = absurd (true≢false (sym (thread_from tree root [] root refl t) ∙ no_thread))
  thread_shown paths (s ∷ path) port no_thread t = refl

  pub stands : (path : List ℕ) → IsThreadAt tree root path → (n : ℕ) × (number_at_path tree root path ≡ Some n)
  stands path t = by (number_at_path tree root path) refl
    where
      by : (o : Option ℕ) → number_at_path tree root path ≡ o → (n : ℕ) × (number_at_path tree root path ≡ Some n)
      by None e = absurd (none-some t.0 (sym (ap (option_and_then (implementation_at tree)) e) ∙ t.1.0))
      by (Some n) e = (n, e)

  pub open_at : (path : List ℕ) (n : ℕ) → number_at_path tree root path ≡ Some n
      → component_at tree root path ≡ implementation_at tree n
  open_at path n e = ap (option_and_then (implementation_at tree)) e

  pub few_at : (path : List ℕ) (n : ℕ) → number_at_path tree root path ≡ Some n → IsThreadAt tree root path
      → (ThreadWith tree root (λ x p. PORTS < length (ports_of tree x)) → ⊥)
      → length (ports_at tree (implementation_at tree n)) ≤ PORTS
  few_at path n e t few = by (cases_lt PORTS (length (ports_of tree t.0)))
    where
      same : implementation_at tree n ≡ Some t.0
      same = sym (open_at path n e) ∙ t.1.0

      by : (PORTS < length (ports_of tree t.0)) ⊎ (length (ports_of tree t.0) ≤ PORTS)
          → length (ports_at tree (implementation_at tree n)) ≤ PORTS
      by (inl over) = absurd (few (path, t.0, t.1, over))
      by (inr le) = subst (λ o. length (ports_at tree o) ≤ PORTS) (sym same) le
