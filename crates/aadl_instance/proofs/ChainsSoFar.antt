-- The loops over threads and ports find all links, feeds and taps, in the order of their targets.
use Rattle.std.proofs.Common.{◌≡◌, ◌⊎◌, inl, inr, ℕ, ◌+◌, ◌<◌, ◌≤◌, true, false, ◌&&◌, ◌||◌, nat_lt, List, [], ◌∷◌}
use Rattle.std.proofs.Common.{◌++◌, length, reverse, slice_get, get_or, Contains, AllPairs, Some, refl, sym, ap, subst}
use Rattle.std.proofs.Common.{◌∙◌, arith}
use Rattle.std.proofs.lemmas.Bool.{true≢false, cases_order}
use Rattle.std.proofs.lemmas.Bool.Decides.{nat_tests}
use Rattle.std.proofs.lemmas.List.{map-append}
use Rattle.std.proofs.lemmas.Option.{same_Some, slice_get_within, get_or_from_slice_get}
use Rattle.std.proofs.Math.Bool.{or-true}
use Rattle.list_lemmas.proofs.ElementPositions.{slice_get-from_Contains}
use Rattle.aadl_uses.specs.ThreadsBelow.{path_before, Lists, IsThreadAt, PathBefore}
use Rattle.aadl_tree.specs.Declarations.{PackageTree}
use Rattle.aadl_names.specs.NameResolution.{ports_at, implementation_at}
use Rattle.aadl_uses.specs.ContainmentAndUse.{number_at_path, component_at}
use Rattle.aadl_chains.specs.proof.PortsJoinedInside.{is_thread_at}
use Rattle.aadl_chains.specs.Chains.{Port, is_in, IsEnd}
use Rattle.aadl_chains.proofs.ConnectionsOnChains.{thread_from}
use Rattle.aadl_chains.proofs.SamePaths.{same_path-self}
use Rattle.aadl_chains.specs.LinksFeedsAndTaps.{CarriedChain, IsLink, IsFeed, IsTap, same_path, TargetBefore}
use Rattle.aadl_chains.specs.LinksFeedsAndTaps.{PortBefore}
use Rattle.aadl_instance.specs.declared.chain.Chain.{Chain}
use Rattle.aadl_instance.specs.declared.chain_search.Incoming.{Incoming}
use Rattle.aadl_instance.specs.InstancesByNumbers.{chain_in}
use Rattle.aadl_instance.specs.proof.ChainsSoFar.{HasPort, AreShown, IsPassed, AreInto, AreTapsTo}
use Rattle.aadl_instance.proofs.OrderedLists.{lists_same, lists_more, lists_none}
use Rattle.aadl_instance.proofs.DeclaredEndPorts.{in_within, ends_there}
use Rattle.aadl_instance.proofs.ChainEndNumbers.{open_at}

-- ---- the ports so far
module _ (paths : List (List ℕ)) where
  none_passed : (to : Port) → IsPassed paths 0 0 to → ⊥
  none_passed to (inl h) = let lt = h.1 in absurd (omega arith)
  none_passed to (inr h) = let lt = h.1 in absurd (omega arith)

  thread_passed : (node port : ℕ) (to : Port) → IsPassed paths node port to → IsPassed paths (node + 1) 0 to
  thread_passed node port to (inl h) = let lt = h.1 in inl (h.0, omega arith, h.2)
  thread_passed node port to (inr h) = inl (node, omega arith, h.0)

  not_later : (node port : ℕ) (to : Port) → (slice_get paths node ≡ Some to.path → to.port < port) → (k : ℕ)
      → k < node + 1 → slice_get paths k ≡ Some to.path
      → (k ≡ node) ⊎ ((k < node) ⊎ (node < k)) → IsPassed paths node port to
  not_later node port to within k lt e (inl same) = let here = subst (λ i. slice_get paths i ≡ Some to.path) same e in
      inr (here, within here)
  not_later node port to within k lt e (inr (inl less)) = inl (k, less, e)
  not_later node port to within k lt e (inr (inr more)) = absurd (omega arith)

  passed_thread : (node port : ℕ) (to : Port) → (slice_get paths node ≡ Some to.path → to.port < port)
      → IsPassed paths (node + 1) 0 to
      → IsPassed paths node port to
  passed_thread node port to within (inl h) = not_later node port to within h.0 h.1 h.2 (cases_order h.0 node)
  passed_thread node port to within (inr h) = let lt = h.1 in absurd (omega arith)

  port_passed : (node port : ℕ) (to : Port) → IsPassed paths node port to → IsPassed paths node (port + 1) to
  port_passed node port to (inl h) = inl h
  port_passed node port to (inr h) = let lt = h.1 in inr (h.0, omega arith)

  module _ (node port : ℕ) (path : List ℕ) (at : slice_get paths node ≡ Some path) where
    this_passed : IsPassed paths node (port + 1) (record { path = path; port = port })
    this_passed = inr (at, omega arith)

    this_or : (to : Port) → slice_get paths node ≡ Some to.path → to.port < port + 1
        → (to.port ≡ port) ⊎ ((to.port < port) ⊎ (port < to.port))
        → IsPassed paths node port to ⊎ (to ≡ record { path = path; port = port })
    this_or to e lt (inl same) =
        let p : to.path ≡ path = same_Some to.path path (sym e ∙ at) in
        inr (ap (λ (q : List ℕ). record { path = q; port = to.port }) p
        ∙ ap (λ (k : ℕ). record { path = path; port = k }) same)
    this_or to e lt (inr (inl less)) = inl (inr (e, less))
    this_or to e lt (inr (inr more)) = absurd (omega arith)

    passed_port : (to : Port) → IsPassed paths node (port + 1) to
        → IsPassed paths node port to ⊎ (to ≡ record { path = path; port = port })
    passed_port to (inl h) = inl (inl h)
    passed_port to (inr h) = this_or to h.0 h.1 (cases_order to.port port)

  all_passed : (to : Port) → Contains paths to.path → IsPassed paths (length paths) 0 to
  all_passed to h = inl (h.0, h.1, slice_get-from_Contains paths to.path h)

-- ---- passed targets come first

first_before : (a b : CarriedChain) → PathBefore a.to.path b.to.path → TargetBefore a b
first_before a b e = ap (λ t. t || (same_path a.to.path b.to.path && nat_lt a.to.port b.to.port)) e

then_before : (a b : CarriedChain) → a.to.path ≡ b.to.path → a.to.port < b.to.port → TargetBefore a b
then_before a b e lt =
    let same : same_path a.to.path b.to.path ≡ true =
    subst (λ q. same_path a.to.path q ≡ true) e (same_path-self a.to.path) in
    let less : nat_lt a.to.port b.to.port ≡ true = grind (arith, nat_tests) in
    ap (λ t. path_before (reverse a.to.path) (reverse b.to.path) || (t && nat_lt a.to.port b.to.port)) same
    ∙ (ap (λ t. path_before (reverse a.to.path) (reverse b.to.path) || t) less
    ∙ or-true (path_before (reverse a.to.path) (reverse b.to.path)))

before_by : (paths : List (List ℕ)) (node port : ℕ) → AllPairs PathBefore paths → (a b : CarriedChain)
    → slice_get paths node ≡ Some b.to.path → b.to.port ≡ port
    → IsPassed paths node port a.to → TargetBefore a b
before_by paths node port pairs a b at is (inl h) =
    first_before a b
    (subst (λ p. PathBefore p b.to.path) (get_or_from_slice_get paths h.0 a.to.path [] h.2)
    (subst (PathBefore (get_or paths h.0 [])) (get_or_from_slice_get paths node b.to.path [] at)
    (pairs h.0 node [] h.1 (slice_get_within paths node b.to.path at))))
before_by paths node port pairs a b at is (inr h) = let lt = h.1 in
    then_before a b (same_Some a.to.path b.to.path (sym h.0 ∙ at)) (omega arith)

pub thread_listed : (tree : PackageTree ℕ) (root : ℕ) (paths : List (List ℕ))
    → Lists (IsThreadAt tree root) PathBefore paths → (node : ℕ) (path : List ℕ)
    → slice_get paths node ≡ Some path → IsThreadAt tree root path
thread_listed tree root paths threads node path at =
    subst (IsThreadAt tree root) (get_or_from_slice_get paths node path [] at)
    (threads.each node [] (slice_get_within paths node path at))

pub not_root : (tree : PackageTree ℕ) (root : ℕ) → is_thread_at tree root ≡ false → IsThreadAt tree root [] → ⊥
not_root tree root no_thread t = true≢false (sym (thread_from tree root [] root refl t) ∙ no_thread)

-- ---- shown lists
module _ (tree : PackageTree ℕ) (root : ℕ) (paths : List (List ℕ)) where
  module _ (P Q : CarriedChain → Type 0) (Before : CarriedChain → CarriedChain → Type 0) where
    shown_same : (chains : List Chain) → ((x : CarriedChain) → P x → Q x) → ((x : CarriedChain) → Q x → P x)
        → AreShown tree root paths P Before chains
        → AreShown tree root paths Q Before chains
    shown_same chains to from s =
        record { ends = s.ends; listed = lists_same P Q Before s.ends to from s.listed; shown = s.shown }

    shown_more : (chains : List Chain) (y : CarriedChain) → ((x : CarriedChain) → P x → Q x) → Q y
        → ((x : CarriedChain) → Q x → P x ⊎ (y ≡ x))
        → ((x : CarriedChain) → P x → Before x y)
        → AreShown tree root paths P Before chains
        → AreShown tree root paths Q Before (chains ++ chain_in tree root paths y ∷ [])
    shown_more chains y to here cases before s = record {
      ends = s.ends ++ y ∷ [];
      listed = lists_more P Q Before s.ends y to here cases before s.listed;
      shown =
          ap (λ (l : List Chain). l ++ chain_in tree root paths y ∷ []) s.shown
          ∙ sym (map-append (chain_in tree root paths) s.ends (y ∷ []));
    }

  shown_none : (P : CarriedChain → Type 0) (Before : CarriedChain → CarriedChain → Type 0)
      → ((x : CarriedChain) → P x → ⊥)
      → AreShown tree root paths P Before []
  shown_none P Before none = record { ends = []; listed = lists_none P Before none; shown = refl }

  -- ---- links and feeds
  module _ (no_thread : is_thread_at tree root ≡ false) where
    pub in_by : (p : Port) → IsThreadAt tree root p.path → IsEnd tree root p → is_in tree root p ≡ true
    in_by p t (inl h) = h.1
    in_by p t (inr h) = absurd (not_root tree root no_thread (subst (IsThreadAt tree root) h.0 t))

    enters_in : (x : CarriedChain) → IsLink tree root x ⊎ IsFeed tree root x → is_in tree root x.to ≡ true
    enters_in x (inl h) = in_by x.to h.3 h.1.ends
    enters_in x (inr h) = in_by x.to h.3 h.1.ends

    not_link_and_feed : (x : CarriedChain) → IsLink tree root x → IsFeed tree root x → ⊥
    not_link_and_feed x l f = not_root tree root no_thread (subst (IsThreadAt tree root) f.2 l.2)

    into_none : AreInto tree root paths 0 0 (record { links = []; feeds = [] })
    into_none = record {
      links =
          shown_none (λ x. IsLink tree root x × IsPassed paths 0 0 x.to) TargetBefore
          (λ x h. none_passed paths x.to h.1);
      feeds =
          shown_none (λ x. IsFeed tree root x × IsPassed paths 0 0 x.to) TargetBefore
          (λ x h. none_passed paths x.to h.1);
    }

    pub into_start : (incoming : Incoming) → incoming.links ≡ [] → incoming.feeds ≡ []
        → AreInto tree root paths 0 0 incoming
    into_start incoming e f = record {
      links =
          subst (AreShown tree root paths (λ x. IsLink tree root x × IsPassed paths 0 0 x.to) TargetBefore) (sym e)
          (into_none.links);
      feeds =
          subst (AreShown tree root paths (λ x. IsFeed tree root x × IsPassed paths 0 0 x.to) TargetBefore) (sym f)
          (into_none.feeds);
    }

    -- all ports of a thread are passed
    pub into_thread : (node port n : ℕ) (path : List ℕ) (incoming : Incoming) → slice_get paths node ≡ Some path
        → number_at_path tree root path ≡ Some n
        → length (ports_at tree (implementation_at tree n)) ≤ port → AreInto tree root paths node port incoming
        → AreInto tree root paths (node + 1) 0 incoming
    into_thread node port n path incoming at stands all i = record {
      links =
          shown_same (λ x. IsLink tree root x × IsPassed paths node port x.to)
          (λ x. IsLink tree root x × IsPassed paths (node + 1) 0 x.to) TargetBefore
          incoming.links
          (λ x h. (h.0, thread_passed paths node port x.to h.1))
          (λ x h. (h.0, passed_thread paths node port x.to (λ e. within x (inl h.0) e) h.1))
          i.links;
      feeds =
          shown_same (λ x. IsFeed tree root x × IsPassed paths node port x.to)
          (λ x. IsFeed tree root x × IsPassed paths (node + 1) 0 x.to) TargetBefore
          incoming.feeds
          (λ x h. (h.0, thread_passed paths node port x.to h.1))
          (λ x h. (h.0, passed_thread paths node port x.to (λ e. within x (inr h.0) e) h.1))
          i.feeds;
    }
      where
        here : (p : List ℕ) → slice_get paths node ≡ Some p → component_at tree root p ≡ implementation_at tree n
        here p e =
            subst (λ q. component_at tree root q ≡ implementation_at tree n) (same_Some path p (sym at ∙ e))
            (open_at tree root path n stands)

        within : (x : CarriedChain) → IsLink tree root x ⊎ IsFeed tree root x → slice_get paths node ≡ Some x.to.path
            → x.to.port < port
        within x k e =
            let lt = in_within (ports_at tree (component_at tree root x.to.path)) x.to.port (enters_in x k) in
            let inside : x.to.port < length (ports_at tree (implementation_at tree n)) =
            subst (λ o. x.to.port < length (ports_at tree o)) (here x.to.path e) lt in
            omega arith

    module _ (node port : ℕ) (path : List ℕ) (at : slice_get paths node ≡ Some path)
        (pairs : AllPairs PathBefore paths) where
      to : Port
      to = record { path = path; port = port }

      -- no chain of a kind leads into the port
      module _ (Kind : CarriedChain → Type 0)
          (none : (x : CarriedChain) → Kind x → x.to ≡ record { path = path; port = port } → ⊥) where
        still : (x : CarriedChain) → Kind x → IsPassed paths node port x.to
            ⊎ (x.to ≡ record { path = path; port = port })
            → IsPassed paths node port x.to
        still x k (inl h) = h
        still x k (inr e) = absurd (none x k e)

        shown_skip : (chains : List Chain)
            → AreShown tree root paths (λ x. Kind x × IsPassed paths node port x.to) TargetBefore chains
            → AreShown tree root paths (λ x. Kind x × IsPassed paths node (port + 1) x.to) TargetBefore chains
        shown_skip chains s =
            shown_same (λ x. Kind x × IsPassed paths node port x.to) (λ x. Kind x × IsPassed paths node (port + 1) x.to)
            TargetBefore chains
            (λ x h. (h.0, port_passed paths node port x.to h.1))
            (λ x h. (h.0, still x h.0 (passed_port paths node port path at x.to h.1))) s

      -- one chain does
      module _ (Kind : CarriedChain → Type 0) (one : CarriedChain) (is : Kind one)
          (there : one.to ≡ record { path = path; port = port })
          (only : (x : CarriedChain) → Kind x → x.to ≡ record { path = path; port = port } → one ≡ x) where
        or_one : (x : CarriedChain) → Kind x → IsPassed paths node port x.to
            ⊎ (x.to ≡ record { path = path; port = port })
            → (Kind x × IsPassed paths node port x.to) ⊎ (one ≡ x)
        or_one x k (inl h) = inl (k, h)
        or_one x k (inr e) = inr (only x k e)

        shown_one : (chains : List Chain)
            → AreShown tree root paths (λ x. Kind x × IsPassed paths node port x.to) TargetBefore chains
            → AreShown tree root paths (λ x. Kind x × IsPassed paths node (port + 1) x.to) TargetBefore
            (chains ++ chain_in tree root paths one ∷ [])
        shown_one chains s =
            shown_more (λ x. Kind x × IsPassed paths node port x.to) (λ x. Kind x × IsPassed paths node (port + 1) x.to)
            TargetBefore chains one
            (λ x h. (h.0, port_passed paths node port x.to h.1))
            (is, subst (IsPassed paths node (port + 1)) (sym there) (this_passed paths node port path at))
            (λ x h. or_one x h.0 (passed_port paths node port path at x.to h.1))
            (λ x h. before_by paths node port pairs x one
            (subst (λ (q : Port). slice_get paths node ≡ Some q.path) (sym there) at)
            (ap (λ (q : Port). q.port) there) h.1)
            s

      pub into_skip : (incoming : Incoming)
          → ((x : CarriedChain) → IsLink tree root x ⊎ IsFeed tree root x → x.to ≡ record { path = path; port = port }
          → ⊥)
          → AreInto tree root paths node port incoming → AreInto tree root paths node (port + 1) incoming
      into_skip incoming none i = record {
        links = shown_skip (IsLink tree root) (λ x k e. none x (inl k) e) incoming.links i.links;
        feeds = shown_skip (IsFeed tree root) (λ x k e. none x (inr k) e) incoming.feeds i.feeds;
      }

      module _ (one : CarriedChain) (there : one.to ≡ record { path = path; port = port })
          (only : (x : CarriedChain) → IsLink tree root x ⊎ IsFeed tree root x
          → x.to ≡ record { path = path; port = port }
          → x ≡ one) where
        pub into_link : (incoming : Incoming) → IsLink tree root one → AreInto tree root paths node port incoming
            → AreInto tree root paths node (port + 1)
            (record incoming { links = incoming.links ++ chain_in tree root paths one ∷ [] })
        into_link incoming is i = record {
          links = shown_one (IsLink tree root) one is there (λ x k e. sym (only x (inl k) e)) incoming.links i.links;
          feeds =
              shown_skip (IsFeed tree root)
              (λ x k e. not_link_and_feed one is (subst (IsFeed tree root) (only x (inr k) e) k))
              incoming.feeds i.feeds;
        }

        pub into_feed : (incoming : Incoming) → IsFeed tree root one → AreInto tree root paths node port incoming
            → AreInto tree root paths node (port + 1)
            (record incoming { feeds = incoming.feeds ++ chain_in tree root paths one ∷ [] })
        into_feed incoming is i = record {
          links =
              shown_skip (IsLink tree root)
              (λ x k e. not_link_and_feed one (subst (IsLink tree root) (only x (inl k) e) k) is)
              incoming.links i.links;
          feeds = shown_one (IsFeed tree root) one is there (λ x k e. sym (only x (inr k) e)) incoming.feeds i.feeds;
        }

    -- all threads are passed
    module _ (node : ℕ) (all : length paths ≤ node) (threads : Lists (IsThreadAt tree root) PathBefore paths) where
      whole : (Kind : CarriedChain → Type 0) (chains : List Chain)
          → ((x : CarriedChain) → Kind x → IsThreadAt tree root x.to.path)
          → AreShown tree root paths (λ x. Kind x × IsPassed paths node 0 x.to) TargetBefore chains
          → AreShown tree root paths Kind TargetBefore chains
      whole Kind chains is s =
          shown_same (λ x. Kind x × IsPassed paths node 0 x.to) Kind TargetBefore chains (λ x h. h.0)
          (λ x k. (k, reached x (threads.complete x.to.path (is x k)))) s
        where
          reached : (x : CarriedChain) → Contains paths x.to.path → IsPassed paths node 0 x.to
          reached x h = let lt = h.1 in inl (h.0, omega arith, slice_get-from_Contains paths x.to.path h)

      pub links_whole : (incoming : Incoming) → AreInto tree root paths node 0 incoming
          → AreShown tree root paths (IsLink tree root) TargetBefore incoming.links
      links_whole incoming i = whole (IsLink tree root) incoming.links (λ x k. k.3) i.links

      pub feeds_whole : (incoming : Incoming) → AreInto tree root paths node 0 incoming
          → AreShown tree root paths (IsFeed tree root) TargetBefore incoming.feeds
      feeds_whole incoming i = whole (IsFeed tree root) incoming.feeds (λ x k. k.3) i.feeds

  -- ---- taps
  pub taps_none : AreTapsTo tree root paths 0 []
  taps_none =
      shown_none (λ x. IsTap tree root x × (x.to.port < 0)) PortBefore (λ x h. let lt = h.1 in absurd (omega arith))

  lower_or : (port : ℕ) (x : CarriedChain) → x.to.path ≡ [] → x.to.port < port + 1
      → (x.to.port ≡ port) ⊎ ((x.to.port < port) ⊎ (port < x.to.port))
      → (x.to.port < port) ⊎ (x.to ≡ record { path = []; port = port })
  lower_or port x e lt (inl same) =
      inr (ap (λ (q : List ℕ). record { path = q; port = x.to.port }) e
      ∙ ap (λ (k : ℕ). record { path = []; port = k }) same)
  lower_or port x e lt (inr (inl less)) = inl less
  lower_or port x e lt (inr (inr more)) = absurd (omega arith)

  module _ (port : ℕ) where
    pub taps_skip : (taps : List Chain)
        → ((x : CarriedChain) → IsTap tree root x → x.to ≡ record { path = []; port = port } → ⊥)
        → AreTapsTo tree root paths port taps → AreTapsTo tree root paths (port + 1) taps
    taps_skip taps none s =
        shown_same (λ x. IsTap tree root x × (x.to.port < port)) (λ x. IsTap tree root x × (x.to.port < port + 1))
        PortBefore taps
        (λ x h. let lt = h.1 in (h.0, omega arith))
        (λ x h. (h.0, by x h.0 (lower_or port x h.0.3 h.1 (cases_order x.to.port port)))) s
      where
        by : (x : CarriedChain) → IsTap tree root x → (x.to.port < port) ⊎ (x.to ≡ record { path = []; port = port })
            → x.to.port < port
        by x t (inl less) = less
        by x t (inr e) = absurd (none x t e)

    pub taps_more : (taps : List Chain) (one : CarriedChain) → IsTap tree root one
        → one.to ≡ record { path = []; port = port }
        → ((x : CarriedChain) → IsTap tree root x → x.to ≡ record { path = []; port = port } → x ≡ one)
        → AreTapsTo tree root paths port taps
        → AreTapsTo tree root paths (port + 1) (taps ++ chain_in tree root paths one ∷ [])
    taps_more taps one is there only s =
        shown_more (λ x. IsTap tree root x × (x.to.port < port)) (λ x. IsTap tree root x × (x.to.port < port + 1))
        PortBefore taps one
        (λ x h. let lt = h.1 in (h.0, omega arith)) (is, here)
        (λ x h. by x h.0 (lower_or port x h.0.3 h.1 (cases_order x.to.port port)))
        (λ x h. less x h.1) s
      where
        at : one.to.port ≡ port
        at = ap (λ (q : Port). q.port) there

        here : one.to.port < port + 1
        here = let e = at in omega arith

        less : (x : CarriedChain) → x.to.port < port → PortBefore x one
        less x lt = let e = at in let before : x.to.port < one.to.port = omega arith in grind (arith, nat_tests)

        by : (x : CarriedChain) → IsTap tree root x → (x.to.port < port) ⊎ (x.to ≡ record { path = []; port = port })
            → (IsTap tree root x × (x.to.port < port)) ⊎ (one ≡ x)
        by x t (inl lt) = inl (t, lt)
        by x t (inr e) = inr (sym (only x t e))

    pub taps_whole : (taps : List Chain) → length (ports_at tree (implementation_at tree root)) ≤ port
        → AreTapsTo tree root paths port taps
        → AreShown tree root paths (IsTap tree root) PortBefore taps
    taps_whole taps all s =
        shown_same (λ x. IsTap tree root x × (x.to.port < port)) (IsTap tree root) PortBefore taps (λ x h. h.0)
        (λ x t. (t, within x t)) s
      where
        within : (x : CarriedChain) → IsTap tree root x → x.to.port < port
        within x t =
            let there : HasPort tree root x.to = ends_there tree root t.0 t.4.place x.from x.to t.4.among t.1.leads in
            let lt : x.to.port < length (ports_at tree (component_at tree root [])) =
            subst (λ q. x.to.port < length (ports_at tree (component_at tree root q))) t.3 there in
            omega arith
