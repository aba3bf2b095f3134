-- The chain that a backward trace finds is added to the chains found before it. For the functions of `chain_search`
-- that add chains and taps.
use Rattle.std.proofs.Common.{◌≡◌, ◌⊎◌, inl, inr, ℕ, ◌+◌, true, false, List, [], ◌∷◌, ◌++◌, slice_get, AllPairs, Some}
use Rattle.std.proofs.Common.{None, refl, sym, ap, subst, ◌∙◌}
use Rattle.std.proofs.lemmas.Bool.{true≢false}
use Rattle.aadl_tree.specs.Declarations.{PackageTree}
use Rattle.aadl_uses.specs.ThreadsBelow.{IsThreadAt, PathBefore}
use Rattle.aadl_chains.specs.proof.PortsJoinedInside.{is_thread_at}
use Rattle.aadl_chains.specs.Chains.{Port, is_in, IsEnd}
use Rattle.aadl_chains.specs.LinksFeedsAndTaps.{CarriedChain, IsLink, IsFeed, IsTap}
use Rattle.aadl_chains.specs.declared.chain_tracing.ChainStart.{ChainStart}
use Rattle.aadl_chains.specs.declared.chain_tracing.ChainStart.TheVariants as begins
use Rattle.aadl_chains.specs.declared.chain_tracing.ChainRoute.{ChainRoute}
use Rattle.aadl_chains.specs.proof.TracedChains.{begin_port, carried_chain, IsOfKind, IsRoute, IsTapRoute, Traces}
use Rattle.aadl_chains.specs.proof.TracedChains.{TracesTap}
use Rattle.aadl_instance.specs.declared.chain.Chain.{Chain}
use Rattle.aadl_instance.specs.declared.chain_search.Incoming.{Incoming}
use Rattle.aadl_instance.specs.InstancesByNumbers.{chain_in}
use Rattle.aadl_instance.specs.proof.ChainsSoFar.{HasPort, IsChainStart, AreInto, AreTapsTo, with_chain}
use Rattle.aadl_instance.proofs.DeclaredEndPorts.{begins_there}
use Rattle.aadl_instance.proofs.ChainsSoFar.{into_skip, into_link, into_feed, in_by, taps_more, taps_skip, not_root}

module _ (tree : PackageTree ℕ) (root : ℕ) where
  -- ---- the first ports of routes
  begins_of : (begin : ChainStart) (ends : CarriedChain) → ends.from ≡ begin_port begin → IsOfKind tree root begin ends
      → IsChainStart tree root begin
  begins_of (begins.Root port) ends e f =
      subst (HasPort tree root) e (begins_there tree root f.0 f.4.place ends.from ends.to f.4.among f.1.leads)
  begins_of (begins.Thread path port) ends e l = (
    subst (λ (p : Port). IsThreadAt tree root p.path) e l.2,
    subst (HasPort tree root) e (begins_there tree root l.0 l.4.place ends.from ends.to l.4.among l.1.leads),
  )

  pub route_begins : (to : Port) (route : ChainRoute) → IsRoute tree root to route → IsChainStart tree root route.begin
  route_begins to route r = begins_of route.begin (carried_chain to route) refl r.kind

  tap_begins_of : (begin : ChainStart) (ends : CarriedChain) → ends.from ≡ begin_port begin → IsTap tree root ends
      → IsChainStart tree root begin
  tap_begins_of (begins.Root port) ends e t =
      subst (HasPort tree root) e (begins_there tree root t.0 t.4.place ends.from ends.to t.4.among t.1.leads)
  tap_begins_of (begins.Thread path port) ends e t = (
    subst (λ (p : Port). IsThreadAt tree root p.path) e t.2,
    subst (HasPort tree root) e (begins_there tree root t.0 t.4.place ends.from ends.to t.4.among t.1.leads),
  )

  pub tap_begins : (to : Port) (route : ChainRoute) → IsTapRoute tree root to route → IsChainStart tree root route.begin
  tap_begins to route r = tap_begins_of route.begin (carried_chain to route) refl r.is_tap

  -- ---- links and feeds
  module _ (no_thread : is_thread_at tree root ≡ false) (paths : List (List ℕ)) (pairs : AllPairs PathBefore paths)
      (node port : ℕ) (path : List ℕ)
      (at : slice_get paths node ≡ Some path) where
    added_by : (begin : ChainStart) (one : CarriedChain) (incoming : Incoming)
        → one.to ≡ record { path = path; port = port }
        → IsOfKind tree root begin one
        → ((x : CarriedChain) → IsLink tree root x ⊎ IsFeed tree root x → x.to ≡ record { path = path; port = port }
        → x ≡ one)
        → AreInto tree root paths node port incoming
        → AreInto tree root paths node (port + 1) (with_chain incoming begin (chain_in tree root paths one))
    added_by (begins.Root p) one incoming there kind only i =
        into_feed tree root paths no_thread node port path at pairs one there only incoming kind i
    added_by (begins.Thread q p) one incoming there kind only i =
        into_link tree root paths no_thread node port path at pairs one there only incoming kind i

    pub route_added : (route : ChainRoute) (chain : Chain) (old new : Incoming)
        → IsRoute tree root (record { path = path; port = port }) route
        → chain ≡ chain_in tree root paths (carried_chain (record { path = path; port = port }) route)
        → new ≡ with_chain old route.begin chain
        → AreInto tree root paths node port old → AreInto tree root paths node (port + 1) new
    route_added route chain old new r is added i =
        let to : Port = record { path = path; port = port } in
        subst (AreInto tree root paths node (port + 1)) (sym (added ∙ ap (with_chain old route.begin) is))
        (added_by route.begin (carried_chain to route) old refl r.kind r.only i)

    pub none_added : (incoming : Incoming) → Traces tree root (record { path = path; port = port }) None
        → AreInto tree root paths node port incoming → AreInto tree root paths node (port + 1) incoming
    none_added incoming none i = into_skip tree root paths no_thread node port path at pairs incoming none i

    pub out_added : (incoming : Incoming) → IsThreadAt tree root path
        → is_in tree root (record { path = path; port = port }) ≡ false
        → AreInto tree root paths node port incoming → AreInto tree root paths node (port + 1) incoming
    out_added incoming thread out i = into_skip tree root paths no_thread node port path at pairs incoming never i
      where
        not_in : (x : CarriedChain) → x.to ≡ record { path = path; port = port } → IsThreadAt tree root x.to.path
            → IsEnd tree root x.to → ⊥
        not_in x e t end =
            true≢false (sym (in_by tree root paths no_thread x.to t end) ∙ (ap (is_in tree root) e ∙ out))

        never : (x : CarriedChain) → IsLink tree root x ⊎ IsFeed tree root x
            → x.to ≡ record { path = path; port = port } → ⊥
        never x (inl l) e = not_in x e l.3 l.1.ends
        never x (inr f) e = not_in x e f.3 f.1.ends

  -- ---- taps
  module _ (paths : List (List ℕ)) (port : ℕ) where
    pub tap_added : (route : ChainRoute) (chain : Chain) (old new : List Chain)
        → IsTapRoute tree root (record { path = []; port = port }) route
        → chain ≡ chain_in tree root paths (carried_chain (record { path = []; port = port }) route)
        → new ≡ old ++ chain ∷ []
        → AreTapsTo tree root paths port old → AreTapsTo tree root paths (port + 1) new
    tap_added route chain old new r is added t =
        let to : Port = record { path = []; port = port } in
        subst (AreTapsTo tree root paths (port + 1)) (sym (added ∙ ap (λ (x : Chain). old ++ x ∷ []) is))
        (taps_more tree root paths port old (carried_chain to route) r.is_tap refl r.only t)

    pub no_tap : (taps : List Chain) → TracesTap tree root (record { path = []; port = port }) None
        → AreTapsTo tree root paths port taps → AreTapsTo tree root paths (port + 1) taps
    no_tap taps none t = taps_skip tree root paths port taps none t

    pub in_tap : (no_thread : is_thread_at tree root ≡ false) (taps : List Chain)
        → is_in tree root (record { path = []; port = port }) ≡ true
        → AreTapsTo tree root paths port taps → AreTapsTo tree root paths (port + 1) taps
    in_tap no_thread taps goes t = taps_skip tree root paths port taps (λ x tap e. by x e tap.1.ends tap.3) t
      where
        by : (x : CarriedChain) → x.to ≡ record { path = []; port = port } → IsEnd tree root x.to → x.to.path ≡ [] → ⊥
        by x e (inl h) at = not_root tree root no_thread (subst (IsThreadAt tree root) at h.0)
        by x e (inr h) at = true≢false (sym (ap (is_in tree root) e ∙ goes) ∙ h.1)
