-- The backward trace finds the only chain to a port.
use Rattle.std.proofs.Common.{◌≡◌, ◌⊎◌, inl, inr, ℕ, true, false, List, [], ◌∷◌, ◌++◌, reverse, Some, None, refl, sym}
use Rattle.std.proofs.Common.{ap, subst, ◌∙◌}
use Rattle.std.proofs.lemmas.List.{reverse-append}
use Rattle.std.proofs.lemmas.Option.{same_Some, none-some}
use Rattle.list_lemmas.proofs.Booleans.{opposed}
use Rattle.aadl_tree.specs.Declarations.{PackageTree}
use Rattle.aadl_names.specs.declared.numbered_port.NumberedPort.{NumberedPort}
use Rattle.aadl_names.specs.declared.numbered_port.NumberedPort.TheVariants.{Own, Inner}
use Rattle.aadl_uses.specs.ContainmentAndUse.{below, number_at_path}
use Rattle.aadl_uses.specs.ThreadsBelow.{IsThreadAt}
use Rattle.aadl_uses.specs.proof.IncomingConnections.{connection_into}
use Rattle.aadl_chains.specs.proof.PortsJoinedInside.{is_thread_at, is_in_at}
use Rattle.aadl_chains.specs.Chains.{Port, ConnectionAt, Goes, Leads, is_in, IsStart}
use Rattle.aadl_chains.specs.proof.PermittedConnections.{ArePermitted}
use Rattle.aadl_chains.proofs.ConnectionsOnChains.{next_at, is_in-at, thread_from}
use Rattle.aadl_chains.specs.declared.chain_tracing.ChainStart.{ChainStart}
use Rattle.aadl_chains.specs.declared.chain_tracing.ChainStart.TheVariants as begins
use Rattle.aadl_chains.specs.declared.chain_tracing.ChainRoute.{ChainRoute}
use Rattle.aadl_chains.specs.proof.TracedChains.{Passes, carried_chain, IsGiver, Descends, Traces, TracesTap}
use Rattle.aadl_chains.specs.proof.UpwardWalks.{Crossing, nowhere, at_root, crosses, walk_back, OneEach, IsThreadPort}
use Rattle.aadl_chains.specs.LinksFeedsAndTaps.{CarriedChain, IsLink, IsFeed, IsTap}
use Rattle.aadl_chains.proofs.UniqueIncomingChains.{passes_end, passes_before, only_start, no_chain}
use Rattle.aadl_chains.proofs.FirstIncomingConnections.{entered, goes_into, into_of_goes, inner_of}
use Rattle.aadl_chains.proofs.WalksOfChains.{into_own}
use Rattle.aadl_chains.proofs.CarriedChainsByWalks.{link_from, feed_from, tap_from, LinkMet, link_met, FeedMet}
use Rattle.aadl_chains.proofs.CarriedChainsByWalks.{feed_met}
use Rattle.aadl_chains.proofs.CarriedChainsByWalks.{TapMet, tap_met}
use Rattle.aadl_chains.proofs.FaultlessConnections.{sound_by}

pub ends_by : (a b : CarriedChain) → a.from ≡ b.from → a.to ≡ b.to → a.declaration ≡ b.declaration
    → a.connection ≡ b.connection → a ≡ b
ends_by a b e f g h i = record { from = e i; to = f i; declaration = g i; connection = h i }

-- the downward trace is at an out port of the implementation at the end of a path
pub record Descending (tree : PackageTree ℕ) (root : ℕ) (end : Port) (path : List ℕ) (here out : ℕ) : Type 0 where
  pub stands : number_at_path tree root (reverse path) ≡ Some here
  pub goes_out : is_in_at tree here out ≡ false
  pub passes : Passes tree root (record { path = reverse path; port = out }) end

module _ (tree : PackageTree ℕ) (root : ℕ) (sound : ArePermitted tree) (one : OneEach tree root) where
  -- ---- down
  pub descend_first : (path : List ℕ) (here out : ℕ) → number_at_path tree root (reverse path) ≡ Some here
      → is_in_at tree here out ≡ false
      → Descending tree root (record { path = reverse path; port = out }) path here out
  descend_first path here out stands goes_out = record {
    stands = stands;
    goes_out = goes_out;
    passes = passes_end tree root (record { path = reverse path; port = out });
  }

  pub descend_more : (end : Port) (path : List ℕ) (here out k s p m : ℕ)
      → connection_into tree here (Own out) ≡ Some (k, Inner s p) → below tree here s ≡ Some m
      → Descending tree root end path here out → Descending tree root end (path ++ s ∷ []) m p
  descend_more end path here out k s p m e b d =
      let x = entered tree here (Own out) (k, Inner s p) e in
      let i = inner_of tree sound here out k (Inner s p) d.goes_out e in
      let sub : s ≡ i.0 = same_sub s p i.0 i.1 i.3 in
      let port : p ≡ i.1 = same_port s p i.0 i.1 i.3 in
      let number : i.2 ≡ m = same_Some i.2 m (sym i.4 ∙ (ap (below tree here) (sym sub) ∙ b)) in
      let turned : s ∷ reverse path ≡ reverse (path ++ s ∷ []) = sym (reverse-append path (s ∷ [])) in
      let g = (goes_into tree root (reverse path) here (Own out) k (Inner s p) d.stands x).0 in
      record {
        stands = ap (number_at_path tree root) (sym turned) ∙ next_at tree root (reverse path) here s m d.stands b;
        goes_out = ap (λ n. is_in_at tree n p) (sym number) ∙ (ap (is_in_at tree i.2) port ∙ i.5);
        passes = subst (λ l. Passes tree root (record { path = l; port = p }) end) turned
            (passes_before tree root (sound_by tree root sound one) (record { path = reverse path; connection = k })
            (record { path = s ∷ reverse path; port = p }) (record { path = reverse path; port = out }) end g d.passes);
      }
    where
      same_sub : (s p t q : ℕ) → Inner s p ≡ Inner t q → s ≡ t
      same_sub s p t q e = cc e

      same_port : (s p t q : ℕ) → Inner s p ≡ Inner t q → p ≡ q
      same_port s p t q e = cc e

  pub descend_thread : (end : Port) (path : List ℕ) (here out : ℕ) → is_thread_at tree here ≡ true
      → IsThreadAt tree root (reverse path)
      → Descending tree root end path here out → IsGiver tree root end (record { path = reverse path; port = out })
  descend_thread end path here out thread there d =
      let at : Port = record { path = reverse path; port = out } in
      let goes_out : is_in tree root at ≡ false = is_in-at tree root at here d.stands ∙ d.goes_out in
      record {
        thread = there;
        out = goes_out;
        chain = d.passes.chain;
        leads = d.passes.leads;
        only =
            λ cs other start leads. only_start tree root (sound_by tree root sound one) at end other d.passes
            (inl (there, goes_out)) start cs leads;
      }

  pub descend_none : (end : Port) (path : List ℕ) (here out : ℕ) → is_thread_at tree here ≡ false
      → connection_into tree here (Own out) ≡ None
      → Descending tree root end path here out → (cs : List ConnectionAt) (from : Port) → IsStart tree root from
      → Leads tree root cs from end → ⊥
  descend_none end path here out no_thread none d cs from start leads =
      no_chain tree root at end from d.passes never (λ place before g. no_connection place before g) start cs leads
    where
      at : Port
      at = record { path = reverse path; port = out }

      never : IsStart tree root at → ⊥
      never (inl s) =
          opposed (is_thread_at tree here) (thread_from tree root (reverse path) here d.stands s.0) no_thread
      never (inr s) = opposed (is_in tree root at) s.1 (is_in-at tree root at here d.stands ∙ d.goes_out)

      no_connection : (place : ConnectionAt) (before : Port) → Goes tree root place before at → ⊥
      no_connection place before g =
          let o = into_own tree root sound place before at g g.target refl here d.stands d.goes_out in
          let port : out ≡ o.0 = ap (λ (p : Port). p.port) o.2 in
          let i : connection_into tree here (Own out) ≡ Some (place.connection, g.source) =
          ap (connection_into tree here) (ap Own port ∙ sym o.1)
          ∙ (ap (λ n. connection_into tree n g.target) o.3 ∙ into_of_goes tree root one place before at g) in
          none-some (place.connection, g.source) (sym none ∙ i)

  -- ---- links and feeds
  module _ (no_thread : is_thread_at tree root ≡ false) (to : Port) where
    met_link : (ends : CarriedChain) → IsLink tree root ends → ends.to ≡ to
        → (m : LinkMet tree root sound one no_thread ends)
        × (walk_back tree root None to.path to.port ≡ crosses m.crossing)
    met_link ends l e =
        let m = link_met tree root sound one no_thread ends l in
        (m, ap (λ (p : Port). walk_back tree root None p.path p.port) (sym e) ∙ m.climbs)

    met_feed : (ends : CarriedChain) → IsFeed tree root ends → ends.to ≡ to
        → (m : FeedMet tree root sound one no_thread ends)
        × (walk_back tree root None to.path to.port ≡ at_root (Some m.connection) ends.from.port)
    met_feed ends l e =
        let m = feed_met tree root sound one no_thread ends l in
        (m, ap (λ (p : Port). walk_back tree root None p.path p.port) (sym e) ∙ m.climbs)

    pub traces_nothing : walk_back tree root None to.path to.port ≡ nowhere → Traces tree root to None
    traces_nothing is ends (inl l) e = let m = met_link ends l e in
        let none : nowhere ≡ crosses m.0.crossing = sym is ∙ m.1 in cc none
    traces_nothing is ends (inr l) e =
        let m = met_feed ends l e in
        let none : nowhere ≡ at_root (Some m.0.connection) ends.from.port = sym is ∙ m.1 in
        cc none

    pub traces_itself : (q : ℕ) → walk_back tree root None to.path to.port ≡ at_root None q → Traces tree root to None
    traces_itself q is ends (inl l) e = let m = met_link ends l e in
        let none : at_root None q ≡ crosses m.0.crossing = sym is ∙ m.1 in cc none
    traces_itself q is ends (inr l) e =
        let m = met_feed ends l e in
        let same : at_root None q ≡ at_root (Some m.0.connection) ends.from.port = sym is ∙ m.1 in
        let none : None ≡ Some m.0.connection = cc same in
        none-some m.0.connection none

    pub traces_root : (k q : ℕ) (route : ChainRoute) → IsThreadPort tree root to
        → walk_back tree root None to.path to.port ≡ at_root (Some k) q
        → route ≡ record { begin = begins.Root q; declaration = root; connection = k }
        → Traces tree root to (Some route)
    traces_root k q route port is e = subst (λ r. Traces tree root to (Some r)) (sym e) (record {
      kind = feed_from tree root sound found k q port is refl refl refl;
      only = only;
    })
      where
        found : CarriedChain
        found = carried_chain to (record { begin = begins.Root q; declaration = root; connection = k })

        only : (ends : CarriedChain) → IsLink tree root ends ⊎ IsFeed tree root ends → ends.to ≡ to → ends ≡ found
        only ends (inl l) e = let m = met_link ends l e in
            let none : at_root (Some k) q ≡ crosses m.0.crossing = sym is ∙ m.1 in absurd (cc none)
        only ends (inr l) e =
            let m = met_feed ends l e in
            let same : at_root (Some k) q ≡ at_root (Some m.0.connection) ends.from.port = sym is ∙ m.1 in
            let number : Some k ≡ Some m.0.connection = cc same in
            let port : q ≡ ends.from.port = cc same in
            ends_by ends found (m.0.from_is ∙ ap (λ p. record { path = []; port = p }) (sym port)) e m.0.declaration_is
            (m.0.connection_is ∙ sym (same_Some k m.0.connection number))

    module _ (c : Crossing) (is : walk_back tree root None to.path to.port ≡ crosses c) where
      out_port : Port
      out_port = record { path = c.sub ∷ c.path; port = c.port }

      same_crossing : (a b : Crossing) → crosses a ≡ crosses b → a ≡ b
      same_crossing a b e = cc e

      pub traces_none_over : Descends tree root (record { path = c.sub ∷ c.path; port = c.port }) None
          → Traces tree root to None
      traces_none_over none ends (inl l) e =
          let m = met_link ends l e in
          let same : m.0.crossing ≡ c = same_crossing m.0.crossing c (sym m.1 ∙ is) in
          none m.0.earlier ends.from (inl (m.0.is_down.thread, m.0.is_down.out))
          (subst (λ (x : Crossing).
          Leads tree root m.0.earlier ends.from (record { path = x.sub ∷ x.path; port = x.port })) same m.0.leads)
      traces_none_over none ends (inr l) e =
          let m = met_feed ends l e in
          let none : at_root (Some m.0.connection) ends.from.port ≡ crosses c = sym m.1 ∙ is in
          cc none

      pub traces_over : (begin : ChainStart) (route : ChainRoute) → IsThreadPort tree root to
          → Descends tree root (record { path = c.sub ∷ c.path; port = c.port }) (Some begin)
          → route ≡ record { begin = begin; declaration = c.declaration; connection = c.connection }
          → Traces tree root to (Some route)
      traces_over (begins.Root p) route port giver e = absurd giver
      traces_over (begins.Thread path p) route port giver e =
          subst (λ r. Traces tree root to (Some r)) (sym e) (record {
            kind = link_from tree root found c giver.chain port is giver.thread giver.out giver.leads refl refl;
            only = only;
          })
        where
          found : CarriedChain
          found =
              carried_chain to (record {
                begin = begins.Thread path p;
                declaration = c.declaration;
                connection = c.connection;
              })

          only : (ends : CarriedChain) → IsLink tree root ends ⊎ IsFeed tree root ends → ends.to ≡ to → ends ≡ found
          only ends (inr l) e =
              let m = met_feed ends l e in
              let none : at_root (Some m.0.connection) ends.from.port ≡ crosses c = sym m.1 ∙ is in
              absurd (cc none)
          only ends (inl l) e =
              let m = met_link ends l e in
              let same : m.0.crossing ≡ c = same_crossing m.0.crossing c (sym m.1 ∙ is) in
              let leads =
              subst (λ (x : Crossing).
              Leads tree root m.0.earlier ends.from (record { path = x.sub ∷ x.path; port = x.port })) same
              m.0.leads in
              ends_by ends found (giver.only m.0.earlier ends.from (inl (m.0.is_down.thread, m.0.is_down.out)) leads) e
              (m.0.declaration_is ∙ ap (λ (x : Crossing). x.declaration) same)
              (m.0.connection_is ∙ ap (λ (x : Crossing). x.connection) same)

  -- ---- taps
  module _ (no_thread : is_thread_at tree root ≡ false) (port : ℕ) where
    met_tap : (ends : CarriedChain) → IsTap tree root ends → ends.to ≡ record { path = []; port = port }
        → (m : TapMet tree root sound one no_thread ends)
        × (connection_into tree root (Own port) ≡ Some (ends.connection, Inner m.sub m.port))
    met_tap ends l e =
        let m = tap_met tree root sound one no_thread ends l in
        (m, ap (λ (p : Port). connection_into tree root (Own p.port)) (sym e) ∙ m.enters)

    pub no_tap : connection_into tree root (Own port) ≡ None
        → TracesTap tree root (record { path = []; port = port }) None
    no_tap none ends l e = let m = met_tap ends l e in
        none-some (ends.connection, Inner m.0.sub m.0.port) (sym none ∙ m.1)

    module _ (k t q : ℕ) (is : connection_into tree root (Own port) ≡ Some (k, Inner t q)) where
      abbrev pair : ℕ → ℕ → ℕ → ℕ × NumberedPort
      pair k s p = (k, Inner s p)

      same_into : (a b s p t q : ℕ) → Some (pair a s p) ≡ Some (pair b t q) → (a ≡ b) × (s ≡ t) × (p ≡ q)
      same_into a b s p t q e =
          let both : pair a s p ≡ pair b t q = same_Some (pair a s p) (pair b t q) e in
          let site : Inner s p ≡ Inner t q = ap (λ (x : ℕ × NumberedPort). x.1) both in
          (ap (λ (x : ℕ × NumberedPort). x.0) both, cc site, cc site)

      there : (ends : CarriedChain) (m : TapMet tree root sound one no_thread ends)
          → connection_into tree root (Own port) ≡ Some (ends.connection, Inner m.sub m.port)
          → Leads tree root m.earlier ends.from (record { path = t ∷ []; port = q })
      there ends m e =
          let same = same_into ends.connection k m.sub m.port t q (sym e ∙ is) in
          subst (λ s. Leads tree root m.earlier ends.from (record { path = s ∷ []; port = q })) same.1
          (subst (λ p. Leads tree root m.earlier ends.from (record { path = m.sub ∷ []; port = p })) same.2 m.leads)

      pub no_tap_over : Descends tree root (record { path = t ∷ []; port = q }) None
          → TracesTap tree root (record { path = []; port = port }) None
      no_tap_over none ends l e = let m = met_tap ends l e in none m.0.earlier ends.from m.0.start (there ends m.0 m.1)

      pub tap_over : (begin : ChainStart) (route : ChainRoute) → is_in_at tree root port ≡ false
          → Descends tree root (record { path = t ∷ []; port = q }) (Some begin)
          → route ≡ record { begin = begin; declaration = root; connection = k }
          → TracesTap tree root (record { path = []; port = port }) (Some route)
      tap_over (begins.Root p) route out giver e = absurd giver
      tap_over (begins.Thread path p) route out giver e =
          subst (λ r. TracesTap tree root (record { path = []; port = port }) (Some r)) (sym e) (record {
            is_tap =
                tap_from tree root found port k t q giver.chain refl
                (is_in-at tree root (record { path = []; port = port }) root refl ∙ out)
                (entered tree root (Own port) (k, Inner t q) is) giver.thread giver.out giver.leads refl refl;
            only = λ ends l f.
                let m = met_tap ends l f in
                ends_by ends found (giver.only m.0.earlier ends.from m.0.start (there ends m.0 m.1)) f
                m.0.declaration_is
                (same_into ends.connection k m.0.sub m.0.port t q (sym m.1 ∙ is)).0;
          })
        where
          found : CarriedChain
          found =
              carried_chain (record { path = []; port = port })
              (record { begin = begins.Thread path p; declaration = root; connection = k })
