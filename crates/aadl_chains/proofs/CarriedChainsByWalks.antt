-- Links and feeds, by the backward trace from their last port; taps, by the connection into the root's out port.
use Rattle.std.proofs.Common.{◌≡◌, ◌⊎◌, inl, inr, ℕ, true, false, ◌&&◌, List, [], ◌∷◌, ◌++◌, slice_get, Contains}
use Rattle.std.proofs.Common.{Option, Some, None, refl, sym, ap, subst, ◌∙◌}
use Rattle.std.proofs.lemmas.Bool.{true≢false, false≢true}
use Rattle.std.proofs.lemmas.List.Elements.{Contains-append_right}
use Rattle.std.proofs.lemmas.Option.{same_Some, none-some, option_and_then_some}
use Rattle.list_lemmas.proofs.Elements.{Contains-cons_cases, Contains-head}
use Rattle.list_lemmas.proofs.Booleans.{opposed}
use Rattle.aadl_tree.specs.Declarations.{PackageTree}
use Rattle.aadl_names.specs.declared.numbered_port.NumberedPort.{NumberedPort}
use Rattle.aadl_names.specs.declared.numbered_port.NumberedPort.TheVariants.{Own, Inner}
use Rattle.aadl_names.specs.NameResolution.{implementation_at, end_port}
use Rattle.aadl_uses.specs.ContainmentAndUse.{below, number_at_path, component_at}
use Rattle.aadl_uses.specs.ThreadsBelow.{IsThreadAt}
use Rattle.aadl_uses.specs.proof.ThreadCounts.{is_thread_in}
use Rattle.aadl_chains.specs.proof.PortsJoinedInside.{is_thread_at, is_in_at}
use Rattle.aadl_chains.specs.Chains.{Port, ConnectionAt, Goes, Leads, is_in, IsStart, IsEnd}
use Rattle.aadl_chains.specs.proof.PermittedConnections.{ArePermitted}
use Rattle.aadl_chains.proofs.ConnectionsOnChains.{is_in-at}
use Rattle.aadl_chains.specs.proof.UpwardWalks.{Crossing, at_root, crosses, walk_back, OneEach, IsThreadPort}
use Rattle.aadl_chains.specs.LinksFeedsAndTaps.{CarriedChain, not_own, is_crossing, Carries, IsLink, IsFeed, IsTap}
use Rattle.aadl_uses.specs.proof.IncomingConnections.{connection_into}
use Rattle.aadl_chains.proofs.FirstIncomingConnections.{Entered, goes_into, known_into, into_of_goes}
use Rattle.aadl_chains.proofs.ChainsOfWalks.{Rooted, rooted, crossed}
use Rattle.aadl_chains.proofs.WalksOfChains.{Crosses, Down, down, into_own, from_inner, never_both, MetRoot}
use Rattle.aadl_chains.proofs.WalksOfChains.{MetCrossing, met}

-- concatenated chains
appended : (tree : PackageTree ℕ) (root : ℕ) (ds cs : List ConnectionAt) (a b c : Port) → Leads tree root ds b c
    → Leads tree root cs a b
    → Leads tree root (ds ++ cs) a c
appended tree root [] cs a b c l k = subst (λ p. Leads tree root cs a p) l k
appended tree root (x ∷ ds) cs a b c l k = (l.0, appended tree root ds cs a b l.0 l.1 k, l.2)

module _ (tree : PackageTree ℕ) (root : ℕ) where
  -- the number of the implementation at a thread's path
  pub standing_of : (path : List ℕ) → IsThreadAt tree root path → (n : ℕ) × (number_at_path tree root path ≡ Some n)
  standing_of path t =
      option_and_then_some (implementation_at tree) (number_at_path tree root path) t.0 t.1.0 (λ n e f. (n, e))

  into_at : (p : Port) (n : ℕ) → number_at_path tree root p.path ≡ Some n → is_in tree root p ≡ true
      → is_in_at tree n p.port ≡ true
  into_at p n e i = sym (is_in-at tree root p n e) ∙ i

  root_no_thread : is_thread_at tree root ≡ false → (path : List ℕ) → path ≡ [] → IsThreadAt tree root path → ⊥
  root_no_thread none path e t =
      opposed (is_thread_at tree root)
      (ap is_thread_in (subst (λ p. component_at tree root p ≡ Some t.0) e t.1.0) ∙ t.1.1) none

  -- ---- from traces to chains
  pub link_from : (ends : CarriedChain) (c : Crossing) (chain : List ConnectionAt) → IsThreadPort tree root ends.to
      → walk_back tree root None ends.to.path ends.to.port ≡ crosses c
      → IsThreadAt tree root ends.from.path → is_in tree root ends.from ≡ false
      → Leads tree root chain ends.from (record { path = c.sub ∷ c.path; port = c.port })
      → ends.declaration ≡ c.declaration → ends.connection ≡ c.connection → IsLink tree root ends
  link_from ends c chain to is from out leads d k =
      let x = crossed tree root None ends.to.path ends.to.port c is in
      let g = x.goes in
      let here : ConnectionAt = record { path = c.path; connection = c.connection } in
      let stands : number_at_path tree root c.path ≡ Some ends.declaration =
      g.stands ∙ ap Some (x.number_is ∙ sym d) in (
        x.chain ++ here ∷ chain,
        record {
          leads =
              appended tree root x.chain (here ∷ chain) ends.from x.target ends.to x.leads
              (record { path = c.sub ∷ c.path; port = c.port }, leads, g);
          start = inl (from, out);
          ends = inl (to.0, to.1);
        },
        from,
        to.0,
        record {
          place = here;
          component = g.component;
          link = g.link;
          among = Contains-append_right x.chain (here ∷ chain) here (Contains-head here chain);
          stands = stands;
          number = sym k;
          is_component = ap (implementation_at tree) (d ∙ sym x.number_is) ∙ g.is_component;
          is_link = ap (slice_get g.component.connections) k ∙ g.is_link;
          kind = inl (
            refl,
            ap (λ (o : Option NumberedPort). not_own o && not_own (end_port tree g.component g.link.target))
                (g.is_source ∙ ap Some x.source_is)
                ∙ ap not_own (g.is_target ∙ ap Some x.target_is),
          );
        },
      )

  pub feed_from : ArePermitted tree → (ends : CarriedChain) (k q : ℕ) → IsThreadPort tree root ends.to
      → walk_back tree root None ends.to.path ends.to.port ≡ at_root (Some k) q
      → ends.from ≡ record { path = []; port = q }
      → ends.declaration ≡ root
      → ends.connection ≡ k → IsFeed tree root ends
  feed_from sound ends k q to is from d e = by (rooted tree root None ends.to.path ends.to.port (Some k) q is)
    where
      carried : (chain : List ConnectionAt) (j s r : ℕ) → Some k ≡ Some j
          → Contains chain (record { path = []; connection = j })
          → Entered tree root (Inner s r) j (Own q)
          → Carries tree root false chain ends
      carried chain j s r same among x =
          let g = (goes_into tree root [] root (Inner s r) j (Own q) refl x).0 in
          let number : ends.connection ≡ j = e ∙ same_Some k j same in
          let component : implementation_at tree root ≡ Some g.component =
          ap (implementation_at tree) (same_Some root g.number g.stands) ∙ g.is_component in
          record {
            place = record { path = []; connection = j };
            component = g.component;
            link = g.link;
            among = among;
            stands = ap Some (sym d);
            number = sym number;
            is_component = ap (implementation_at tree) d ∙ component;
            is_link = ap (slice_get g.component.connections) number ∙ g.is_link;
            kind = inr (refl, refl);
          }

      into : (j s r : ℕ) → Entered tree root (Inner s r) j (Own q) → is_in tree root ends.from ≡ true
      into j s r x =
          let known = known_into tree root sound root (Inner s r) j (Own q) x in
          ap (is_in tree root) from ∙ (is_in-at tree root (record { path = []; port = q }) root refl ∙ known.leaves)

      last_of : (chain : List ConnectionAt) → ((ends.to.path ≡ []) × (Some k ≡ None) × (q ≡ ends.to.port))
          ⊎ ((j s r : ℕ) × (Some k ≡ Some j) × Contains chain (record { path = []; connection = j })
          × Entered tree root (Inner s r) j (Own q))
          → Carries tree root false chain ends × (is_in tree root ends.from ≡ true)
      last_of chain (inl h) = absurd (none-some k (sym h.1))
      last_of chain (inr h) = (carried chain h.0 h.1 h.2 h.3 h.4 h.5, into h.0 h.1 h.2 h.5)

      by : Rooted tree root None ends.to.path ends.to.port (Some k) q → IsFeed tree root ends
      by r =
          let last = last_of r.chain r.by_last in (
            r.chain,
            record {
              leads = subst (λ f. Leads tree root r.chain f ends.to) (sym from) r.leads;
              start = inr (ap (λ (p : Port). p.path) from, last.1);
              ends = inl (to.0, to.1);
            },
            ap (λ (p : Port). p.path) from,
            to.0,
            last.0,
          )

  -- a connection into an own out port of the root
  pub tap_from : (ends : CarriedChain) (port k t q : ℕ) (chain : List ConnectionAt)
      → ends.to ≡ record { path = []; port = port }
      → is_in tree root ends.to ≡ false
      → Entered tree root (Own port) k (Inner t q) → IsThreadAt tree root ends.from.path
      → is_in tree root ends.from ≡ false
      → Leads tree root chain ends.from (record { path = t ∷ []; port = q }) → ends.declaration ≡ root
      → ends.connection ≡ k → IsTap tree root ends
  tap_from ends port k t q chain to out x from gives leads d e =
      let g = (goes_into tree root [] root (Own port) k (Inner t q) refl x).0 in
      let here : ConnectionAt = record { path = []; connection = k } in
      let component : implementation_at tree root ≡ Some g.component =
      ap (implementation_at tree) (same_Some root g.number g.stands) ∙ g.is_component in (
        here ∷ chain,
        record {
          leads = (
            record { path = t ∷ []; port = q },
            leads,
            subst (Goes tree root here (record { path = t ∷ []; port = q })) (sym to) g,
          );
          start = inl (from, gives);
          ends = inr (ap (λ (p : Port). p.path) to, out);
        },
        from,
        ap (λ (p : Port). p.path) to,
        record {
          place = here;
          component = g.component;
          link = g.link;
          among = Contains-head here chain;
          stands = ap Some (sym d);
          number = sym e;
          is_component = ap (implementation_at tree) d ∙ component;
          is_link = ap (slice_get g.component.connections) e ∙ g.is_link;
          kind = inr (refl, refl);
        },
      )

  -- ---- from chains to traces
  module _ (sound : ArePermitted tree) (one : OneEach tree root) (no_thread : is_thread_at tree root ≡ false) where
    pub record LinkMet (ends : CarriedChain) : Type 0 where
      pub port : IsThreadPort tree root ends.to
      pub crossing : Crossing
      pub climbs : walk_back tree root None ends.to.path ends.to.port ≡ crosses crossing
      pub earlier : List ConnectionAt
      pub leads : Leads tree root earlier ends.from
          (record { path = crossing.sub ∷ crossing.path; port = crossing.port })
      pub number : ℕ
      pub is_below : below tree crossing.declaration crossing.sub ≡ Some number
      pub is_down : Down tree root sound earlier ends.from
          (record { path = crossing.sub ∷ crossing.path; port = crossing.port }) number
      pub declaration_is : ends.declaration ≡ crossing.declaration
      pub connection_is : ends.connection ≡ crossing.connection

    pub record FeedMet (ends : CarriedChain) : Type 0 where
      pub port : IsThreadPort tree root ends.to
      pub connection : ℕ
      pub climbs : walk_back tree root None ends.to.path ends.to.port ≡ at_root (Some connection) ends.from.port
      pub from_is : ends.from ≡ record { path = []; port = ends.from.port }
      pub declaration_is : ends.declaration ≡ root
      pub connection_is : ends.connection ≡ connection

    thread_end : (p : Port) → IsThreadAt tree root p.path → IsEnd tree root p → IsThreadPort tree root p
    thread_end p t (inl e) = (t, e.1)
    thread_end p t (inr e) = absurd (root_no_thread no_thread p.path e.0 t)

    link_met_by : (ends : CarriedChain) (chain : List ConnectionAt) → IsThreadPort tree root ends.to
        → IsThreadAt tree root ends.from.path
        → (carried : Carries tree root true chain ends)
        → MetRoot tree root sound None chain ends.from ends.to
        ⊎ MetCrossing tree root sound None chain ends.from ends.to → LinkMet ends
    link_met_by ends chain to from carried (inl m) =
        absurd (root_no_thread no_thread ends.from.path (ap (λ (p : Port). p.path) m.from_is) from)
    link_met_by ends chain to from carried (inr m) =
        let o = m.only carried.place carried.among (crossing_of carried.kind) in
        record {
          port = to;
          crossing = m.crossing;
          climbs = m.climbs;
          earlier = m.earlier;
          leads = m.leads;
          number = m.number;
          is_below = m.is_below;
          is_down = m.is_down;
          declaration_is = same_Some ends.declaration m.crossing.declaration (sym carried.stands ∙ o.0);
          connection_is = sym carried.number ∙ o.1;
        }
      where
        crossing_of : ((true ≡ true) × (is_crossing tree carried.component carried.link ≡ true))
            ⊎ ((true ≡ false) × (carried.place.path ≡ []))
            → Crosses tree root carried.place
        crossing_of (inl h) = record {
          number = ends.declaration;
          component = carried.component;
          link = carried.link;
          stands = carried.stands;
          is_component = carried.is_component;
          is_link = ap (slice_get carried.component.connections) carried.number ∙ carried.is_link;
          kind = h.1;
        }
        crossing_of (inr h) = absurd (true≢false h.0)

    pub link_met : (ends : CarriedChain) → IsLink tree root ends → LinkMet ends
    link_met ends l =
        let port = thread_end ends.to l.3 l.1.ends in
        let n = standing_of ends.to.path l.3 in
        link_met_by ends l.0 port l.2 l.4
        (met tree root sound one None l.0 ends.from ends.to n.0 l.1.leads l.1.start n.1
        (into_at ends.to n.0 n.1 port.1))

    feed_met_by : (ends : CarriedChain) (chain : List ConnectionAt) → IsThreadPort tree root ends.to
        → ends.from.path ≡ []
        → (carried : Carries tree root false chain ends)
        → MetRoot tree root sound None chain ends.from ends.to
        ⊎ MetCrossing tree root sound None chain ends.from ends.to → FeedMet ends
    feed_met_by ends chain to from carried (inr m) =
        absurd (root_no_thread no_thread ends.from.path from m.is_down.thread)
    feed_met_by ends chain to from carried (inl m) =
        let root_is = outside_of carried.kind in
        let port_is : ends.from.port ≡ m.port = ap (λ (p : Port). p.port) m.from_is in
        let by_is = m.by_is carried.place carried.among root_is in
        record {
          port = to;
          connection = carried.place.connection;
          climbs =
              m.climbs ∙ (ap (λ o. at_root o m.port) by_is
              ∙ ap (at_root (Some carried.place.connection)) (sym port_is));
          from_is = m.from_is ∙ ap (λ q. record { path = []; port = q }) (sym port_is);
          declaration_is = same_Some ends.declaration root (sym carried.stands ∙ ap (number_at_path tree root) root_is);
          connection_is = sym carried.number;
        }
      where
        outside_of : ((false ≡ true) × (is_crossing tree carried.component carried.link ≡ true))
            ⊎ ((false ≡ false) × (carried.place.path ≡ []))
            → carried.place.path ≡ []
        outside_of (inl h) = absurd (false≢true h.0)
        outside_of (inr h) = h.1

    pub feed_met : (ends : CarriedChain) → IsFeed tree root ends → FeedMet ends
    feed_met ends l =
        let port = thread_end ends.to l.3 l.1.ends in
        let n = standing_of ends.to.path l.3 in
        feed_met_by ends l.0 port l.2 l.4
        (met tree root sound one None l.0 ends.from ends.to n.0 l.1.leads l.1.start n.1
        (into_at ends.to n.0 n.1 port.1))

    -- ---- taps
    pub record TapMet (ends : CarriedChain) : Type 0 where
      pub to_is : ends.to ≡ record { path = []; port = ends.to.port }
      pub out : is_in tree root ends.to ≡ false
      pub sub : ℕ
      pub port : ℕ
      pub enters : connection_into tree root (Own ends.to.port) ≡ Some (ends.connection, Inner sub port)
      pub earlier : List ConnectionAt
      pub leads : Leads tree root earlier ends.from (record { path = sub ∷ []; port = port })
      pub start : IsStart tree root ends.from
      pub declaration_is : ends.declaration ≡ root

    tap_step : (ends : CarriedChain) (c : ConnectionAt) (cs : List ConnectionAt) (mid : Port)
        (g : Goes tree root c mid ends.to)
        → (x : NumberedPort) → g.source ≡ x
        → Leads tree root cs ends.from mid → IsStart tree root ends.from → ends.to.path ≡ []
        → is_in tree root ends.to ≡ false
        → Carries tree root false (c ∷ cs) ends → TapMet ends
    tap_step ends c cs mid g (Own r) e leads start outside out carried =
        let stands : number_at_path tree root ends.to.path ≡ Some root = ap (number_at_path tree root) outside in
        let o =
        into_own tree root sound c mid ends.to g g.target refl root stands
        (sym (is_in-at tree root ends.to root stands) ∙ out) in
        absurd (never_both tree root sound c mid ends.to g r o.0 e o.1)
    tap_step ends c cs mid g (Inner t q) e leads start outside out carried =
        let stands : number_at_path tree root ends.to.path ≡ Some root = ap (number_at_path tree root) outside in
        let o =
        into_own tree root sound c mid ends.to g g.target refl root stands
        (sym (is_in-at tree root ends.to root stands) ∙ out) in
        let i = from_inner tree root sound c mid ends.to g t q e in
        let path : c.path ≡ [] = sym (ap (λ (p : Port). p.path) o.2) ∙ outside in
        let port : ends.to.port ≡ o.0 = ap (λ (p : Port). p.port) o.2 in
        let mid_is : mid ≡ record { path = t ∷ []; port = q } = i.0
        ∙ ap (λ l. record { path = t ∷ l; port = q }) path in
        let d =
        down tree root sound cs ends.from mid i.1 leads start
        (ap (λ (p : Port). number_at_path tree root p.path) i.0 ∙ i.3)
        (ap (is_in_at tree i.1) (ap (λ (p : Port). p.port) i.0) ∙ i.4) in
        let here : c ≡ carried.place =
        placed_by d.none_outside (ap (λ (p : Port). p.path) mid_is)
        (Contains-cons_cases c cs carried.place carried.among) in
        record {
          to_is = ap (λ l. record { path = l; port = ends.to.port }) outside;
          out = out;
          sub = t;
          port = q;
          enters = ap (λ r. connection_into tree root (Own r)) port
              ∙ (ap (λ n. connection_into tree n (Own o.0)) o.3
              ∙ (ap (connection_into tree g.number) (sym o.1)
              ∙ (into_of_goes tree root one c mid ends.to g
              ∙ (ap (λ (y : NumberedPort). Some (c.connection, y)) e
              ∙ ap (λ k. Some (k, Inner t q)) (ap (λ (y : ConnectionAt). y.connection) here ∙ carried.number)))));
          earlier = cs;
          leads = subst (Leads tree root cs ends.from) mid_is leads;
          start = start;
          declaration_is =
              same_Some ends.declaration root (sym carried.stands
              ∙ ap (number_at_path tree root) (outside_of carried.kind));
        }
      where
        outside_of : ((false ≡ true) × (is_crossing tree carried.component carried.link ≡ true))
            ⊎ ((false ≡ false) × (carried.place.path ≡ []))
            → carried.place.path ≡ []
        outside_of (inl h) = absurd (false≢true h.0)
        outside_of (inr h) = h.1

        placed_by : ((place : ConnectionAt) → Contains cs place → place.path ≡ [] → mid.path ≡ []) → mid.path ≡ t ∷ []
            → (c ≡ carried.place) ⊎ Contains cs carried.place → c ≡ carried.place
        placed_by never is (inl same) = same
        placed_by never is (inr h) =
            let none : [] ≡ t ∷ [] = sym (never carried.place h (outside_of carried.kind)) ∙ is in
            absurd (cc none)

    tap_by : (ends : CarriedChain) (chain : List ConnectionAt) → Leads tree root chain ends.from ends.to
        → IsStart tree root ends.from
        → IsThreadAt tree root ends.from.path
        → ends.to.path ≡ [] → is_in tree root ends.to ≡ false → Carries tree root false chain ends → TapMet ends
    tap_by ends [] leads start from outside out carried =
        absurd (root_no_thread no_thread ends.from.path (ap (λ (p : Port). p.path) leads ∙ outside) from)
    tap_by ends (c ∷ cs) leads start from outside out carried =
        tap_step ends c cs leads.0 leads.2 leads.2.source refl leads.1 start outside out carried

    tap_out : (p : Port) → p.path ≡ [] → IsEnd tree root p → is_in tree root p ≡ false
    tap_out p e (inl h) = absurd (root_no_thread no_thread p.path e h.0)
    tap_out p e (inr h) = h.1

    pub tap_met : (ends : CarriedChain) → IsTap tree root ends → TapMet ends
    tap_met ends l = tap_by ends l.0 l.1.leads l.1.start l.2 l.3 (tap_out ends.to l.3 l.1.ends) l.4
