-- If the ends of a connection in use lead to a possible first and last port, the connection is on a connection chain
-- in some component.
use Rattle.std.proofs.Common.{◌≡◌, inl, inr, ℕ, zero, suc, true, false, List, [], ◌∷◌, ◌++◌, map, slice_get, Contains}
use Rattle.std.proofs.Common.{Option, Some, None, option_map, refl, sym, ap, subst, ◌∙◌}
use Rattle.std.specs.Option.{option_and_then}
use Rattle.std.proofs.lemmas.Bool.{not-true}
use Rattle.std.proofs.lemmas.List.Elements.{Contains-append_right, Contains-append_left, Contains-push}
use Rattle.std.proofs.lemmas.Option.{same_Some}
use Rattle.list_lemmas.proofs.Elements.{Contains-nil}
use Rattle.list_lemmas.proofs.ElementPositions.{slice_get-from_Contains, Contains-from_slice_get}
use Rattle.aadl_tree.specs.declared.declarations.Direction.TheVariants as directions
use Rattle.aadl_tree.specs.Declarations.{Feature, Connection, Implementation, PackageTree}
use Rattle.aadl_names.specs.declared.numbered_port.NumberedPort.{NumberedPort}
use Rattle.aadl_names.specs.declared.numbered_port.NumberedPort.TheVariants.{Own, Inner}
use Rattle.aadl_names.specs.NameResolution.{implementation_at, ports_at, end_port}
use Rattle.aadl_names.specs.PackageNameFaults.{goes_in}
use Rattle.aadl_uses.specs.ContainmentAndUse.{below, number_at_path, IsInUse}
use Rattle.aadl_uses.specs.ThreadsBelow.{IsThreadAt}
use Rattle.aadl_uses.specs.proof.ThreadCounts.{is_thread_in}
use Rattle.aadl_uses.specs.declared.connections_by_target.ConnectionPorts.{ConnectionPorts}
use Rattle.aadl_uses.specs.PortsOfConnections.{ports_of_connection, wires_of, connection_ports_at}
use Rattle.aadl_uses.proofs.DeclarationTables.{listed}
use Rattle.aadl_uses.proofs.ThreadCounts.{thread_by}
use Rattle.aadl_chains.specs.proof.PortsJoinedInside.{is_thread_at, is_in_at, Reaches, of_thread, of_inner}
use Rattle.aadl_chains.specs.proof.PortsJoinedOutside.{LeadsOut, of_root, of_own, of_beside, LeadsFrom}
use Rattle.aadl_chains.specs.Chains.{Port, ConnectionAt, port_at, Goes, Leads, is_in, IsStart, IsEnd, IsChain}
use Rattle.aadl_chains.specs.proof.PermittedConnections.{MayLeave, MayEnter, NotBothOwn, ArePermitted}
use Rattle.aadl_chains.specs.proof.ConnectionsOnChains.{IsOnChain}

abbrev pub port : List ℕ → ℕ → Port
port path p = record { path = path; port = p }

module _ (tree : PackageTree ℕ) (root : ℕ) where
  -- ---- the implementation at a path
  pub next_at : (path : List ℕ) (n s m : ℕ) → number_at_path tree root path ≡ Some n → below tree n s ≡ Some m
      → number_at_path tree root (s ∷ path) ≡ Some m
  next_at path n s m e b = ap (option_and_then (λ k. below tree k s)) e ∙ b

  pub below_at : (path : List ℕ) (n s m : ℕ) → number_at_path tree root path ≡ Some n
      → number_at_path tree root (s ∷ path) ≡ Some m
      → below tree n s ≡ Some m
  below_at path n s m e b = sym (ap (option_and_then (λ k. below tree k s)) e) ∙ b

  pub is_in-at : (p : Port) (n : ℕ) → number_at_path tree root p.path ≡ Some n
      → is_in tree root p ≡ is_in_at tree n p.port
  is_in-at p n e = ap (λ o. goes_in (option_map (λ (f : Feature ℕ). f.direction)
      (slice_get (ports_at tree (option_and_then (implementation_at tree) o)) p.port))) e

  thread_at : (path : List ℕ) (n : ℕ) → number_at_path tree root path ≡ Some n → is_thread_at tree n ≡ true
      → IsThreadAt tree root path
  thread_at path n e t = let x = thread_by (implementation_at tree n) t in
      (x.0, (ap (option_and_then (implementation_at tree)) e ∙ x.1, x.2))

  pub thread_from : (path : List ℕ) (n : ℕ) → number_at_path tree root path ≡ Some n → IsThreadAt tree root path
      → is_thread_at tree n ≡ true
  thread_from path n e t = ap is_thread_in (sym (ap (option_and_then (implementation_at tree)) e) ∙ t.1.0) ∙ t.1.1

  -- ---- connections
  goes_if : (place : ConnectionAt) (n : ℕ) (wire : ConnectionPorts) (source target : NumberedPort)
      (o : Option (Implementation ℕ))
      → implementation_at tree n ≡ o
      → number_at_path tree root place.path ≡ Some n
      → slice_get (wires_of tree o) place.connection ≡ Some wire → wire.source ≡ Some source → wire.target ≡ Some target
      → Goes tree root place (port_at place.path source) (port_at place.path target)
  goes_if place n wire source target None e stands is s t =
      absurd (Contains-nil wire (Contains-from_slice_get [] place.connection wire is))
  goes_if place n wire source target (Some x) e stands is s t =
      let l = listed (ports_of_connection tree x) x.connections place.connection wire is in
      record {
        number = n;
        component = x;
        link = l.0;
        source = source;
        target = target;
        stands = stands;
        is_component = e;
        is_link = l.1;
        is_source = ap (λ (w : ConnectionPorts). w.source) l.2 ∙ s;
        is_target = ap (λ (w : ConnectionPorts). w.target) l.2 ∙ t;
        leaves = refl;
        enters = refl;
      }

  goes_by : (path : List ℕ) (n : ℕ) (wire : ConnectionPorts) (source target : NumberedPort)
      → number_at_path tree root path ≡ Some n
      → (h : Contains (connection_ports_at tree n) wire)
      → wire.source ≡ Some source → wire.target ≡ Some target
      → Goes tree root (record { path = path; connection = h.0 }) (port_at path source) (port_at path target)
  goes_by path n wire source target stands h s t =
      goes_if (record { path = path; connection = h.0 }) n wire source target (implementation_at tree n) refl
      stands (slice_get-from_Contains (connection_ports_at tree n) wire h) s t

  wire_if : (n k : ℕ) (x : Implementation ℕ) (link : Connection ℕ) (source target : NumberedPort)
      (o : Option (Implementation ℕ)) → o ≡ Some x
      → slice_get x.connections k ≡ Some link → end_port tree x link.source ≡ Some source
      → end_port tree x link.target ≡ Some target
      → slice_get (wires_of tree o) k ≡ Some (record { source = Some source; target = Some target })
  wire_if n k x link source target o e is s t =
      ap (λ o. slice_get (wires_of tree o) k) e
      ∙ (mapped x.connections k is
      ∙ (ap (λ a. Some (record { source = a; target = end_port tree x link.target })) s
      ∙ ap (λ b. Some (record { source = Some source; target = b })) t))
    where
      mapped : (cs : List (Connection ℕ)) (k : ℕ) → slice_get cs k ≡ Some link
          → slice_get (map (ports_of_connection tree x) cs) k ≡ Some (ports_of_connection tree x link)
      mapped [] k e = absurd (Contains-nil link (Contains-from_slice_get [] k link e))
      mapped (c ∷ cs) zero e = ap (λ (o : Connection ℕ). Some (ports_of_connection tree x o)) (same_Some c link e)
      mapped (c ∷ cs) (suc k) e = mapped cs k e

  pub wire_of_goes : (place : ConnectionAt) (from to : Port) → (g : Goes tree root place from to)
      → slice_get (connection_ports_at tree g.number) place.connection
      ≡ Some (record { source = Some g.source; target = Some g.target })
  wire_of_goes place from to g =
      wire_if g.number place.connection g.component g.link g.source g.target (implementation_at tree g.number)
      g.is_component
      g.is_link g.is_source g.is_target

  pub among_goes : (place : ConnectionAt) (from to : Port) → (g : Goes tree root place from to)
      → Contains (connection_ports_at tree g.number) (record { source = Some g.source; target = Some g.target })
  among_goes place from to g =
      Contains-from_slice_get (connection_ports_at tree g.number) place.connection _ (wire_of_goes place from to g)

  -- ---- concatenated chains
  appended : (ds cs : List ConnectionAt) (a b c : Port) → Leads tree root ds b c → Leads tree root cs a b
      → Leads tree root (ds ++ cs) a c
  appended [] cs a b c l k = subst (λ p. Leads tree root cs a p) l k
  appended (x ∷ ds) cs a b c l k = (l.0, appended ds cs a b l.0 l.1 k, l.2)

  -- ---- from the ports that ends lead to, to chains
  pub record Begins (path : List ℕ) (p : ℕ) : Type 0 where
    pub chain : List ConnectionAt
    pub from : Port
    pub leads : Leads tree root chain from (port path p)
    pub start : IsStart tree root from

  pub record Ends (path : List ℕ) (p : ℕ) : Type 0 where
    pub chain : List ConnectionAt
    pub to : Port
    pub leads : Leads tree root chain (port path p) to
    pub ends : IsEnd tree root to

  gives_chain : {n p : ℕ} → Reaches tree directions.Out n p → (path : List ℕ) → number_at_path tree root path ≡ Some n
      → Begins path p
  gives_chain (of_thread thread way) path stands = record {
    chain = [];
    from = port path _;
    leads = refl;
    start = inl (thread_at path _ stands thread, is_in-at (port path _) _ stands ∙ not-true _ way);
  }
  gives_chain (of_inner s q m wire thread among outer inner is rest) path stands =
      let b = gives_chain rest (s ∷ path) (next_at path _ s m stands is) in
      record {
        chain = record { path = path; connection = among.0 } ∷ b.chain;
        from = b.from;
        leads = (port (s ∷ path) q, b.leads, goes_by path _ wire (Inner s q) (Own _) stands among inner outer);
        start = b.start;
      }

  takes_chain : {n p : ℕ} → Reaches tree directions.In n p → (path : List ℕ) → number_at_path tree root path ≡ Some n
      → Ends path p
  takes_chain (of_thread thread way) path stands = record {
    chain = [];
    to = port path _;
    leads = refl;
    ends = inl (thread_at path _ stands thread, is_in-at (port path _) _ stands ∙ way);
  }
  takes_chain (of_inner s q m wire thread among outer inner is rest) path stands =
      let e = takes_chain rest (s ∷ path) (next_at path _ s m stands is) in
      record {
        chain = e.chain ++ record { path = path; connection = among.0 } ∷ [];
        to = e.to;
        leads = appended e.chain _ (port path _) (port (s ∷ path) q) e.to e.leads
            (port path _, refl, goes_by path _ wire (Own _) (Inner s q) stands among outer inner);
        ends = e.ends;
      }

  module _ (sound : ArePermitted tree) where
    -- the facts about an end of a connection
    leaves_own : (k q : ℕ) (wire : ConnectionPorts) → Contains (connection_ports_at tree k) wire
        → wire.source ≡ Some (Own q)
        → is_in_at tree k q ≡ true
    leaves_own k q wire among e =
        let d = sound.each k wire among in
        subst (MayLeave tree k) (same_Some d.source (Own q) (sym d.source_is ∙ e)) d.leaves

    enters_own : (k q : ℕ) (wire : ConnectionPorts) → Contains (connection_ports_at tree k) wire
        → wire.target ≡ Some (Own q)
        → is_in_at tree k q ≡ false
    enters_own k q wire among e =
        let d = sound.each k wire among in
        subst (MayEnter tree k) (same_Some d.target (Own q) (sym d.target_is ∙ e)) d.enters

    pub record Fed (n p : ℕ) : Type 0 where
      pub path : List ℕ
      pub stands : number_at_path tree root path ≡ Some n
      pub begins : Begins path p

    pub record Led (n p : ℕ) : Type 0 where
      pub path : List ℕ
      pub stands : number_at_path tree root path ≡ Some n
      pub ends : Ends path p

    fed_chain : {n p : ℕ} → LeadsOut tree root directions.In n p → is_in_at tree n p ≡ true → Fed n p
    fed_chain (of_root e) into = record {
      path = [];
      stands = ap Some (sym e);
      begins =
          record {
            chain = [];
            from = port [] _;
            leads = refl;
            start = inr (refl, is_in-at (port [] _) _ (ap Some (sym e)) ∙ into);
          };
    }
    fed_chain (of_own k s q wire among inner outer b rest) into =
        let f = fed_chain rest (leaves_own k q wire among outer) in
        record {
          path = s ∷ f.path;
          stands = next_at f.path k s _ f.stands b;
          begins = record {
            chain = record { path = f.path; connection = among.0 } ∷ f.begins.chain;
            from = f.begins.from;
            leads =
                (port f.path q, f.begins.leads, goes_by f.path k wire (Own q) (Inner s _) f.stands among outer inner);
            start = f.begins.start;
          };
        }
    fed_chain (of_beside k s t q m wire used among inner outer b c r) into =
        let f = gives_chain r (t ∷ used.0) (next_at used.0 k t m used.1 c) in
        record {
          path = s ∷ used.0;
          stands = next_at used.0 k s _ used.1 b;
          begins = record {
            chain = record { path = used.0; connection = among.0 } ∷ f.chain;
            from = f.from;
            leads =
                (port (t ∷ used.0) q, f.leads, goes_by used.0 k wire (Inner t q) (Inner s _) used.1 among outer inner);
            start = f.start;
          };
        }

    led_chain : {n p : ℕ} → LeadsOut tree root directions.Out n p → is_in_at tree n p ≡ false → Led n p
    led_chain (of_root e) out = record {
      path = [];
      stands = ap Some (sym e);
      ends =
          record {
            chain = [];
            to = port [] _;
            leads = refl;
            ends = inr (refl, is_in-at (port [] _) _ (ap Some (sym e)) ∙ out);
          };
    }
    led_chain (of_own k s q wire among inner outer b rest) out =
        let f = led_chain rest (enters_own k q wire among outer) in
        record {
          path = s ∷ f.path;
          stands = next_at f.path k s _ f.stands b;
          ends = record {
            chain = f.ends.chain ++ record { path = f.path; connection = among.0 } ∷ [];
            to = f.ends.to;
            leads = appended f.ends.chain _ (port (s ∷ f.path) _) (port f.path q) f.ends.to f.ends.leads
                (port (s ∷ f.path) _, refl, goes_by f.path k wire (Inner s _) (Own q) f.stands among inner outer);
            ends = f.ends.ends;
          };
        }
    led_chain (of_beside k s t q m wire used among inner outer b c r) out =
        let f = takes_chain r (t ∷ used.0) (next_at used.0 k t m used.1 c) in
        record {
          path = s ∷ used.0;
          stands = next_at used.0 k s _ used.1 b;
          ends = record {
            chain = f.chain ++ record { path = used.0; connection = among.0 } ∷ [];
            to = f.to;
            leads = appended f.chain _ (port (s ∷ used.0) _) (port (t ∷ used.0) q) f.to f.leads
                (port (s ∷ used.0) _, refl, goes_by used.0 k wire (Inner s _) (Inner t q) used.1 among inner outer);
            ends = f.ends;
          };
        }

    -- a chain through a connection of the implementation, in some component
    pub record Chained (n connection : ℕ) : Type 0 where
      pub chain : List ConnectionAt
      pub from : Port
      pub to : Port
      pub place : ConnectionAt
      pub is_chain : IsChain tree root chain from to
      pub among : Contains chain place
      pub stands : number_at_path tree root place.path ≡ Some n
      pub is_connection : place.connection ≡ connection

    -- a chain to it and a chain from it form one chain
    through_it : (path : List ℕ) (n : ℕ) (wire : ConnectionPorts) (source target : NumberedPort)
        (h : Contains (connection_ports_at tree n) wire)
        → number_at_path tree root path ≡ Some n
        → wire.source ≡ Some source → wire.target ≡ Some target
        → (cs ds : List ConnectionAt) (from to : Port) → Leads tree root cs from (port_at path source)
        → IsStart tree root from
        → Leads tree root ds (port_at path target) to → IsEnd tree root to → Chained n h.0
    through_it path n wire source target h stands s t cs ds from to l start m ends =
        let here : ConnectionAt = record { path = path; connection = h.0 } in
        record {
          chain = ds ++ here ∷ cs;
          from = from;
          to = to;
          place = here;
          is_chain = record {
            leads =
                appended ds (here ∷ cs) from (port_at path target) to m
                (port_at path source, l, goes_by path n wire source target stands h s t);
            start = start;
            ends = ends;
          };
          among =
              Contains-append_right ds (here ∷ cs) here
              (Contains-append_left (here ∷ []) cs here (Contains-push [] here));
          stands = stands;
          is_connection = refl;
        }

    chained_by : (n : ℕ) (wire : ConnectionPorts) (source target : NumberedPort) → IsInUse tree root n
        → (h : Contains (connection_ports_at tree n) wire) → wire.source ≡ Some source
        → wire.target ≡ Some target → NotBothOwn source target
        → LeadsFrom tree root directions.In n source → LeadsFrom tree root directions.Out n target → Chained n h.0
    chained_by n wire (Own p) (Own q) used h s t both comes goes = absurd both
    chained_by n wire (Own p) (Inner u q) used h s t both comes goes =
        let f = fed_chain comes (leaves_own n p wire h s) in
        let g = takes_chain goes.2 (u ∷ f.path) (next_at f.path n u goes.0 f.stands goes.1) in
        through_it f.path n wire (Own p) (Inner u q) h f.stands s t f.begins.chain g.chain f.begins.from g.to
        f.begins.leads f.begins.start g.leads g.ends
    chained_by n wire (Inner u p) (Own q) used h s t both comes goes =
        let g = led_chain goes (enters_own n q wire h t) in
        let f = gives_chain comes.2 (u ∷ g.path) (next_at g.path n u comes.0 g.stands comes.1) in
        through_it g.path n wire (Inner u p) (Own q) h g.stands s t f.chain g.ends.chain f.from g.ends.to f.leads
        f.start g.ends.leads g.ends.ends
    chained_by n wire (Inner u p) (Inner v q) used h s t both comes goes =
        let f = gives_chain comes.2 (u ∷ used.0) (next_at used.0 n u comes.0 used.1 comes.1) in
        let g = takes_chain goes.2 (v ∷ used.0) (next_at used.0 n v goes.0 used.1 goes.1) in
        through_it used.0 n wire (Inner u p) (Inner v q) h used.1 s t f.chain g.chain f.from g.to f.leads f.start
        g.leads g.ends

    pub chained : (n : ℕ) (wire : ConnectionPorts) → IsInUse tree root n
        → (h : Contains (connection_ports_at tree n) wire)
        → IsOnChain tree root n wire → Chained n h.0
    chained n wire used h w =
        let d = sound.each n wire h in
        let s : d.source ≡ w.source = same_Some d.source w.source (sym d.source_is ∙ w.source_is) in
        let t : d.target ≡ w.target = same_Some d.target w.target (sym d.target_is ∙ w.target_is) in
        let both : NotBothOwn w.source w.target =
        subst (λ a. NotBothOwn a w.target) s (subst (NotBothOwn d.source) t d.not_both) in
        chained_by n wire w.source w.target used h w.source_is w.target_is both w.comes w.goes
