-- At most one connection chain ends at a port: each port has at most one incoming connection, and possible first
-- ports have none.
use Rattle.std.proofs.Common.{◌≡◌, ℕ, true, false, List, [], ◌∷◌, Some, slice_get, refl, sym, ap, ◌∙◌, subst, inl, inr}
use Rattle.std.specs.Option.{option_and_then}
use Rattle.std.proofs.lemmas.Option.{same_Some}
use Rattle.list_lemmas.proofs.Booleans.{opposed}
use Rattle.aadl_tree.specs.Declarations.{Connection, Implementation, PackageTree}
use Rattle.aadl_names.specs.declared.numbered_port.NumberedPort.{NumberedPort}
use Rattle.aadl_names.specs.declared.numbered_port.NumberedPort.TheVariants.{Own, Inner}
use Rattle.aadl_names.specs.NameResolution.{implementation_at, is_thread, end_port}
use Rattle.aadl_uses.specs.ContainmentAndUse.{below, number_at_path, component_at}
use Rattle.aadl_chains.specs.Chains.{Port, ConnectionAt, port_at, Goes, Leads, is_in, IsStart}
use Rattle.aadl_chains.specs.proof.PortsJoinedInside.{is_in_at}
use Rattle.aadl_chains.specs.proof.PermittedConnections.{MayEnter}
use Rattle.aadl_chains.proofs.ConnectionsOnChains.{is_in-at}
use Rattle.aadl_chains.specs.proof.FaultlessConnections.{AreFaultless}
use Rattle.aadl_chains.specs.proof.TracedChains.{Passes}

place_by : (a b : ConnectionAt) → a.path ≡ b.path → a.connection ≡ b.connection → a ≡ b
place_by a b path number =
    let first : a ≡ record { path = b.path; connection = a.connection } =
    ap (λ p. record { path = p; connection = a.connection }) path in
    let second : record { path = b.path; connection = a.connection }
    ≡ b = ap (λ i. record { path = b.path; connection = i }) number in
    first ∙ second

module _ (tree : PackageTree ℕ) (root : ℕ) where
  -- the implementation at a path has its own ports there
  goes_at : (path : List ℕ) (n p : ℕ) → number_at_path tree root path ≡ Some n
      → is_in tree root (record { path = path; port = p }) ≡ is_in_at tree n p
  goes_at path n p e = is_in-at tree root (record { path = path; port = p }) n e

  standing_at : (a : ConnectionAt) (from to : Port) → (g : Goes tree root a from to)
      → component_at tree root a.path ≡ Some g.component
  standing_at a from to g = ap (option_and_then (implementation_at tree)) g.stands ∙ g.is_component

  standing_in : (a : ConnectionAt) (from to : Port) → (g : Goes tree root a from to) → (s m : ℕ)
      → below tree g.number s ≡ Some m
      → number_at_path tree root (s ∷ a.path) ≡ Some m
  standing_in a from to g s m e = ap (option_and_then (λ n. below tree n s)) g.stands ∙ e

  module _ (sound : AreFaultless tree root) where
    -- two connections with the same path and target have the same component and source
    same_place : (a b : ConnectionAt) (from1 from2 to : Port)
        → (g : Goes tree root a from1 to) (h : Goes tree root b from2 to)
        → a.path ≡ b.path
        → g.target ≡ h.target → (a ≡ b) × (from1 ≡ from2)
    same_place a b from1 from2 to g h path target =
        let n : g.number ≡ h.number =
        same_Some g.number h.number (sym g.stands ∙ (ap (number_at_path tree root) path ∙ h.stands)) in
        let c : g.component ≡ h.component =
        same_Some g.component h.component (sym g.is_component ∙ (ap (implementation_at tree) n ∙ h.is_component)) in
        let l : slice_get h.component.connections a.connection
        ≡ Some g.link =
        subst (λ (e : Implementation ℕ). slice_get e.connections a.connection ≡ Some g.link) c g.is_link in
        let t : end_port tree h.component g.link.target ≡ Some h.target =
        subst (λ (e : Implementation ℕ). end_port tree e g.link.target ≡ Some h.target) c
        (g.is_target ∙ ap Some target) in
        let i : a.connection ≡ b.connection =
        sound.one_source h.number a.connection b.connection h.component g.link h.link h.target (b.path, h.stands)
        h.is_component l h.is_link t h.is_target in
        let m : g.link ≡ h.link =
        same_Some g.link h.link (sym l ∙ (ap (slice_get h.component.connections) i ∙ h.is_link)) in
        let s : g.source ≡ h.source = same_Some g.source h.source
        (sym g.is_source ∙ (ap (λ (e : Implementation ℕ). end_port tree e g.link.source) c
        ∙ (ap (λ (k : Connection ℕ). end_port tree h.component k.source) m ∙ h.is_source))) in
        let f : port_at a.path g.source ≡ port_at b.path h.source = ap (λ p. port_at p g.source) path
        ∙ ap (port_at b.path) s in
        (place_by a b path i, g.leaves ∙ (f ∙ sym h.leaves))

    -- an own out port is not an in port of a subcomponent
    never_both : (a b : ConnectionAt) (from1 from2 to : Port)
        → (g : Goes tree root a from1 to) (h : Goes tree root b from2 to)
        → (p t q : ℕ)
        → MayEnter tree g.number (Own p) → MayEnter tree h.number (Inner t q)
        → port_at a.path (Own p) ≡ port_at b.path (Inner t q) → ⊥
    never_both a b from1 from2 to g h p t q mg mh e =
        let there : is_in tree root (port_at b.path (Inner t q)) ≡ true =
        goes_at (t ∷ b.path) mh.0 q (standing_in b from2 to h t mh.0 mh.1) ∙ mh.2 in
        let here : is_in tree root (port_at a.path (Own p)) ≡ false = goes_at a.path g.number p g.stands ∙ mg in
        opposed (is_in tree root (port_at a.path (Own p))) (ap (is_in tree root) e ∙ there) here

    by_targets : (a b : ConnectionAt) (from1 from2 to : Port)
        → (g : Goes tree root a from1 to) (h : Goes tree root b from2 to)
        → (x y : NumberedPort) → g.target ≡ x
        → h.target ≡ y
        → MayEnter tree g.number x → MayEnter tree h.number y → port_at a.path x ≡ port_at b.path y
        → (a ≡ b) × (from1 ≡ from2)
    by_targets a b from1 from2 to g h (Own p) (Own q) gx hy mg mh e =
        same_place a b from1 from2 to g h (ap (λ (k : Port). k.path) e)
        (gx ∙ (ap (λ (k : Port). Own k.port) e ∙ sym hy))
    by_targets a b from1 from2 to g h (Inner s p) (Inner t q) gx hy mg mh e =
        let path : s ∷ a.path ≡ t ∷ b.path = ap (λ (k : Port). k.path) e in
        let port : p ≡ q = ap (λ (k : Port). k.port) e in
        same_place a b from1 from2 to g h (cc path) (gx ∙ (cc (path, port) ∙ sym hy))
    by_targets a b from1 from2 to g h (Own p) (Inner t q) gx hy mg mh e =
        absurd (never_both a b from1 from2 to g h p t q mg mh e)
    by_targets a b from1 from2 to g h (Inner s p) (Own q) gx hy mg mh e =
        absurd (never_both b a from2 from1 to h g q s p mh mg (sym e))

    may_enter : (a : ConnectionAt) (from to : Port) → (g : Goes tree root a from to) → MayEnter tree g.number g.target
    may_enter a from to g =
        sound.enters g.number a.connection g.component g.link g.target g.is_component g.is_link g.is_target

    -- each port has at most one incoming connection
    pub one_into : (a b : ConnectionAt) (from1 from2 to : Port) → Goes tree root a from1 to → Goes tree root b from2 to
        → (a ≡ b) × (from1 ≡ from2)
    one_into a b from1 from2 to g h =
        by_targets a b from1 from2 to g h g.target h.target refl refl (may_enter a from1 to g) (may_enter b from2 to h)
        (sym g.enters ∙ h.enters)

    -- a root in port or an out port of a thread has none
    start_target : (a : ConnectionAt) (from to : Port) → (g : Goes tree root a from to) → (x : NumberedPort)
        → MayEnter tree g.number x → to ≡ port_at a.path x
        → IsStart tree root to → ⊥
    start_target a from to g (Own p) m e (inl s) =
        let c : g.component ≡ s.0.0 = same_Some g.component s.0.0
        (sym (standing_at a from to g) ∙ (ap (λ (k : Port). component_at tree root k.path) (sym e) ∙ s.0.1.0)) in
        sound.threads g.number a.connection g.component g.link g.is_component
        (ap (λ (k : Implementation ℕ). is_thread k.category) c ∙ s.0.1.1) g.is_link
    start_target a from to g (Inner t p) m e (inl s) =
        let there : is_in tree root (port_at a.path (Inner t p)) ≡ true =
        goes_at (t ∷ a.path) m.0 p (standing_in a from to g t m.0 m.1) ∙ m.2 in
        opposed (is_in tree root to) (ap (is_in tree root) e ∙ there) s.1
    start_target a from to g (Own p) m e (inr s) =
        let here : is_in tree root (port_at a.path (Own p)) ≡ false = goes_at a.path g.number p g.stands ∙ m in
        opposed (is_in tree root to) s.1 (ap (is_in tree root) e ∙ here)
    start_target a from to g (Inner t p) m e (inr s) =
        let path : [] ≡ t ∷ a.path = sym s.0 ∙ ap (λ (k : Port). k.path) e in
        cc path

    pub none_into_start : (a : ConnectionAt) (from to : Port) → Goes tree root a from to → IsStart tree root to → ⊥
    none_into_start a from to g s = start_target a from to g g.target (may_enter a from to g) g.enters s

  -- ---- the backward trace
  pub passes_end : (end : Port) → Passes tree root end end
  passes_end end = record { chain = []; leads = refl; through = λ cs from s l. (cs, l) }

  -- concatenated chains
  pub joined : (cs bs : List ConnectionAt) (a b c : Port) → Leads tree root bs a b → Leads tree root cs b c
      → (es : List ConnectionAt) × Leads tree root es a c
  joined [] bs a b c l e = (bs, subst (λ p. Leads tree root bs a p) e l)
  joined (x ∷ cs) bs a b c l h = let j = joined cs bs a b h.0 l h.1 in (x ∷ j.0, (h.0, j.1, h.2))

  module _ (sound : AreFaultless tree root) where
    through_before : (place : ConnectionAt) (before here from : Port) → Goes tree root place before here
        → IsStart tree root from → (bs : List ConnectionAt)
        → Leads tree root bs from here → (es : List ConnectionAt) × Leads tree root es from before
    through_before place before here from g s [] l =
        absurd (none_into_start sound place before here g (subst (IsStart tree root) l s))
    through_before place before here from g s (b ∷ bs) l =
        (bs, subst (λ p. Leads tree root bs from p) (one_into sound b place l.0 before here l.2 g).1 l.1)

    -- one connection further back
    pub passes_before : (place : ConnectionAt) (before here end : Port) → Goes tree root place before here
        → Passes tree root here end → Passes tree root before end
    passes_before place before here end g p =
        let j = joined p.chain (place ∷ []) before here end (before, refl, g) p.leads in
        record {
          chain = j.0;
          leads = j.1;
          through = λ cs from s l. let b = p.through cs from s l in through_before place before here from g s b.0 b.1;
        }

    only_by : (here from : Port) → IsStart tree root here → (bs : List ConnectionAt) → Leads tree root bs from here
        → from ≡ here
    only_by here from s [] l = l
    only_by here from s (b ∷ bs) l = absurd (none_into_start sound b l.0 here l.2 s)

    -- at a first port the trace is at its end: chains begin there and nowhere else
    pub only_start : (here end from : Port) → Passes tree root here end → IsStart tree root here
        → IsStart tree root from → (cs : List ConnectionAt)
        → Leads tree root cs from end → from ≡ here
    only_start here end from p s t cs l = let b = p.through cs from t l in only_by here from s b.0 b.1

  none_by : (here from : Port) → (IsStart tree root here → ⊥)
      → ((place : ConnectionAt) (before : Port) → Goes tree root place before here → ⊥)
      → IsStart tree root from → (bs : List ConnectionAt) → Leads tree root bs from here → ⊥
  none_by here from never none t [] l = never (subst (IsStart tree root) l t)
  none_by here from never none t (b ∷ bs) l = none b l.0 l.2

  -- if a port has no incoming connection and is not a first port, no chain leads to it
  pub no_chain : (here end from : Port) → Passes tree root here end → (IsStart tree root here → ⊥)
      → ((place : ConnectionAt) (before : Port) → Goes tree root place before here → ⊥) → IsStart tree root from
      → (cs : List ConnectionAt) → Leads tree root cs from end
      → ⊥
  no_chain here end from p never none t cs l = let b = p.through cs from t l in none_by here from never none t b.0 b.1
