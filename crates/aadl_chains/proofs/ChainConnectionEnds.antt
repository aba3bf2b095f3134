-- If a connection is on a connection chain, its source leads back to a possible first port, and its target leads to a
-- possible last port.
use Rattle.std.proofs.Common.{◌≡◌, inl, inr, ℕ, zero, suc, Bool, true, false, not, List, [], ◌∷◌, slice_get, Contains}
use Rattle.std.proofs.Common.{Some, refl, sym, ap, subst, ◌∙◌}
use Rattle.std.proofs.lemmas.Option.{same_Some}
use Rattle.list_lemmas.proofs.Elements.{Contains-nil}
use Rattle.list_lemmas.proofs.ElementPositions.{slice_get-from_Contains, Contains-from_slice_get}
use Rattle.list_lemmas.proofs.Booleans.{opposed}
use Rattle.aadl_tree.specs.declared.declarations.Direction.TheVariants as directions
use Rattle.aadl_tree.specs.Declarations.{PackageTree}
use Rattle.aadl_names.specs.declared.numbered_port.NumberedPort.{NumberedPort}
use Rattle.aadl_names.specs.declared.numbered_port.NumberedPort.TheVariants.{Own, Inner}
use Rattle.aadl_uses.specs.ContainmentAndUse.{below, number_at_path}
use Rattle.aadl_uses.specs.declared.connections_by_target.ConnectionPorts.{ConnectionPorts}
use Rattle.aadl_uses.specs.PortsOfConnections.{connection_ports_at}
use Rattle.aadl_chains.specs.proof.PortsJoinedInside.{is_thread_at, is_in_at, Reaches, of_thread, of_inner}
use Rattle.aadl_chains.specs.proof.PortsJoinedOutside.{LeadsOut, of_root, of_own, of_beside, LeadsFrom}
use Rattle.aadl_chains.specs.Chains.{Port, ConnectionAt, port_at, Goes, Leads, is_in, IsStart, IsEnd}
use Rattle.aadl_chains.specs.proof.PermittedConnections.{MayLeave, MayEnter, NotBothOwn, ArePermitted}
use Rattle.aadl_chains.specs.proof.ConnectionsOnChains.{IsOnChain}
use Rattle.aadl_chains.proofs.ConnectionsOnChains.{port, next_at, below_at, is_in-at, thread_from, wire_of_goes}
use Rattle.aadl_chains.proofs.ConnectionsOnChains.{among_goes, Chained}

module _ (tree : PackageTree ℕ) (root : ℕ) where
  -- consecutive connections, in their order
  Ahead : List ConnectionAt → Port → Port → Type 0
  Ahead [] from to = from ≡ to
  Ahead (c ∷ cs) from to = (mid : Port) × Goes tree root c from mid × Ahead cs mid to

  turned : (cs ds : List ConnectionAt) (a b c : Port) → Leads tree root cs a b → Ahead ds b c
      → (es : List ConnectionAt) × Ahead es a c
  unfolding Ahead
  turned [] ds a b c l h = (ds, subst (λ p. Ahead ds p c) (sym l) h)
  turned (x ∷ cs) ds a b c l h = turned cs (x ∷ ds) a l.0 c l.1 (b, l.2, h)

  module _ (sound : ArePermitted tree) where
    -- ---- from chains to the ports that their ends lead to
    -- the facts about both ends of a connection of a chain
    pub record Step (n : ℕ) (source target : NumberedPort) : Type 0 where
      pub wire : ConnectionPorts
      pub among : Contains (connection_ports_at tree n) wire
      pub source_is : wire.source ≡ Some source
      pub target_is : wire.target ≡ Some target
      pub leaves : MayLeave tree n source
      pub enters : MayEnter tree n target
      pub not_both : NotBothOwn source target
      pub no_thread : is_thread_at tree n ≡ false

    step : (place : ConnectionAt) (from to : Port) → (g : Goes tree root place from to)
        → Step g.number g.source g.target
    step place from to g =
        let w : ConnectionPorts = record { source = Some g.source; target = Some g.target } in
        let h = among_goes tree root place from to g in
        let d = sound.each g.number w h in
        let s : d.source ≡ g.source = sym (same_Some g.source d.source d.source_is) in
        let t : d.target ≡ g.target = sym (same_Some g.target d.target d.target_is) in
        record {
          wire = w;
          among = h;
          source_is = refl;
          target_is = refl;
          leaves = subst (MayLeave tree g.number) s d.leaves;
          enters = subst (MayEnter tree g.number) t d.enters;
          not_both = subst (λ a. NotBothOwn a g.target) s (subst (NotBothOwn d.source) t d.not_both);
          no_thread = by (is_thread_at tree g.number) refl;
        }
      where
        by : (b : Bool) → is_thread_at tree g.number ≡ b → is_thread_at tree g.number ≡ false
        by true e = absurd (Contains-nil (record { source = Some g.source; target = Some g.target })
            (subst (λ ws. Contains ws (record { source = Some g.source; target = Some g.target }))
            (sound.threads g.number e)
            (among_goes tree root place from to g)))
        by false e = e

    same_number : (path : List ℕ) (p : Port) (a b : ℕ) → p.path ≡ path → number_at_path tree root p.path ≡ Some a
        → number_at_path tree root path ≡ Some b → a ≡ b
    same_number path p a b e x y = same_Some a b (sym x ∙ (ap (number_at_path tree root) e ∙ y))

    -- at a first port
    starts_out : (p : Port) (n : ℕ) → number_at_path tree root p.path ≡ Some n → is_in_at tree n p.port ≡ false
        → IsStart tree root p
        → Reaches tree directions.Out n p.port
    starts_out p n stands out (inl s) = of_thread (thread_from tree root p.path n stands s.0) (ap not out)
    starts_out p n stands out (inr s) = absurd (opposed (is_in tree root p) s.1 (is_in-at tree root p n stands ∙ out))

    starts_in : (p : Port) (n : ℕ) → number_at_path tree root p.path ≡ Some n → is_in_at tree n p.port ≡ true
        → IsStart tree root p
        → LeadsOut tree root directions.In n p.port
    starts_in p n stands into (inl s) = absurd (opposed (is_in tree root p) (is_in-at tree root p n stands ∙ into) s.1)
    starts_in p n stands into (inr s) = of_root
        (sym (same_Some root n (sym (ap (number_at_path tree root) s.0) ∙ stands)))

    ends_in : (p : Port) (n : ℕ) → number_at_path tree root p.path ≡ Some n → is_in_at tree n p.port ≡ true
        → IsEnd tree root p → Reaches tree directions.In n p.port
    ends_in p n stands into (inl s) = of_thread (thread_from tree root p.path n stands s.0) into
    ends_in p n stands into (inr s) = absurd (opposed (is_in tree root p) (is_in-at tree root p n stands ∙ into) s.1)

    ends_out : (p : Port) (n : ℕ) → number_at_path tree root p.path ≡ Some n → is_in_at tree n p.port ≡ false
        → IsEnd tree root p
        → LeadsOut tree root directions.Out n p.port
    ends_out p n stands out (inl s) = absurd (opposed (is_in tree root p) s.1 (is_in-at tree root p n stands ∙ out))
    ends_out p n stands out (inr s) = of_root
        (sym (same_Some root n (sym (ap (number_at_path tree root) s.0) ∙ stands)))

    -- the implementation at an end of a connection
    inner_of : (path : List ℕ) (n k s : ℕ) (p : Port) → p.path ≡ s ∷ path → number_at_path tree root path ≡ Some k
        → number_at_path tree root p.path ≡ Some n
        → below tree k s ≡ Some n
    inner_of path n k s p e x y = below_at tree root path k s n x (ap (number_at_path tree root) (sym e) ∙ y)

    not_in : (m n : ℕ) (s q k : ℕ) → below tree k s ≡ Some m → below tree k s ≡ Some n → is_in_at tree m q ≡ true
        → is_in_at tree n q ≡ false → ⊥
    not_in m n s q k a b x y =
        opposed (is_in_at tree n q) (ap (λ i. is_in_at tree i q) (same_Some n m (sym b ∙ a)) ∙ x) y

    path_is : {p : Port} {path : List ℕ} {q : ℕ} → p ≡ port path q → p.path ≡ path
    path_is e = ap (λ (k : Port). k.path) e

    port_is : {p : Port} {path : List ℕ} {q : ℕ} → p ≡ port path q → p.port ≡ q
    port_is e = ap (λ (k : Port). k.port) e

    stands_at : (p : Port) (path : List ℕ) (q m : ℕ) → p ≡ port path q → number_at_path tree root path ≡ Some m
        → number_at_path tree root p.path ≡ Some m
    stands_at p path q m e h = ap (number_at_path tree root) (path_is e) ∙ h

    way_at : (p : Port) (path : List ℕ) (q m : ℕ) (b : Bool) → p ≡ port path q → is_in_at tree m q ≡ b
        → is_in_at tree m p.port ≡ b
    way_at p path q m b e h = ap (is_in_at tree m) (port_is e) ∙ h

    -- one connection further, from or to the port of a subcomponent or an own port
    module _ (c : ConnectionAt) (mid p : Port) (g : Goes tree root c mid p) where
      st : Step g.number g.source g.target
      st = step c mid p g

      from_at : (x : NumberedPort) → g.source ≡ x → mid ≡ port_at c.path x
      from_at x e = g.leaves ∙ ap (port_at c.path) e

      to_at : (x : NumberedPort) → g.target ≡ x → p ≡ port_at c.path x
      to_at x e = g.enters ∙ ap (port_at c.path) e

      both_at : (x y : NumberedPort) → g.source ≡ x → g.target ≡ y → NotBothOwn x y
      both_at x y e f = subst (λ a. NotBothOwn a y) e (subst (NotBothOwn g.source) f st.not_both)

      own_source : (q : ℕ) → g.source ≡ Own q → is_in_at tree g.number q ≡ true
      own_source q e = subst (MayLeave tree g.number) e st.leaves

      inner_source : (s q : ℕ) → g.source ≡ Inner s q → MayLeave tree g.number (Inner s q)
      inner_source s q e = subst (MayLeave tree g.number) e st.leaves

      own_target : (q : ℕ) → g.target ≡ Own q → is_in_at tree g.number q ≡ false
      own_target q e = subst (MayEnter tree g.number) e st.enters

      inner_target : (s q : ℕ) → g.target ≡ Inner s q → MayEnter tree g.number (Inner s q)
      inner_target s q e = subst (MayEnter tree g.number) e st.enters

      -- the implementation at a port of a connection's component, and at a port of one of its subcomponents
      own_at : (o : Port) (q n : ℕ) → o ≡ port c.path q → number_at_path tree root o.path ≡ Some n → g.number ≡ n
      own_at o q n e stands = sym (same_number c.path o n g.number (path_is e) stands g.stands)

      sub_at : (o : Port) (s q n : ℕ) → o ≡ port (s ∷ c.path) q → number_at_path tree root o.path ≡ Some n
          → below tree g.number s ≡ Some n
      sub_at o s q n e stands = inner_of c.path n g.number s o (path_is e) g.stands stands

      -- an in port of a subcomponent is not an out port
      no_inner_target : (n s q : ℕ) → g.target ≡ Inner s q → number_at_path tree root p.path ≡ Some n
          → is_in_at tree n p.port ≡ false → ⊥
      no_inner_target n s q e stands out =
          let m = inner_target s q e in
          not_in m.0 n s q g.number m.1 (sub_at p s q n (to_at (Inner s q) e) stands) m.2
          (ap (is_in_at tree n) (sym (port_is (to_at (Inner s q) e))) ∙ out)

      no_own_target : (n q : ℕ) → g.target ≡ Own q → number_at_path tree root p.path ≡ Some n
          → is_in_at tree n p.port ≡ true → ⊥
      no_own_target n q e stands into =
          let same = own_at p q n (to_at (Own q) e) stands in
          opposed (is_in_at tree n p.port) into
          (ap (is_in_at tree n) (port_is (to_at (Own q) e))
          ∙ (ap (λ i. is_in_at tree i q) (sym same) ∙ own_target q e))

      no_inner_source : (n s q : ℕ) → g.source ≡ Inner s q → number_at_path tree root mid.path ≡ Some n
          → is_in_at tree n mid.port ≡ true → ⊥
      no_inner_source n s q e stands into =
          let m = inner_source s q e in
          not_in n m.0 s q g.number (sub_at mid s q n (from_at (Inner s q) e) stands) m.1
          (ap (is_in_at tree n) (sym (port_is (from_at (Inner s q) e))) ∙ into) m.2

      no_own_source : (n q : ℕ) → g.source ≡ Own q → number_at_path tree root mid.path ≡ Some n
          → is_in_at tree n mid.port ≡ false → ⊥
      no_own_source n q e stands out =
          let same = own_at mid q n (from_at (Own q) e) stands in
          opposed (is_in_at tree n mid.port) (ap (is_in_at tree n) (port_is (from_at (Own q) e))
          ∙ (ap (λ i. is_in_at tree i q) (sym same) ∙ own_source q e)) out

      gives_step : (n : ℕ) (x y : NumberedPort) → g.source ≡ x → g.target ≡ y → number_at_path tree root p.path ≡ Some n
          → is_in_at tree n p.port ≡ false
          → ((m : ℕ) → number_at_path tree root mid.path ≡ Some m → is_in_at tree m mid.port ≡ false
          → Reaches tree directions.Out m mid.port)
          → Reaches tree directions.Out n p.port
      gives_step n x (Inner s q) f e stands out rest = absurd (no_inner_target n s q e stands out)
      gives_step n (Own o) (Own q) f e stands out rest = absurd (both_at (Own o) (Own q) f e)
      gives_step n (Inner s o) (Own q) f e stands out rest =
          let m = inner_source s o f in
          let mid_is = from_at (Inner s o) f in
          let r =
          rest m.0 (stands_at mid (s ∷ c.path) o m.0 mid_is (next_at tree root c.path g.number s m.0 g.stands m.1))
          (way_at mid (s ∷ c.path) o m.0 false mid_is m.2) in
          let here : Reaches tree directions.Out g.number q =
          of_inner s o m.0 st.wire st.no_thread st.among (st.target_is ∙ ap Some e) (st.source_is ∙ ap Some f) m.1
          (subst (Reaches tree directions.Out m.0) (port_is mid_is) r) in
          subst (λ i. Reaches tree directions.Out i p.port) (own_at p q n (to_at (Own q) e) stands)
          (subst (Reaches tree directions.Out g.number) (sym (port_is (to_at (Own q) e))) here)

      takes_step : (n : ℕ) (x y : NumberedPort) → g.source ≡ x → g.target ≡ y
          → number_at_path tree root mid.path ≡ Some n
          → is_in_at tree n mid.port ≡ true
          → ((m : ℕ) → number_at_path tree root p.path ≡ Some m → is_in_at tree m p.port ≡ true
          → Reaches tree directions.In m p.port)
          → Reaches tree directions.In n mid.port
      takes_step n (Inner s o) y f e stands into rest = absurd (no_inner_source n s o f stands into)
      takes_step n (Own o) (Own q) f e stands into rest = absurd (both_at (Own o) (Own q) f e)
      takes_step n (Own o) (Inner s q) f e stands into rest =
          let m = inner_target s q e in
          let to_is = to_at (Inner s q) e in
          let r = rest m.0 (stands_at p (s ∷ c.path) q m.0 to_is (next_at tree root c.path g.number s m.0 g.stands m.1))
          (way_at p (s ∷ c.path) q m.0 true to_is m.2) in
          let here : Reaches tree directions.In g.number o =
          of_inner s q m.0 st.wire st.no_thread st.among (st.source_is ∙ ap Some f) (st.target_is ∙ ap Some e) m.1
          (subst (Reaches tree directions.In m.0) (port_is to_is) r) in
          subst (λ i. Reaches tree directions.In i mid.port) (own_at mid o n (from_at (Own o) f) stands)
          (subst (Reaches tree directions.In g.number) (sym (port_is (from_at (Own o) f))) here)

      -- a port of a component inside the component of the connection
      fed_step : (n : ℕ) (x y : NumberedPort) → g.source ≡ x → g.target ≡ y → number_at_path tree root p.path ≡ Some n
          → is_in_at tree n p.port ≡ true
          → ((m : ℕ) → number_at_path tree root mid.path ≡ Some m → is_in_at tree m mid.port ≡ true
          → LeadsOut tree root directions.In m mid.port)
          → ((m : ℕ) → number_at_path tree root mid.path ≡ Some m → is_in_at tree m mid.port ≡ false
          → Reaches tree directions.Out m mid.port)
          → LeadsOut tree root directions.In n p.port
      fed_step n x (Own q) f e stands into outer inner = absurd (no_own_target n q e stands into)
      fed_step n (Own o) (Inner s q) f e stands into outer inner =
          let mid_is = from_at (Own o) f in
          let to_is = to_at (Inner s q) e in
          let r =
          outer g.number (stands_at mid c.path o g.number mid_is g.stands)
          (way_at mid c.path o g.number true mid_is (own_source o f)) in
          subst (LeadsOut tree root directions.In n) (sym (port_is to_is))
          (of_own g.number s o st.wire st.among (st.target_is ∙ ap Some e) (st.source_is ∙ ap Some f)
          (sub_at p s q n to_is stands)
          (subst (LeadsOut tree root directions.In g.number) (port_is mid_is) r))
      fed_step n (Inner t o) (Inner s q) f e stands into outer inner =
          let m = inner_source t o f in
          let mid_is = from_at (Inner t o) f in
          let to_is = to_at (Inner s q) e in
          let r =
          inner m.0 (stands_at mid (t ∷ c.path) o m.0 mid_is (next_at tree root c.path g.number t m.0 g.stands m.1))
          (way_at mid (t ∷ c.path) o m.0 false mid_is m.2) in
          subst (LeadsOut tree root directions.In n) (sym (port_is to_is))
          (of_beside g.number s t o m.0 st.wire (c.path, g.stands) st.among (st.target_is ∙ ap Some e)
          (st.source_is ∙ ap Some f)
          (sub_at p s q n to_is stands) m.1 (subst (Reaches tree directions.Out m.0) (port_is mid_is) r))

      led_step : (n : ℕ) (x y : NumberedPort) → g.source ≡ x → g.target ≡ y → number_at_path tree root mid.path ≡ Some n
          → is_in_at tree n mid.port ≡ false
          → ((m : ℕ) → number_at_path tree root p.path ≡ Some m → is_in_at tree m p.port ≡ false
          → LeadsOut tree root directions.Out m p.port)
          → ((m : ℕ) → number_at_path tree root p.path ≡ Some m → is_in_at tree m p.port ≡ true
          → Reaches tree directions.In m p.port)
          → LeadsOut tree root directions.Out n mid.port
      led_step n (Own o) y f e stands out outer inner = absurd (no_own_source n o f stands out)
      led_step n (Inner s o) (Own q) f e stands out outer inner =
          let mid_is = from_at (Inner s o) f in
          let to_is = to_at (Own q) e in
          let r =
          outer g.number (stands_at p c.path q g.number to_is g.stands)
          (way_at p c.path q g.number false to_is (own_target q e)) in
          subst (LeadsOut tree root directions.Out n) (sym (port_is mid_is))
          (of_own g.number s q st.wire st.among (st.source_is ∙ ap Some f) (st.target_is ∙ ap Some e)
          (sub_at mid s o n mid_is stands)
          (subst (LeadsOut tree root directions.Out g.number) (port_is to_is) r))
      led_step n (Inner s o) (Inner t q) f e stands out outer inner =
          let m = inner_target t q e in
          let mid_is = from_at (Inner s o) f in
          let to_is = to_at (Inner t q) e in
          let r =
          inner m.0 (stands_at p (t ∷ c.path) q m.0 to_is (next_at tree root c.path g.number t m.0 g.stands m.1))
          (way_at p (t ∷ c.path) q m.0 true to_is m.2) in
          subst (LeadsOut tree root directions.Out n) (sym (port_is mid_is))
          (of_beside g.number s t q m.0 st.wire (c.path, g.stands) st.among (st.source_is ∙ ap Some f)
          (st.target_is ∙ ap Some e)
          (sub_at mid s o n mid_is stands) m.1 (subst (Reaches tree directions.In m.0) (port_is to_is) r))

    gives_of : (cs : List ConnectionAt) (from p : Port) (n : ℕ) → Leads tree root cs from p → IsStart tree root from
        → number_at_path tree root p.path ≡ Some n
        → is_in_at tree n p.port ≡ false → Reaches tree directions.Out n p.port
    gives_of [] from p n l start stands out = starts_out p n stands out (subst (IsStart tree root) l start)
    gives_of (c ∷ cs) from p n l start stands out = gives_step c l.0 p l.2 n l.2.source l.2.target refl refl stands out
        (λ m h i. gives_of cs from l.0 m l.1 start h i)

    fed_of : (cs : List ConnectionAt) (from p : Port) (n : ℕ) → Leads tree root cs from p → IsStart tree root from
        → number_at_path tree root p.path ≡ Some n
        → is_in_at tree n p.port ≡ true → LeadsOut tree root directions.In n p.port
    fed_of [] from p n l start stands into = starts_in p n stands into (subst (IsStart tree root) l start)
    fed_of (c ∷ cs) from p n l start stands into =
        fed_step c l.0 p l.2 n l.2.source l.2.target refl refl stands into (λ m h i. fed_of cs from l.0 m l.1 start h i)
        (λ m h i. gives_of cs from l.0 m l.1 start h i)

    takes_of : (cs : List ConnectionAt) (p to : Port) (n : ℕ) → Ahead cs p to → IsEnd tree root to
        → number_at_path tree root p.path ≡ Some n
        → is_in_at tree n p.port ≡ true → Reaches tree directions.In n p.port
    unfolding Ahead
    takes_of [] p to n l ends stands into = ends_in p n stands into (subst (IsEnd tree root) (sym l) ends)
    takes_of (c ∷ cs) p to n l ends stands into = takes_step c p l.0 l.1 n l.1.source l.1.target refl refl stands into
        (λ m h i. takes_of cs l.0 to m l.2 ends h i)

    led_of : (cs : List ConnectionAt) (p to : Port) (n : ℕ) → Ahead cs p to → IsEnd tree root to
        → number_at_path tree root p.path ≡ Some n
        → is_in_at tree n p.port ≡ false → LeadsOut tree root directions.Out n p.port
    unfolding Ahead
    led_of [] p to n l ends stands out = ends_out p n stands out (subst (IsEnd tree root) (sym l) ends)
    led_of (c ∷ cs) p to n l ends stands out =
        led_step c p l.0 l.1 n l.1.source l.1.target refl refl stands out (λ m h i. led_of cs l.0 to m l.2 ends h i)
        (λ m h i. takes_of cs l.0 to m l.2 ends h i)

    -- ---- a chain through a connection
    pub record Parted (chain : List ConnectionAt) (place : ConnectionAt) (from to : Port) : Type 0 where
      pub earlier : List ConnectionAt
      pub later : List ConnectionAt
      pub before : Port
      pub behind : Port
      pub comes : Leads tree root earlier from before
      pub here : Goes tree root place before behind
      pub goes : Leads tree root later behind to

    parted : (chain : List ConnectionAt) (place : ConnectionAt) (from to : Port) (k : ℕ)
        → slice_get chain k ≡ Some place
        → Leads tree root chain from to
        → Parted chain place from to
    parted [] place from to k e l = absurd (Contains-nil place (Contains-from_slice_get [] k place e))
    parted (c ∷ cs) place from to zero e l = record {
      earlier = cs;
      later = [];
      before = l.0;
      behind = to;
      comes = l.1;
      here = subst (λ x. Goes tree root x l.0 to) (same_Some c place e) l.2;
      goes = refl;
    }
    parted (c ∷ cs) place from to (suc k) e l =
        let p = parted cs place from l.0 k e l.1 in
        record {
          earlier = p.earlier;
          later = c ∷ p.later;
          before = p.before;
          behind = p.behind;
          comes = p.comes;
          here = p.here;
          goes = (l.0, p.goes, l.2);
        }

    comes_by : (place : ConnectionAt) (before behind : Port) (g : Goes tree root place before behind)
        (cs : List ConnectionAt)
        (from : Port)
        → Leads tree root cs from before → IsStart tree root from → (x : NumberedPort) → g.source ≡ x
        → LeadsFrom tree root directions.In g.number x
    comes_by place before behind g cs from l start (Own q) e =
        let at = from_at place before behind g (Own q) e in
        subst (LeadsOut tree root directions.In g.number) (port_is at)
        (fed_of cs from before g.number l start (stands_at before place.path q g.number at g.stands)
        (way_at before place.path q g.number true at (own_source place before behind g q e)))
    comes_by place before behind g cs from l start (Inner s q) e =
        let at = from_at place before behind g (Inner s q) e in
        let m = inner_source place before behind g s q e in (
          m.0,
          m.1,
          subst (Reaches tree directions.Out m.0) (port_is at)
              (gives_of cs from before m.0 l start
              (stands_at before (s ∷ place.path) q m.0 at
              (next_at tree root place.path g.number s m.0 g.stands m.1))
              (way_at before (s ∷ place.path) q m.0 false at m.2)),
        )

    goes_on_by : (place : ConnectionAt) (before behind : Port) (g : Goes tree root place before behind)
        (cs : List ConnectionAt)
        (to : Port) → Ahead cs behind to
        → IsEnd tree root to → (x : NumberedPort) → g.target ≡ x
        → LeadsFrom tree root directions.Out g.number x
    goes_on_by place before behind g cs to l ends (Own q) e =
        let at = to_at place before behind g (Own q) e in
        subst (LeadsOut tree root directions.Out g.number) (port_is at)
        (led_of cs behind to g.number l ends (stands_at behind place.path q g.number at g.stands)
        (way_at behind place.path q g.number false at (own_target place before behind g q e)))
    goes_on_by place before behind g cs to l ends (Inner s q) e =
        let at = to_at place before behind g (Inner s q) e in
        let m = inner_target place before behind g s q e in (
          m.0,
          m.1,
          subst (Reaches tree directions.In m.0) (port_is at)
              (takes_of cs behind to m.0 l ends
              (stands_at behind (s ∷ place.path) q m.0 at
              (next_at tree root place.path g.number s m.0 g.stands m.1))
              (way_at behind (s ∷ place.path) q m.0 true at m.2)),
        )

    ahead_none : (p : Port) → Ahead [] p p
    unfolding Ahead
    ahead_none p = refl

    pub on_way : (n k : ℕ) (wire : ConnectionPorts) → slice_get (connection_ports_at tree n) k ≡ Some wire
        → Chained tree root sound n k
        → IsOnChain tree root n wire
    on_way n k wire is c =
        let at = slice_get-from_Contains c.chain c.place c.among in
        let p = parted c.chain c.place c.from c.to c.among.0 at c.is_chain.leads in
        let g = p.here in
        let same : g.number ≡ n = same_Some g.number n (sym g.stands ∙ c.stands) in
        let wire_is : wire ≡ record { source = Some g.source; target = Some g.target } =
        same_Some wire _ (sym is ∙ (ap (slice_get (connection_ports_at tree n)) (sym c.is_connection)
        ∙ (ap (λ i. slice_get (connection_ports_at tree i) c.place.connection) (sym same)
        ∙ wire_of_goes tree root c.place p.before p.behind g))) in
        let a = turned p.later [] p.behind c.to c.to p.goes (ahead_none c.to) in
        record {
          source = g.source;
          target = g.target;
          source_is = ap (λ (w : ConnectionPorts). w.source) wire_is;
          target_is = ap (λ (w : ConnectionPorts). w.target) wire_is;
          comes = subst (λ i. LeadsFrom tree root directions.In i g.source) same
              (comes_by c.place p.before p.behind g p.earlier c.from p.comes c.is_chain.start g.source refl);
          goes = subst (λ i. LeadsFrom tree root directions.Out i g.target) same
              (goes_on_by c.place p.before p.behind g a.0 c.to a.1 c.is_chain.ends g.target refl);
        }
