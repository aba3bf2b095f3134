-- Each chain to an in port consists of the connections on the backward trace from this port.
use Rattle.std.proofs.Common.{◌≡◌, ◌⊎◌, inl, inr, ℕ, Bool, true, false, not, List, [], ◌∷◌, slice_get, Contains, Option}
use Rattle.std.proofs.Common.{Some, refl, sym, ap, subst, ◌∙◌}
use Rattle.std.proofs.lemmas.Bool.{true≢false, and_parts}
use Rattle.std.proofs.lemmas.Option.{same_Some}
use Rattle.list_lemmas.proofs.Elements.{Contains-nil, Contains-cons_cases}
use Rattle.list_lemmas.proofs.Booleans.{opposed}
use Rattle.aadl_tree.specs.declared.declarations.Direction.TheVariants as directions
use Rattle.aadl_tree.specs.Declarations.{Connection, Implementation, PackageTree}
use Rattle.aadl_names.specs.declared.numbered_port.NumberedPort.{NumberedPort}
use Rattle.aadl_names.specs.declared.numbered_port.NumberedPort.TheVariants.{Own, Inner}
use Rattle.aadl_names.specs.NameResolution.{implementation_at, end_port}
use Rattle.aadl_uses.specs.ContainmentAndUse.{below, number_at_path}
use Rattle.aadl_uses.specs.ThreadsBelow.{IsThreadAt}
use Rattle.aadl_uses.specs.proof.IncomingConnections.{connection_into}
use Rattle.aadl_chains.specs.proof.PortsJoinedInside.{is_in_at, Reaches, of_thread, of_inner}
use Rattle.aadl_chains.specs.Chains.{Port, ConnectionAt, port_at, Goes, Leads, is_in, IsStart}
use Rattle.aadl_chains.specs.proof.PermittedConnections.{MayLeave, MayEnter, NotBothOwn, ArePermitted}
use Rattle.aadl_chains.proofs.ConnectionsOnChains.{next_at, below_at, is_in-at, thread_from}
use Rattle.aadl_chains.specs.proof.UpwardWalks.{Crossing, at_root, crosses, walk_back, OneEach}
use Rattle.aadl_chains.specs.LinksFeedsAndTaps.{not_own, is_crossing}
use Rattle.aadl_chains.proofs.FirstIncomingConnections.{into_of_goes, Known, known}
use Rattle.aadl_chains.proofs.ChainsOfWalks.{climb_own, climb_inner}

abbrev port : List ℕ → ℕ → Port
port path p = record { path = path; port = p }

module _ (tree : PackageTree ℕ) (root : ℕ) where
  -- a connection between two subcomponents
  pub record Crosses (place : ConnectionAt) : Type 0 where
    pub number : ℕ
    pub component : Implementation ℕ
    pub link : Connection ℕ
    pub stands : number_at_path tree root place.path ≡ Some number
    pub is_component : implementation_at tree number ≡ Some component
    pub is_link : slice_get component.connections place.connection ≡ Some link
    pub kind : is_crossing tree component link ≡ true

  -- a connection with an own port at one end is not between two subcomponents
  pub both_inner : (place : ConnectionAt) (from to : Port) → (g : Goes tree root place from to) → Crosses place
      → (not_own (Some g.source) ≡ true) × (not_own (Some g.target) ≡ true)
  both_inner place from to g x =
      let n : x.number ≡ g.number = same_Some x.number g.number (sym x.stands ∙ g.stands) in
      let c : x.component ≡ g.component =
      same_Some x.component g.component (sym x.is_component ∙ (ap (implementation_at tree) n ∙ g.is_component)) in
      let l : x.link ≡ g.link = same_Some x.link g.link
      (sym x.is_link ∙ (ap (λ (e : Implementation ℕ). slice_get e.connections place.connection) c ∙ g.is_link)) in
      let k : is_crossing tree g.component g.link ≡ true =
      ap (λ (e : Implementation ℕ). is_crossing tree e g.link) (sym c)
      ∙ (ap (is_crossing tree x.component) (sym l) ∙ x.kind) in
      let b =
      and_parts (not_own (end_port tree g.component g.link.source)) (not_own (end_port tree g.component g.link.target))
      k in
      (ap not_own (sym g.is_source) ∙ b.0, ap not_own (sym g.is_target) ∙ b.1)

  module _ (sound : ArePermitted tree) where
    module _ (c : ConnectionAt) (mid p : Port) (g : Goes tree root c mid p) where
      k : Known tree root g.number g.source g.target
      k = known tree root sound c mid p g

      into_inner : (x : NumberedPort) → g.target ≡ x → (n : ℕ) → number_at_path tree root p.path ≡ Some n
          → is_in_at tree n p.port ≡ true
          → (s q : ℕ) × (x ≡ Inner s q) × (p ≡ port (s ∷ c.path) q)
      into_inner (Inner s q) e n stands into = (s, q, refl, g.enters ∙ ap (port_at c.path) e)
      into_inner (Own q) e n stands into =
          let is : p ≡ port c.path q = g.enters ∙ ap (port_at c.path) e in
          let m : n ≡ g.number = same_Some n g.number
          (sym stands ∙ (ap (λ (o : Port). number_at_path tree root o.path) is ∙ g.stands)) in
          let out : is_in_at tree g.number q ≡ false = subst (MayEnter tree g.number) e k.enters in
          absurd (opposed (is_in_at tree n p.port) into
          (ap (is_in_at tree n) (ap (λ (o : Port). o.port) is) ∙ (ap (λ i. is_in_at tree i q) m ∙ out)))

      pub into_own : (x : NumberedPort) → g.target ≡ x → (n : ℕ) → number_at_path tree root p.path ≡ Some n
          → is_in_at tree n p.port ≡ false
          → (q : ℕ) × (x ≡ Own q) × (p ≡ port c.path q) × (n ≡ g.number)
      into_own (Own q) e n stands out =
          let is : p ≡ port c.path q = g.enters ∙ ap (port_at c.path) e in (
            q,
            refl,
            is,
            same_Some n g.number
                (sym stands ∙ (ap (λ (o : Port). number_at_path tree root o.path) is ∙ g.stands)),
          )
      into_own (Inner s q) e n stands out =
          let is : p ≡ port (s ∷ c.path) q = g.enters ∙ ap (port_at c.path) e in
          let m = subst (MayEnter tree g.number) e k.enters in
          let b : below tree g.number s ≡ Some n =
          below_at tree root c.path g.number s n g.stands (ap (λ (o : Port). number_at_path tree root o.path)
          (sym is) ∙ stands) in
          let same : m.0 ≡ n = same_Some m.0 n (sym m.1 ∙ b) in
          absurd (opposed (is_in_at tree n p.port)
          (ap (is_in_at tree n) (ap (λ (o : Port). o.port) is) ∙ (ap (λ i. is_in_at tree i q) (sym same) ∙ m.2)) out)

      -- the source of the connection
      from_own : (q : ℕ) → g.source ≡ Own q → (mid ≡ port c.path q) × (is_in_at tree g.number q ≡ true)
      from_own q e = (g.leaves ∙ ap (port_at c.path) e, subst (MayLeave tree g.number) e k.leaves)

      pub from_inner : (t q : ℕ) → g.source ≡ Inner t q
          → (mid ≡ port (t ∷ c.path) q) × (m : ℕ) × (below tree g.number t ≡ Some m)
          × (number_at_path tree root (t ∷ c.path) ≡ Some m) × (is_in_at tree m q ≡ false)
      from_inner t q e =
          let m = subst (MayLeave tree g.number) e k.leaves in
          (g.leaves ∙ ap (port_at c.path) e, m.0, m.1, next_at tree root c.path g.number t m.0 g.stands m.1, m.2)

      pub never_both : (q r : ℕ) → g.source ≡ Own q → g.target ≡ Own r → ⊥
      never_both q r e f = subst (λ a. NotBothOwn a (Own r)) e (subst (NotBothOwn g.source) f k.not_both)

    -- ---- down to a thread that provides the value of an out port
    pub record Down (chain : List ConnectionAt) (from p : Port) (n : ℕ) : Type 0 where
      pub thread : IsThreadAt tree root from.path
      pub out : is_in tree root from ≡ false
      pub reaches : Reaches tree directions.Out n p.port
      pub none_crosses : (place : ConnectionAt) → Contains chain place → Crosses place → ⊥
      pub none_outside : (place : ConnectionAt) → Contains chain place → place.path ≡ [] → p.path ≡ []

    not_false : (b : Bool) → b ≡ false → not b ≡ true
    not_false b e = ap not e

    down_start : (p : Port) (n : ℕ) → IsStart tree root p → number_at_path tree root p.path ≡ Some n
        → is_in_at tree n p.port ≡ false → Down [] p p n
    down_start p n (inl s) stands out = record {
      thread = s.0;
      out = s.1;
      reaches = of_thread (thread_from tree root p.path n stands s.0) (not_false (is_in_at tree n p.port) out);
      none_crosses = λ place h x. Contains-nil place h;
      none_outside = λ place h e. absurd (Contains-nil place h);
    }
    down_start p n (inr s) stands out = absurd (opposed (is_in tree root p) s.1 (is_in-at tree root p n stands ∙ out))

    down_step : (c : ConnectionAt) (cs : List ConnectionAt) (from mid p : Port) (n : ℕ) (g : Goes tree root c mid p)
        → (x y : NumberedPort) → g.source ≡ x → g.target ≡ y
        → number_at_path tree root p.path ≡ Some n → is_in_at tree n p.port ≡ false
        → ((m : ℕ) → number_at_path tree root mid.path ≡ Some m → is_in_at tree m mid.port ≡ false → Down cs from mid m)
        → Down (c ∷ cs) from p n
    down_step c cs from mid p n g (Own q) y e f stands out rest =
        let o = into_own c mid p g y f n stands out in
        absurd (never_both c mid p g q o.0 e (f ∙ o.1))
    down_step c cs from mid p n g (Inner t q) y e f stands out rest =
        let o = into_own c mid p g y f n stands out in
        let i = from_inner c mid p g t q e in
        let d =
        rest i.1 (ap (λ (o : Port). number_at_path tree root o.path) i.0 ∙ i.3)
        (ap (is_in_at tree i.1) (ap (λ (o : Port). o.port) i.0) ∙ i.4) in
        let kn = k c mid p g in
        let r : Reaches tree directions.Out g.number o.0 =
        of_inner t q i.1 kn.wire kn.no_thread kn.among (kn.target_is ∙ ap Some (f ∙ o.1)) (kn.source_is ∙ ap Some e) i.2
        (subst (Reaches tree directions.Out i.1) (ap (λ (o : Port). o.port) i.0) d.reaches) in
        record {
          thread = d.thread;
          out = d.out;
          reaches = subst (λ m. Reaches tree directions.Out m p.port) (sym o.3)
              (subst (Reaches tree directions.Out g.number) (sym (ap (λ (o : Port). o.port) o.2)) r);
          none_crosses = λ place h x. by_crossing place x (f ∙ o.1) (Contains-cons_cases c cs place h) d;
          none_outside =
              λ place h root_is. by_outside place root_is (ap (λ (o : Port). o.path) i.0)
              (ap (λ (o : Port). o.path) o.2)
              (Contains-cons_cases c cs place h) d;
        }
      where
        by_crossing : (place : ConnectionAt) → Crosses place → {r : ℕ} → g.target ≡ Own r
            → (c ≡ place) ⊎ Contains cs place
            → {m : ℕ} → Down cs from mid m → ⊥
        by_crossing place x is (inl same) d =
            let b = both_inner c mid p g (subst Crosses (sym same) x) in
            true≢false (sym b.1 ∙ ap (λ (s : NumberedPort). not_own (Some s)) is)
        by_crossing place x is (inr h) d = d.none_crosses place h x

        by_outside : (place : ConnectionAt) → place.path ≡ [] → mid.path ≡ t ∷ c.path → p.path ≡ c.path
            → (c ≡ place) ⊎ Contains cs place → {m : ℕ}
            → Down cs from mid m → p.path ≡ []
        by_outside place e mid_is p_is (inl same) d = p_is ∙ (ap (λ (x : ConnectionAt). x.path) same ∙ e)
        by_outside place e mid_is p_is (inr h) d = let none : [] ≡ t ∷ c.path = sym (d.none_outside place h e)
            ∙ mid_is in cc none

    pub down : (cs : List ConnectionAt) (from p : Port) (n : ℕ) → Leads tree root cs from p → IsStart tree root from
        → number_at_path tree root p.path ≡ Some n
        → is_in_at tree n p.port ≡ false → Down cs from p n
    down [] from p n l start stands out =
        subst (λ f. Down [] f p n) (sym l) (down_start p n (subst (IsStart tree root) l start) stands out)
    down (c ∷ cs) from p n l start stands out =
        down_step c cs from l.0 p n l.2 l.2.source l.2.target refl refl stands out
        (λ m h i. down cs from l.0 m l.1 start h i)

    -- ---- up from an in port
    -- the chain begins at a port of the root
    pub record MetRoot (last : Option ℕ) (chain : List ConnectionAt) (from p : Port) : Type 0 where
      pub by : Option ℕ
      pub port : ℕ
      pub climbs : walk_back tree root last p.path p.port ≡ at_root by port
      pub from_is : from ≡ record { path = []; port = port }
      pub by_is : (place : ConnectionAt) → Contains chain place → place.path ≡ [] → by ≡ Some place.connection

    -- it passes a connection between two subcomponents
    pub record MetCrossing (last : Option ℕ) (chain : List ConnectionAt) (from p : Port) : Type 0 where
      pub crossing : Crossing
      pub climbs : walk_back tree root last p.path p.port ≡ crosses crossing
      pub earlier : List ConnectionAt
      pub leads : Leads tree root earlier from (record { path = crossing.sub ∷ crossing.path; port = crossing.port })
      pub number : ℕ
      pub is_below : below tree crossing.declaration crossing.sub ≡ Some number
      pub stands : number_at_path tree root crossing.path ≡ Some crossing.declaration
      pub is_down : Down earlier from (record { path = crossing.sub ∷ crossing.path; port = crossing.port }) number
      pub only : (place : ConnectionAt) → Contains chain place → Crosses place
          → (number_at_path tree root place.path ≡ Some crossing.declaration) × (place.connection ≡ crossing.connection)

    module _ (one : OneEach tree root) where
      met_start : (last : Option ℕ) (p : Port) (n : ℕ) → IsStart tree root p → number_at_path tree root p.path ≡ Some n
          → is_in_at tree n p.port ≡ true
          → MetRoot last [] p p
      met_start last p n (inl s) stands into =
          absurd (opposed (is_in tree root p) (is_in-at tree root p n stands ∙ into) s.1)
      met_start last p n (inr s) stands into = record {
        by = last;
        port = p.port;
        climbs = ap (λ path. walk_back tree root last path p.port) s.0;
        from_is = ap (λ path. port path p.port) s.0;
        by_is = λ place h e. absurd (Contains-nil place h);
      }

      up_root : (last : Option ℕ) (c : ConnectionAt) (cs : List ConnectionAt) (from mid p : Port)
          (g : Goes tree root c mid p)
          (s r q : ℕ) → g.source ≡ Own q
          → g.target ≡ Inner s r → MetRoot (Some c.connection) cs from mid → MetRoot last (c ∷ cs) from p
      up_root last c cs from mid p g s r q e f m = record {
        by = m.by;
        port = m.port;
        climbs =
            ap (λ (o : Port). walk_back tree root last o.path o.port) to_is
            ∙ (climb_own tree root last c.path s r g.number c.connection q g.stands is
            ∙ (sym (ap (λ (o : Port). walk_back tree root (Some c.connection) o.path o.port) mid_is) ∙ m.climbs));
        from_is = m.from_is;
        by_is = λ place h root_is. by place root_is (Contains-cons_cases c cs place h);
      }
        where
          to_is : p ≡ port (s ∷ c.path) r
          to_is = g.enters ∙ ap (port_at c.path) f

          mid_is : mid ≡ port c.path q
          mid_is = g.leaves ∙ ap (port_at c.path) e

          is : connection_into tree g.number (Inner s r) ≡ Some (c.connection, Own q)
          is =
              ap (connection_into tree g.number) (sym f)
              ∙ (into_of_goes tree root one c mid p g ∙ ap (λ x. Some (c.connection, x)) e)

          here : c.path ≡ [] → m.by ≡ Some c.connection
          here none =
              let at : at_root m.by m.port ≡ at_root (Some c.connection) q =
              sym m.climbs ∙ (ap (λ (o : Port). walk_back tree root (Some c.connection) o.path o.port) mid_is
              ∙ ap (λ path. walk_back tree root (Some c.connection) path q) none) in
              cc at

          by : (place : ConnectionAt) → place.path ≡ [] → (c ≡ place) ⊎ Contains cs place → m.by ≡ Some place.connection
          by place root_is (inl same) =
              here (ap (λ (x : ConnectionAt). x.path) same ∙ root_is)
              ∙ ap (λ (x : ConnectionAt). Some x.connection) same
          by place root_is (inr h) = m.by_is place h root_is

      up_crossing : (last : Option ℕ) (c : ConnectionAt) (cs : List ConnectionAt) (from mid p : Port)
          (g : Goes tree root c mid p)
          (s r q : ℕ) → g.source ≡ Own q
          → g.target ≡ Inner s r → MetCrossing (Some c.connection) cs from mid → MetCrossing last (c ∷ cs) from p
      up_crossing last c cs from mid p g s r q e f m = record {
        crossing = m.crossing;
        climbs =
            ap (λ (o : Port). walk_back tree root last o.path o.port) to_is
            ∙ (climb_own tree root last c.path s r g.number c.connection q g.stands is
            ∙ (sym (ap (λ (o : Port). walk_back tree root (Some c.connection) o.path o.port) mid_is) ∙ m.climbs));
        earlier = m.earlier;
        leads = m.leads;
        number = m.number;
        is_below = m.is_below;
        stands = m.stands;
        is_down = m.is_down;
        only = λ place h x. by place x (Contains-cons_cases c cs place h);
      }
        where
          to_is : p ≡ port (s ∷ c.path) r
          to_is = g.enters ∙ ap (port_at c.path) f

          mid_is : mid ≡ port c.path q
          mid_is = g.leaves ∙ ap (port_at c.path) e

          is : connection_into tree g.number (Inner s r) ≡ Some (c.connection, Own q)
          is =
              ap (connection_into tree g.number) (sym f)
              ∙ (into_of_goes tree root one c mid p g ∙ ap (λ x. Some (c.connection, x)) e)

          by : (place : ConnectionAt) → Crosses place → (c ≡ place) ⊎ Contains cs place
              → (number_at_path tree root place.path ≡ Some m.crossing.declaration)
              × (place.connection ≡ m.crossing.connection)
          by place x (inl same) =
              let b = both_inner c mid p g (subst Crosses (sym same) x) in
              absurd (true≢false (sym b.0 ∙ ap (λ (s : NumberedPort). not_own (Some s)) e))
          by place x (inr h) = m.only place h x

      over_crossing : (last : Option ℕ) (c : ConnectionAt) (cs : List ConnectionAt) (from mid p : Port)
          (g : Goes tree root c mid p)
          (s r t q : ℕ) → g.source ≡ Inner t q
          → g.target ≡ Inner s r → Leads tree root cs from mid → IsStart tree root from
          → MetCrossing last (c ∷ cs) from p
      over_crossing last c cs from mid p g s r t q e f leads start = record {
        crossing = record { path = c.path; declaration = g.number; connection = c.connection; sub = t; port = q };
        climbs = ap (λ (o : Port). walk_back tree root last o.path o.port) to_is
            ∙ climb_inner tree root last c.path s r g.number c.connection t q g.stands is;
        earlier = cs;
        leads = there;
        number = i.1;
        is_below = i.2;
        stands = g.stands;
        is_down = d;
        only = λ place h x. by place x (Contains-cons_cases c cs place h);
      }
        where
          to_is : p ≡ port (s ∷ c.path) r
          to_is = g.enters ∙ ap (port_at c.path) f

          i : (mid ≡ port (t ∷ c.path) q) × (m : ℕ) × (below tree g.number t ≡ Some m)
              × (number_at_path tree root (t ∷ c.path) ≡ Some m)
              × (is_in_at tree m q ≡ false)
          i = from_inner c mid p g t q e

          is : connection_into tree g.number (Inner s r) ≡ Some (c.connection, Inner t q)
          is =
              ap (connection_into tree g.number) (sym f)
              ∙ (into_of_goes tree root one c mid p g ∙ ap (λ x. Some (c.connection, x)) e)

          there : Leads tree root cs from (port (t ∷ c.path) q)
          there = subst (Leads tree root cs from) i.0 leads

          d : Down cs from (port (t ∷ c.path) q) i.1
          d = down cs from (port (t ∷ c.path) q) i.1 there start i.3 i.4

          by : (place : ConnectionAt) → Crosses place → (c ≡ place) ⊎ Contains cs place
              → (number_at_path tree root place.path ≡ Some g.number) × (place.connection ≡ c.connection)
          by place x (inl same) = (
            ap (λ (y : ConnectionAt). number_at_path tree root y.path) (sym same) ∙ g.stands,
            ap (λ (y : ConnectionAt). y.connection) (sym same),
          )
          by place x (inr h) = absurd (d.none_crosses place h x)

      met_step : (last : Option ℕ) (c : ConnectionAt) (cs : List ConnectionAt) (from mid p : Port) (n : ℕ)
          (g : Goes tree root c mid p) → (x y : NumberedPort) → g.source ≡ x
          → g.target ≡ y → number_at_path tree root p.path ≡ Some n → is_in_at tree n p.port ≡ true
          → Leads tree root cs from mid → IsStart tree root from
          → ((m : ℕ) → number_at_path tree root mid.path ≡ Some m → is_in_at tree m mid.port ≡ true
          → MetRoot (Some c.connection) cs from mid ⊎ MetCrossing (Some c.connection) cs from mid)
          → MetRoot last (c ∷ cs) from p ⊎ MetCrossing last (c ∷ cs) from p
      met_step last c cs from mid p n g (Own q) y e f stands into leads start rest =
          let i = into_inner c mid p g y f n stands into in
          let o = from_own c mid p g q e in
          further i.0 i.1 (f ∙ i.2)
          (rest g.number (ap (λ (z : Port). number_at_path tree root z.path) o.0 ∙ g.stands)
          (ap (is_in_at tree g.number) (ap (λ (z : Port). z.port) o.0) ∙ o.1))
        where
          further : (s r : ℕ) → g.target ≡ Inner s r
              → MetRoot (Some c.connection) cs from mid ⊎ MetCrossing (Some c.connection) cs from mid
              → MetRoot last (c ∷ cs) from p ⊎ MetCrossing last (c ∷ cs) from p
          further s r is (inl m) = inl (up_root last c cs from mid p g s r q e is m)
          further s r is (inr m) = inr (up_crossing last c cs from mid p g s r q e is m)
      met_step last c cs from mid p n g (Inner t q) y e f stands into leads start rest =
          let i = into_inner c mid p g y f n stands into in
          inr (over_crossing last c cs from mid p g i.0 i.1 t q e (f ∙ i.2) leads start)

      pub met : (last : Option ℕ) (cs : List ConnectionAt) (from p : Port) (n : ℕ) → Leads tree root cs from p
          → IsStart tree root from
          → number_at_path tree root p.path ≡ Some n → is_in_at tree n p.port ≡ true
          → MetRoot last cs from p ⊎ MetCrossing last cs from p
      met last [] from p n l start stands into =
          inl (subst (λ f. MetRoot last [] f p) (sym l)
          (met_start last p n (subst (IsStart tree root) l start) stands into))
      met last (c ∷ cs) from p n l start stands into =
          met_step last c cs from l.0 p n l.2 l.2.source l.2.target refl refl stands into l.1 start (λ m h i. met
          (Some c.connection) cs from l.0 m l.1 start h i)
