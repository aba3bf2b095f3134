-- Ports of threads below an implementation, by the connections of the implementation through which they are entered.
use Rattle.std.proofs.Common.{◌≡◌, ◌⊎◌, inl, inr, ℕ, zero, suc, ◌+◌, ◌<◌, true, false, min, List, [], ◌∷◌, ◌++◌}
use Rattle.std.proofs.Common.{slice_get, Option, Some, None, refl, sym, ap, subst, ◌∙◌, arith}
use Rattle.std.proofs.lemmas.Option.{same_Some, none-some}
use Rattle.list_lemmas.proofs.Booleans.{opposed}
use Rattle.aadl_tree.specs.declared.declarations.Direction.TheVariants as directions
use Rattle.aadl_tree.specs.Declarations.{PackageTree}
use Rattle.aadl_names.specs.declared.numbered_port.NumberedPort.{NumberedPort}
use Rattle.aadl_names.specs.declared.numbered_port.NumberedPort.TheVariants.{Own, Inner}
use Rattle.aadl_uses.specs.ContainmentAndUse.{below}
use Rattle.aadl_uses.specs.declared.connections_by_target.ConnectionPorts.{ConnectionPorts}
use Rattle.aadl_uses.specs.PortsOfConnections.{connection_ports_at}
use Rattle.aadl_uses.specs.proof.IncomingConnections.{connection_into, first_into_at}
use Rattle.aadl_chains.specs.proof.PortsJoinedInside.{is_thread_at, is_in_at, ReachesIn}
use Rattle.aadl_chains.specs.Chains.{Port}
use Rattle.aadl_chains.specs.proof.PermittedConnections.{ArePermitted}
use Rattle.aadl_chains.proofs.ConnectionsOnChains.{is_in-at}
use Rattle.aadl_chains.specs.proof.LimitedCounts.{IsNumber}
use Rattle.aadl_chains.specs.proof.UpwardWalks.{Crossing, at_root, crosses, walk_back, IsThreadPort}
use Rattle.aadl_chains.specs.proof.EnteredThreadPorts.{ComesFrom, EndsLink, IsEnteredThrough, IsLinkBelow, AmongFirst}
use Rattle.aadl_chains.specs.proof.EnteredThreadPorts.{FromOwn}
use Rattle.aadl_chains.specs.proof.EnteredThreadPorts.{FromThread}
use Rattle.aadl_chains.proofs.LimitedCounts.{no_number, one_number, both_numbers, image_number}
use Rattle.aadl_chains.proofs.FirstIncomingConnections.{first_wire, into_first, known_into}
use Rattle.aadl_chains.proofs.WalksOneLevelOut.{last_of, same_ends, port_outer, port_inner, climb_outer, root_outer}
use Rattle.aadl_chains.proofs.WalksOneLevelOut.{Within, Itself, crossing_outer, crossing_kept, root_kept, root_crosses}
use Rattle.aadl_chains.proofs.WalksOneLevelOut.{below_of, thread_itself}

abbrev port : List ℕ → ℕ → Port
port path p = record { path = path; port = p }

module _ (tree : PackageTree ℕ) (n : ℕ) where
  at_path : (P : Port → Type 0) (x : Port) (path : List ℕ) → x.path ≡ path → P x → P (port path x.port)
  at_path P x path e p = subst (λ l. P (port l x.port)) e p

  from_path : (P : Port → Type 0) (x : Port) (path : List ℕ) → x.path ≡ path → P (port path x.port) → P x
  from_path P x path e p = subst (λ l. P (port l x.port)) (sym e) p

  -- ---- ports entered from an own port
  own_by : (q : ℕ) (x : Port) (s : ℕ) (inner : List ℕ) → x.path ≡ inner ++ s ∷ []
      → ComesFrom tree n q (port (inner ++ s ∷ []) x.port)
      → (k : ℕ) × FromOwn tree n q k x
  own_by q x s inner e c =
      let b = below_of tree n s inner c.0.0 in
      let r =
      root_outer tree n s b.0 b.1 (walk_back tree b.0 None inner x.port) c.1.0 q
      (sym (climb_outer tree n s b.0 b.1 None inner x.port) ∙ c.1.1) in
      let enters = r.4 in (
        r.2,
        (
          (enters.wire, enters.is_wire, enters.source_is),
          record {
            sub = s;
            number = b.0;
            inner = inner;
            inner_port = r.1;
            path_is = e;
            is_below = b.1;
            comes = (port_inner tree n s b.0 b.1 inner x.port c.0, (r.0, r.3));
            first = enters.first;
          },
        ),
      )

  pub own_from : (q : ℕ) (x : Port) → is_thread_at tree n ≡ false → ComesFrom tree n q x
      → (k : ℕ) × FromOwn tree n q k x
  own_from q x none c = by (last_of x.path)
    where
      by : (x.path ≡ []) ⊎ ((s : ℕ) × (inner : List ℕ) × (x.path ≡ inner ++ s ∷ [])) → (k : ℕ) × FromOwn tree n q k x
      by (inl e) =
          absurd (opposed (is_thread_at tree n)
          (thread_itself tree n (at_path (IsThreadPort tree n) x [] e c.0).0) none)
      by (inr h) = own_by q x h.0 h.1 h.2 (at_path (ComesFrom tree n q) x (h.1 ++ h.0 ∷ []) h.2 c)

  into_of : (k : ℕ) (x : Port) (source : NumberedPort) (wire : ConnectionPorts) → (t : IsEnteredThrough tree n k x)
      → slice_get (connection_ports_at tree n) k ≡ Some wire
      → wire.source ≡ Some source → connection_into tree n (Inner t.sub t.inner_port) ≡ Some (k, source)
  into_of k x source wire t is e = into_first tree n (Inner t.sub t.inner_port) source k wire t.first is e

  pub own_to : (q k : ℕ) (x : Port) → FromOwn tree n q k x → ComesFrom tree n q x
  own_to q k x f =
      let t = f.1 in
      let i = into_of k x (Own q) f.0.0 t f.0.1 f.0.2 in
      from_path (ComesFrom tree n q) x (t.inner ++ t.sub ∷ []) t.path_is (
        port_outer tree n t.sub t.number t.is_below t.inner x.port t.comes.0,
        (
          Some k,
          climb_outer tree n t.sub t.number t.is_below None t.inner x.port
              ∙ root_kept tree n t.sub t.number t.is_below (walk_back tree t.number None t.inner x.port) t.comes.1.0
              t.inner_port k q t.comes.1.1 i,
        ),
      )

  -- ---- targets of links
  crossing_by : (x : Port) (s : ℕ) (inner : List ℕ) → x.path ≡ inner ++ s ∷ []
      → (c : EndsLink tree n (port (inner ++ s ∷ []) x.port)) → (m : ℕ)
      → (b : below tree n s ≡ Some m)
      → Within tree n s m b (walk_back tree m None inner x.port) c.1.0
      ⊎ Itself tree n s m b (walk_back tree m None inner x.port) c.1.0
      → ((s : ℕ) × IsLinkBelow tree n s x) ⊎ ((k : ℕ) × FromThread tree n k x)
  crossing_by x s inner e c m b (inl w) = inl (
    s,
    record {
      number = m;
      inner = inner;
      path_is = e;
      is_below = b;
      ends = (
        port_inner tree n s m b inner x.port c.0,
        (
          w.crossing,
          w.is,
          subst (λ p. ReachesIn tree directions.Out w.crossing.declaration w.crossing.sub p) (sym w.port_is)
              (subst (λ t. ReachesIn tree directions.Out w.crossing.declaration t c.1.0.port) (sym w.sub_is)
              (subst (λ d. ReachesIn tree directions.Out d c.1.0.sub c.1.0.port) (sym w.declaration_is) c.1.2)),
        ),
      );
    },
  )
  crossing_by x s inner e c m b (inr i) =
      let enters = i.enters in
      inr (
        i.connection,
        (
          (
            enters.wire,
            c.1.0.sub,
            c.1.0.port,
            enters.is_wire,
            enters.source_is,
            subst (λ d. ReachesIn tree directions.Out d c.1.0.sub c.1.0.port) i.declaration_is c.1.2,
          ),
          record {
            sub = s;
            number = m;
            inner = inner;
            inner_port = i.port;
            path_is = e;
            is_below = b;
            comes = (port_inner tree n s m b inner x.port c.0, (i.last, i.is));
            first = enters.first;
          },
        ),
      )

  pub link_parts : (x : Port) → EndsLink tree n x
      → ((s : ℕ) × IsLinkBelow tree n s x) ⊎ ((k : ℕ) × FromThread tree n k x)
  link_parts x c = by (last_of x.path)
    where
      never : (path : List ℕ) → path ≡ [] → (r : Crossing) → walk_back tree n None path x.port ≡ crosses r → ⊥
      never path e r is = let none : at_root None x.port ≡ crosses r = sym (ap (λ l. walk_back tree n None l x.port) e)
          ∙ is in cc none

      by : (x.path ≡ []) ⊎ ((s : ℕ) × (inner : List ℕ) × (x.path ≡ inner ++ s ∷ []))
          → ((s : ℕ) × IsLinkBelow tree n s x) ⊎ ((k : ℕ) × FromThread tree n k x)
      by (inl e) = absurd (never x.path e c.1.0 c.1.1)
      by (inr h) =
          let d = at_path (EndsLink tree n) x (h.1 ++ h.0 ∷ []) h.2 c in
          let b = below_of tree n h.0 h.1 d.0.0 in
          crossing_by x h.0 h.1 h.2 d b.0 b.1
          (crossing_outer tree n h.0 b.0 b.1 (walk_back tree b.0 None h.1 x.port) d.1.0
          (sym (climb_outer tree n h.0 b.0 b.1 None h.1 x.port) ∙ d.1.1))

  pub deeper_ends : (s : ℕ) (x : Port) → IsLinkBelow tree n s x → EndsLink tree n x
  deeper_ends s x d =
      let c = d.ends.1.0 in
      from_path (EndsLink tree n) x (d.inner ++ s ∷ []) d.path_is (
        port_outer tree n s d.number d.is_below d.inner x.port d.ends.0,
        (
          record {
            path = c.path ++ s ∷ [];
            declaration = c.declaration;
            connection = c.connection;
            sub = c.sub;
            port = c.port;
          },
          climb_outer tree n s d.number d.is_below None d.inner x.port
              ∙ crossing_kept tree n s d.number d.is_below (walk_back tree d.number None d.inner x.port) c d.ends.1.1,
          d.ends.1.2,
        ),
      )

  pub thread_ends : (k : ℕ) (x : Port) → FromThread tree n k x → EndsLink tree n x
  thread_ends k x f =
      let t = f.1 in
      let w = f.0 in
      let i = into_of k x (Inner w.1 w.2) w.0 t w.3 w.4 in
      from_path (EndsLink tree n) x (t.inner ++ t.sub ∷ []) t.path_is (
        port_outer tree n t.sub t.number t.is_below t.inner x.port t.comes.0,
        (
          record { path = []; declaration = n; connection = k; sub = w.1; port = w.2 },
          climb_outer tree n t.sub t.number t.is_below None t.inner x.port
              ∙ root_crosses tree n t.sub t.number t.is_below (walk_back tree t.number None t.inner x.port) t.comes.1.0
              t.inner_port k w.1 w.2 t.comes.1.1 i,
          w.5,
        ),
      )

  -- ---- a port is entered through one connection, or is the target of a link below one subcomponent
  root_port : (l m : Option ℕ) (q r : ℕ) → at_root l q ≡ at_root m r → q ≡ r
  root_port l m q r e = cc e

  pub one_through : (k j : ℕ) (x : Port) → IsEnteredThrough tree n k x → IsEnteredThrough tree n j x → k ≡ j
  one_through k j x a b =
      let e = same_ends a.inner b.inner a.sub b.sub (sym a.path_is ∙ b.path_is) in
      let m : a.number ≡ b.number =
      same_Some a.number b.number (sym a.is_below ∙ (ap (below tree n) e.1 ∙ b.is_below)) in
      let climbs : walk_back tree a.number None a.inner x.port ≡ walk_back tree b.number None b.inner x.port =
      ap (λ i. walk_back tree i None a.inner x.port) m ∙ ap (λ l. walk_back tree b.number None l x.port) e.0 in
      let p : a.inner_port ≡ b.inner_port =
      root_port a.comes.1.0 b.comes.1.0 a.inner_port b.inner_port (sym a.comes.1.1 ∙ (climbs ∙ b.comes.1.1)) in
      same_Some k j (sym a.first
      ∙ (ap (λ s. first_into_at tree n (Inner s a.inner_port)) e.1
      ∙ (ap (λ o. first_into_at tree n (Inner b.sub o)) p ∙ b.first)))

  pub one_deeper : (s t : ℕ) (x : Port) → IsLinkBelow tree n s x → IsLinkBelow tree n t x → s ≡ t
  one_deeper s t x a b = (same_ends a.inner b.inner s t (sym a.path_is ∙ b.path_is)).1

  pub not_both : (s k : ℕ) (x : Port) → IsLinkBelow tree n s x → IsEnteredThrough tree n k x → ⊥
  not_both s k x a b =
      let e = same_ends a.inner b.inner s b.sub (sym a.path_is ∙ b.path_is) in
      let m : a.number ≡ b.number =
      same_Some a.number b.number (sym a.is_below ∙ (ap (below tree n) e.1 ∙ b.is_below)) in
      let climbs : walk_back tree a.number None a.inner x.port ≡ walk_back tree b.number None b.inner x.port =
      ap (λ i. walk_back tree i None a.inner x.port) m ∙ ap (λ l. walk_back tree b.number None l x.port) e.0 in
      let none : crosses a.ends.1.0 ≡ at_root b.comes.1.0 b.inner_port = sym a.ends.1.1 ∙ (climbs ∙ b.comes.1.1) in
      cc none

  -- ---- counts
  module _ (limit : ℕ) where
    -- of the ports entered through one connection
    pub through_number : (k s p m c : ℕ) (wire : ConnectionPorts) → slice_get (connection_ports_at tree n) k ≡ Some wire
        → wire.target ≡ Some (Inner s p)
        → first_into_at tree n (Inner s p) ≡ Some k → below tree n s ≡ Some m → IsNumber limit (ComesFrom tree m p) c
        → IsNumber limit (IsEnteredThrough tree n k) c
    through_number k s p m c wire is target first b number =
        image_number limit (λ x. port (x.path ++ s ∷ []) x.port) (ComesFrom tree m p) (IsEnteredThrough tree n k) c one
        to from number
      where
        one : (x y : Port) → port (x.path ++ s ∷ []) x.port ≡ port (y.path ++ s ∷ []) y.port → x ≡ y
        one x y e =
            let path = (same_ends x.path y.path s s (ap (λ (z : Port). z.path) e)).0 in
            ap (λ l. port l x.port) path ∙ ap (port y.path) (ap (λ (z : Port). z.port) e)

        to : (x : Port) → ComesFrom tree m p x → IsEnteredThrough tree n k (port (x.path ++ s ∷ []) x.port)
        to x c =
            record {
              sub = s;
              number = m;
              inner = x.path;
              inner_port = p;
              path_is = refl;
              is_below = b;
              comes = c;
              first = first;
            }

        from : (y : Port) → IsEnteredThrough tree n k y
            → (x : Port) × ComesFrom tree m p x × (y ≡ port (x.path ++ s ∷ []) x.port)
        from y t =
            let w = first_wire tree n (Inner t.sub t.inner_port) k t.first in
            let same : Inner s p ≡ Inner t.sub t.inner_port =
            same_Some (Inner s p) (Inner t.sub t.inner_port)
            (sym target ∙ (ap (λ (x : ConnectionPorts). x.target) (same_Some wire w.0 (sym is ∙ w.1)) ∙ w.2)) in
            let sub : s ≡ t.sub = cc same in
            let inner : p ≡ t.inner_port = cc same in
            let number_is : m ≡ t.number = same_Some m t.number (sym b ∙ (ap (below tree n) sub ∙ t.is_below)) in (
              port t.inner y.port,
              subst (λ i. ComesFrom tree i p (port t.inner y.port)) (sym number_is)
                  (subst (λ o. ComesFrom tree t.number o (port t.inner y.port)) (sym inner) t.comes),
              ap (λ l. port l y.port) (t.path_is ∙ ap (λ i. t.inner ++ i ∷ []) (sym sub)),
            )

    -- of the targets of links below one subcomponent
    pub deeper_number : (s m c : ℕ) → below tree n s ≡ Some m → IsNumber limit (EndsLink tree m) c
        → IsNumber limit (IsLinkBelow tree n s) c
    deeper_number s m c b number =
        image_number limit (λ x. port (x.path ++ s ∷ []) x.port) (EndsLink tree m) (IsLinkBelow tree n s) c one
        to from number
      where
        one : (x y : Port) → port (x.path ++ s ∷ []) x.port ≡ port (y.path ++ s ∷ []) y.port → x ≡ y
        one x y e =
            let path = (same_ends x.path y.path s s (ap (λ (z : Port). z.path) e)).0 in
            ap (λ l. port l x.port) path ∙ ap (port y.path) (ap (λ (z : Port). z.port) e)

        to : (x : Port) → EndsLink tree m x → IsLinkBelow tree n s (port (x.path ++ s ∷ []) x.port)
        to x e = record { number = m; inner = x.path; path_is = refl; is_below = b; ends = e }

        from : (y : Port) → IsLinkBelow tree n s y
            → (x : Port) × EndsLink tree m x × (y ≡ port (x.path ++ s ∷ []) x.port)
        from y d =
            let number_is : m ≡ d.number = same_Some m d.number (sym b ∙ d.is_below) in (
              port d.inner y.port,
              subst (λ i. EndsLink tree i (port d.inner y.port)) (sym number_is) d.ends,
              ap (λ l. port l y.port) d.path_is,
            )

    pub no_deeper : (s : ℕ) → below tree n s ≡ None → IsNumber limit (IsLinkBelow tree n s) 0
    no_deeper s e = no_number limit (IsLinkBelow tree n s) (λ x d. none-some d.number (sym e ∙ d.is_below))

    -- a thread has only its own in ports
    pub thread_number : (q : ℕ) → ArePermitted tree → is_thread_at tree n ≡ true → is_in_at tree n q ≡ true
        → IsThreadPort tree n (port [] q)
        → IsNumber limit (ComesFrom tree n q) (min limit 1)
    thread_number q sound thread into here =
        one_number limit (ComesFrom tree n q) (port [] q) (here, (None, refl)) (λ y c. by y c (last_of y.path))
      where
        by : (y : Port) → ComesFrom tree n q y
            → (y.path ≡ []) ⊎ ((s : ℕ) × (inner : List ℕ) × (y.path ≡ inner ++ s ∷ [])) → y ≡ port [] q
        by y c (inl e) =
            let is : at_root None y.port ≡ at_root c.1.0 q = sym (ap (λ l. walk_back tree n None l y.port) e) ∙ c.1.1 in
            ap (λ l. port l y.port) e ∙ ap (port []) (root_port None c.1.0 y.port q is)
        by y c (inr h) =
            let d = at_path (ComesFrom tree n q) y (h.1 ++ h.0 ∷ []) h.2 c in
            let b = below_of tree n h.0 h.1 d.0.0 in
            let r =
            root_outer tree n h.0 b.0 b.1 (walk_back tree b.0 None h.1 y.port) d.1.0 q
            (sym (climb_outer tree n h.0 b.0 b.1 None h.1 y.port) ∙ d.1.1) in
            let k = known_into tree n sound n (Inner h.0 r.1) r.2 (Own q) r.4 in
            absurd (opposed (is_thread_at tree n) thread k.no_thread)

    pub no_thread_number : (q : ℕ) → ArePermitted tree → is_thread_at tree n ≡ true → is_in_at tree n q ≡ false
        → IsNumber limit (ComesFrom tree n q) 0
    no_thread_number q sound thread out = no_number limit (ComesFrom tree n q) (λ y c. by y c (last_of y.path))
      where
        by : (y : Port) → ComesFrom tree n q y
            → (y.path ≡ []) ⊎ ((s : ℕ) × (inner : List ℕ) × (y.path ≡ inner ++ s ∷ [])) → ⊥
        by y c (inl e) =
            let is : at_root None y.port ≡ at_root c.1.0 q = sym (ap (λ l. walk_back tree n None l y.port) e) ∙ c.1.1 in
            let t = at_path (IsThreadPort tree n) y [] e c.0 in
            let into : is_in_at tree n y.port ≡ true = sym (is_in-at tree n (port [] y.port) n refl) ∙ t.1 in
            opposed (is_in_at tree n q) (ap (is_in_at tree n) (sym (root_port None c.1.0 y.port q is)) ∙ into) out
        by y c (inr h) =
            let d = at_path (ComesFrom tree n q) y (h.1 ++ h.0 ∷ []) h.2 c in
            let b = below_of tree n h.0 h.1 d.0.0 in
            let r =
            root_outer tree n h.0 b.0 b.1 (walk_back tree b.0 None h.1 y.port) d.1.0 q
            (sym (climb_outer tree n h.0 b.0 b.1 None h.1 y.port) ∙ d.1.1) in
            let k = known_into tree n sound n (Inner h.0 r.1) r.2 (Own q) r.4 in
            opposed (is_thread_at tree n) thread k.no_thread

-- ---- the first i subcomponents
module _ (limit : ℕ) (P : ℕ → Port → Type 0) (apart : (k j : ℕ) (x : Port) → P k x → P j x → k ≡ j) where
  pub none_first : IsNumber limit (AmongFirst P 0) 0
  none_first = no_number limit (AmongFirst P 0) (λ x h. let lt = h.1 in absurd (omega arith))

  one_of_two : (k i : ℕ) → k < i + 1 → (k < i) ⊎ (k ≡ i)
  one_of_two zero zero lt = inr refl
  one_of_two zero (suc i) lt = inl (omega arith)
  one_of_two (suc k) zero lt = absurd (omega arith)
  one_of_two (suc k) (suc i) lt = next (one_of_two k i (omega arith))
    where
      next : (k < i) ⊎ (k ≡ i) → (suc k < suc i) ⊎ (suc k ≡ suc i)
      next (inl h) = inl (omega arith)
      next (inr h) = inr (ap suc h)

  pub more_first : (i a c b : ℕ) → IsNumber limit (AmongFirst P i) a → IsNumber limit (P i) c → b ≡ min limit (a + c)
      → IsNumber limit (AmongFirst P (i + 1)) b
  more_first i a c b x y is =
      both_numbers limit (AmongFirst P i) (P i) (AmongFirst P (i + 1)) a c b others
      (λ z h. let lt = h.1 in (h.0, omega arith, h.2)) (λ z p.
      (i, omega arith, p)) either x y is
    where
      others : (z : Port) → AmongFirst P i z → P i z → ⊥
      others z h p = let same = apart h.0 i z h.2 p in let lt = h.1 in absurd (omega arith)

      which : (z : Port) (k : ℕ) → P k z → (k < i) ⊎ (k ≡ i) → AmongFirst P i z ⊎ P i z
      which z k p (inl lt) = inl (k, lt, p)
      which z k p (inr e) = inr (subst (λ j. P j z) e p)

      either : (z : Port) → AmongFirst P (i + 1) z → AmongFirst P i z ⊎ P i z
      either z h = which z h.0 h.2 (one_of_two h.0 i h.1)
