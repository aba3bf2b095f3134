-- The number of targets of links exceeds a limit if and only if there are more links than the limit allows.
use Rattle.std.proofs.Common.{◌≡◌, ◌⊎◌, inl, inr, ◌↔◌, ℕ, suc, ◌+◌, ◌<◌, ◌≤◌, Bool, true, false, not, min, List, []}
use Rattle.std.proofs.Common.{◌∷◌, map, length, slice_get, get_or, All, AllPairs, Option, Some, None, option_map, refl}
use Rattle.std.proofs.Common.{sym, ap, subst, ◌∙◌, arith}
use Rattle.std.specs.List.{AllByRecursion}
use Rattle.std.specs.Option.{option_and_then}
use Rattle.std.proofs.lemmas.Bool.{true≢false, cases_order}
use Rattle.std.proofs.lemmas.List.{length-map}
use Rattle.std.proofs.lemmas.List.Elements.{All-from_recursion, recursion_from_All}
use Rattle.std.proofs.lemmas.List.Kept.{AllPairs-cons}
use Rattle.std.proofs.lemmas.Option.{same_Some, option_and_then_some, slice_get_within, slice_get-get_or, slice_get-map}
use Rattle.list_lemmas.proofs.Elements.{Contains-nil}
use Rattle.list_lemmas.proofs.ElementPositions.{slice_get-from_Contains, Contains-from_slice_get}
use Rattle.aadl_uses.specs.proof.MarkedPathCounts.{count_of}
use Rattle.aadl_uses.specs.proof.OrderedLists.{Among}
use Rattle.aadl_tree.specs.declared.declarations.Direction.TheVariants as directions
use Rattle.aadl_tree.specs.Declarations.{Connection, Implementation, PackageTree}
use Rattle.aadl_names.specs.declared.numbered_port.NumberedPort.TheVariants.{Own, Inner}
use Rattle.aadl_names.specs.declared.fault.PackageFault.{PackageFault}
use Rattle.aadl_names.specs.declared.fault.PackageFault.TheVariants.{TwoSources}
use Rattle.aadl_names.specs.NameResolution.{implementation_at, subcomponents_of, connections_of, referred}
use Rattle.aadl_uses.specs.ContainmentAndUse.{sub_at, below, number_at_path}
use Rattle.aadl_uses.specs.proof.PackageContainment.{targets_of}
use Rattle.aadl_uses.specs.ThreadsBelow.{IsThreadAt, MoreThan}
use Rattle.aadl_uses.specs.declared.connections_by_target.ConnectionPorts.{ConnectionPorts}
use Rattle.aadl_uses.specs.SecondConnections.{target_in}
use Rattle.aadl_uses.specs.PortsOfConnections.{ports_of_connection, wires_of, connection_ports_at}
use Rattle.aadl_uses.proofs.DeclarationTables.{listed}
use Rattle.aadl_uses.proofs.ThreadCounts.{thread_by}
use Rattle.aadl_chains.specs.proof.PortsJoinedInside.{is_thread_at, Reaches, ReachesIn, of_thread, of_inner}
use Rattle.aadl_chains.specs.Chains.{Port, ConnectionAt, Leads, is_in}
use Rattle.aadl_chains.specs.ChainFaults.{IsEndFault}
use Rattle.aadl_chains.specs.proof.PermittedConnections.{ArePermitted}
use Rattle.aadl_chains.proofs.ConnectionsOnChains.{next_at, is_in-at}
use Rattle.aadl_chains.specs.proof.LimitedCounts.{Distinct, IsNumber}
use Rattle.aadl_chains.specs.proof.UpwardWalks.{OneEach}
use Rattle.aadl_chains.specs.LinksFeedsAndTaps.{CarriedChain, IsLink, OtherTarget}
use Rattle.aadl_chains.specs.proof.EnteredThreadPorts.{EndsLink, IsEnteredThrough, IsLinkBelow, AmongFirst, FromThread}
use Rattle.aadl_chains.proofs.LimitedCounts.{no_number, same_number, both_numbers, no_more}
use Rattle.aadl_chains.proofs.FirstIncomingConnections.{goes_at}
use Rattle.aadl_chains.proofs.ChainsOfWalks.{crossed}
use Rattle.aadl_chains.proofs.CarriedChainsByWalks.{link_from, link_met}
use Rattle.aadl_chains.proofs.EnteredThreadPorts.{link_parts, deeper_ends, thread_ends, one_through, one_deeper}
use Rattle.aadl_chains.proofs.EnteredThreadPorts.{not_both, deeper_number, no_deeper, none_first, more_first}

-- ---- threads that provide the value of an out port
module _ (tree : PackageTree ℕ) (root : ℕ) where
  pub record Gives (path : List ℕ) (p : ℕ) : Type 0 where
    pub chain : List ConnectionAt
    pub from : Port
    pub thread : IsThreadAt tree root from.path
    pub out : is_in tree root from ≡ false
    pub leads : Leads tree root chain from (record { path = path; port = p })

  not_false : (b : Bool) → not b ≡ true → b ≡ false
  not_false true e = absurd (true≢false (sym e))
  not_false false e = refl

  pub thread_at : (path : List ℕ) (n : ℕ) → number_at_path tree root path ≡ Some n → is_thread_at tree n ≡ true
      → IsThreadAt tree root path
  thread_at path n e t = let x = thread_by (implementation_at tree n) t in
      (x.0, (ap (option_and_then (implementation_at tree)) e ∙ x.1, x.2))

  pub gives : {n p : ℕ} → Reaches tree directions.Out n p → (path : List ℕ) → number_at_path tree root path ≡ Some n
      → Gives path p
  gives (of_thread thread way) path stands = record {
    chain = [];
    from = record { path = path; port = _ };
    thread = thread_at path _ stands thread;
    out = is_in-at tree root (record { path = path; port = _ }) _ stands ∙ not_false _ way;
    leads = refl;
  }
  gives (of_inner s q m wire thread among outer inner is rest) path stands =
      let g = gives rest (s ∷ path) (next_at tree root path _ s m stands is) in
      record {
        chain = record { path = path; connection = among.0 } ∷ g.chain;
        from = g.from;
        thread = g.thread;
        out = g.out;
        leads = (
          record { path = s ∷ path; port = q },
          g.leads,
          goes_at tree root path _ among.0 wire (Inner s q) (Own _) stands
              (slice_get-from_Contains (connection_ports_at tree _) wire among) inner outer,
        );
      }

  -- ---- links by their targets
  pub link_of : (x : Port) → EndsLink tree root x → (ends : CarriedChain) × IsLink tree root ends × (ends.to ≡ x)
  link_of x e =
      let c = e.1.0 in
      let r = crossed tree root None x.path x.port c e.1.1 in
      let stands : number_at_path tree root c.path ≡ Some c.declaration = r.goes.stands ∙ ap Some r.number_is in
      let g = gives e.1.2.2 (c.sub ∷ c.path) (next_at tree root c.path c.declaration c.sub e.1.2.0 stands e.1.2.1) in
      let ends : CarriedChain = record {
        from = g.from;
        to = x;
        declaration = c.declaration;
        connection = c.connection;
      } in
      (ends, link_from tree root ends c g.chain e.0 e.1.1 g.thread g.out g.leads refl refl, refl)

  links_of : (xs : List Port) → AllByRecursion (EndsLink tree root) xs
      → (all : List CarriedChain) × AllByRecursion (IsLink tree root) all × (map (λ (e : CarriedChain). e.to) all ≡ xs)
  links_of [] a = ([], tt, refl)
  links_of (x ∷ xs) a =
      let l = link_of x a.0 in
      let r = links_of xs a.1 in
      (l.0 ∷ r.0, (l.1, r.1), cc (l.2, r.2))

  pairs_none : {X : Type 0} (R : X → X → Type 0) → AllPairs R []
  pairs_none R i j d less lt = absurd (omega arith)

  others_of : (x : CarriedChain) (all : List CarriedChain)
      → AllByRecursion (λ y. x.to ≡ y → ⊥) (map (λ (e : CarriedChain). e.to) all)
      → AllByRecursion (OtherTarget x) all
  others_of x [] a = tt
  others_of x (y ∷ all) a = (a.0, others_of x all a.1)

  apart_of : (all : List CarriedChain) → Distinct (map (λ (e : CarriedChain). e.to) all) → AllPairs OtherTarget all
  apart_of [] d = pairs_none OtherTarget
  apart_of (x ∷ all) d =
      AllPairs-cons OtherTarget x all (All-from_recursion (OtherTarget x) all (others_of x all d.0)) (apart_of all d.1)

  rest_apart : (x : CarriedChain) (all : List CarriedChain) → AllPairs OtherTarget (x ∷ all) → All (OtherTarget x) all
  rest_apart x all a k d lt = a 0 (suc k) d (omega arith) (omega arith)

  tail_of : (x : CarriedChain) (all : List CarriedChain) → AllPairs OtherTarget (x ∷ all) → AllPairs OtherTarget all
  tail_of x all a i j d less lt = a (suc i) (suc j) d (omega arith) (omega arith)

  distinct_of : (all : List CarriedChain) → AllPairs OtherTarget all → Distinct (map (λ (e : CarriedChain). e.to) all)
  distinct_of [] a = tt
  distinct_of (x ∷ all) a =
      (apart_by all (recursion_from_All (OtherTarget x) all (rest_apart x all a)), distinct_of all (tail_of x all a))
    where
      apart_by : (ys : List CarriedChain) → AllByRecursion (OtherTarget x) ys
          → AllByRecursion (λ y. x.to ≡ y → ⊥) (map (λ (e : CarriedChain). e.to) ys)
      apart_by [] b = tt
      apart_by (y ∷ ys) b = (b.0, apart_by ys b.1)

  among_of : (xs : List Port) (all : List CarriedChain) → ((e : CarriedChain) → IsLink tree root e → Among xs e.to)
      → AllByRecursion (IsLink tree root) all
      → AllByRecursion (Among xs) (map (λ (e : CarriedChain). e.to) all)
  among_of xs [] there a = tt
  among_of xs (x ∷ all) there a = (there x a.0, among_of xs all there a.1)

  module _ (sound : ArePermitted tree) (one : OneEach tree root) (no_thread : is_thread_at tree root ≡ false) where
    pub ends_link : (ends : CarriedChain) → IsLink tree root ends → EndsLink tree root ends.to
    ends_link ends l =
        let m = link_met tree root sound one no_thread ends l in
        (m.port, (m.crossing, m.climbs, (m.number, m.is_below, m.is_down.reaches)))

    pub more_links : (limit number : ℕ) → IsNumber (limit + 1) (EndsLink tree root) number
        → (limit < number) ↔ MoreThan limit (IsLink tree root) OtherTarget
    more_links limit number counted = (to, from)
      where
        to : limit < number → MoreThan limit (IsLink tree root) OtherTarget
        to lt =
            let l = links_of counted.all counted.are.each in
            let size : length l.0 ≡ length counted.all =
            sym (length-map l.0 (λ (e : CarriedChain). e.to)) ∙ ap length l.2 in
            let is = counted.number_is in
            record {
              some = l.0;
              each = All-from_recursion (IsLink tree root) l.0 l.1;
              in_order = apart_of l.0 (subst Distinct (sym l.2) counted.are.distinct);
              many = omega (arith, size, is);
            }

        from : MoreThan limit (IsLink tree root) OtherTarget → limit < number
        from more =
            let targets = map (λ (e : CarriedChain). e.to) more.some in
            let size = length-map more.some (λ (e : CarriedChain). e.to) in
            let less : length targets ≤ length counted.all =
            no_more targets counted.all (distinct_of more.some more.in_order)
            (among_of counted.all more.some (λ e l. counted.are.complete e.to (ends_link e l))
            (recursion_from_All (IsLink tree root) more.some more.each)) in
            let is = counted.number_is in
            let many = more.many in
            omega (arith, size, less, is, many)

-- ---- links below an implementation
module _ (tree : PackageTree ℕ) (limit n : ℕ) where
  deeper_by : (i a b : ℕ) (counts : List ℕ) (o : Option ℕ) → below tree n i ≡ o
      → ((m : ℕ) → below tree n i ≡ Some m → IsNumber limit (EndsLink tree m) (get_or counts m 0))
      → IsNumber limit (AmongFirst (IsLinkBelow tree n) i) a
      → b ≡ min limit (a + count_of counts o) → IsNumber limit (AmongFirst (IsLinkBelow tree n) (i + 1)) b
  deeper_by i a b counts None e known so_far is =
      more_first limit (IsLinkBelow tree n) (one_deeper tree n) i a 0 b so_far (no_deeper tree n limit i e) is
  deeper_by i a b counts (Some m) e known so_far is =
      more_first limit (IsLinkBelow tree n) (one_deeper tree n) i a (get_or counts m 0) b so_far
      (deeper_number tree n limit i m (get_or counts m 0) e (known m e)) is

  joined : {X Y : Type 0} (f : X → Option Y) (o : Option X)
      → option_and_then (λ y. y) (option_map f o) ≡ option_and_then f o
  joined f None = refl
  joined f (Some x) = refl

  target_at : (i : ℕ) (targets : List (Option ℕ)) → targets ≡ targets_of tree (implementation_at tree n)
      → i < length targets
      → below tree n i ≡ get_or targets i None
  target_at i targets e lt =
      sym (ap (option_and_then (λ t. t)) (sym (slice_get-get_or targets i None lt))
      ∙ (ap (λ (ts : List (Option ℕ)). option_and_then (λ t. t) (slice_get ts i)) e
      ∙ (ap (option_and_then (λ t. t))
      (slice_get-map (λ sub. referred tree sub.classifier) (subcomponents_of (implementation_at tree n)) i)
      ∙ joined (λ sub. referred tree sub.classifier) (sub_at tree n i))))

  pub deeper_more : (i a b : ℕ) (counts : List ℕ) (targets : List (Option ℕ))
      → targets ≡ targets_of tree (implementation_at tree n) → i < length targets
      → ((s m : ℕ) → below tree n s ≡ Some m → IsNumber limit (EndsLink tree m) (get_or counts m 0))
      → IsNumber limit (AmongFirst (IsLinkBelow tree n) i) a
      → b ≡ min limit (a + count_of counts (get_or targets i None))
      → IsNumber limit (AmongFirst (IsLinkBelow tree n) (i + 1)) b
  deeper_more i a b counts targets e lt known so_far is =
      deeper_by i a b counts (get_or targets i None) (target_at i targets e lt) (λ m h. known i m h) so_far is

  sub_within : (s m : ℕ) → below tree n s ≡ Some m → s < length (targets_of tree (implementation_at tree n))
  sub_within s m e =
      let size = length-map (subcomponents_of (implementation_at tree n)) (λ sub. referred tree sub.classifier) in
      option_and_then_some (λ sub. referred tree sub.classifier) (sub_at tree n s) m e
      (λ sub a b. let lt = slice_get_within (subcomponents_of (implementation_at tree n)) s sub a in
      omega (arith, size, lt))

  -- all links below its subcomponents
  pub deeper_all : (i a : ℕ) → length (targets_of tree (implementation_at tree n)) ≤ i
      → IsNumber limit (AmongFirst (IsLinkBelow tree n) i) a
      → IsNumber limit (λ port. (s : ℕ) × IsLinkBelow tree n s port) a
  deeper_all i a past x =
      same_number limit (AmongFirst (IsLinkBelow tree n) i) (λ port. (s : ℕ) × IsLinkBelow tree n s port) a
      (λ z h. (h.0, h.2))
      (λ z d. let lt = sub_within d.0 d.1.number d.1.is_below in (d.0, omega arith, d.1)) x

  pub none_deeper : IsNumber limit (AmongFirst (IsLinkBelow tree n) 0) 0
  none_deeper = none_first limit (IsLinkBelow tree n) (one_deeper tree n)

  -- ---- the links that its connections carry
  one_carries : (k j : ℕ) (x : Port) → FromThread tree n k x → FromThread tree n j x → k ≡ j
  one_carries k j x a b = one_through tree n k j x a.1 b.1

  pub none_carried : IsNumber limit (AmongFirst (FromThread tree n) 0) 0
  none_carried = none_first limit (FromThread tree n) one_carries

  pub carried_more : (i a c b : ℕ) → IsNumber limit (AmongFirst (FromThread tree n) i) a
      → IsNumber limit (FromThread tree n i) c → b ≡ min limit (a + c)
      → IsNumber limit (AmongFirst (FromThread tree n) (i + 1)) b
  carried_more i a c b x y is = more_first limit (FromThread tree n) one_carries i a c b x y is

  pub carried_all : (i a : ℕ) → length (connection_ports_at tree n) ≤ i
      → IsNumber limit (AmongFirst (FromThread tree n) i) a
      → IsNumber limit (λ port. (k : ℕ) × FromThread tree n k port) a
  carried_all i a past x =
      same_number limit (AmongFirst (FromThread tree n) i) (λ port. (k : ℕ) × FromThread tree n k port) a
      (λ z h. (h.0, h.2))
      (λ z f. let lt = slice_get_within (connection_ports_at tree n) f.0 f.1.0.0 f.1.0.3 in (f.0, omega arith, f.1)) x

  -- one connection
  pub carried-number : (k c t q : ℕ) (wire : ConnectionPorts) → slice_get (connection_ports_at tree n) k ≡ Some wire
      → wire.source ≡ Some (Inner t q)
      → ReachesIn tree directions.Out n t q → IsNumber limit (IsEnteredThrough tree n k) c
      → IsNumber limit (FromThread tree n k) c
  carried-number k c t q wire is source reaches number =
      same_number limit (IsEnteredThrough tree n k) (FromThread tree n k) c
      (λ x h. ((wire, t, q, is, source, reaches), h))
      (λ x f. f.1) number

  pub carried-none : (k : ℕ) (wire : ConnectionPorts) → slice_get (connection_ports_at tree n) k ≡ Some wire
      → ((t q : ℕ) → wire.source ≡ Some (Inner t q) → ReachesIn tree directions.Out n t q → ⊥)
      → IsNumber limit (FromThread tree n k) 0
  carried-none k wire is never = no_number limit (FromThread tree n k)
      (λ x f. never f.0.1 f.0.2 (ap (λ (w : ConnectionPorts). w.source) (same_Some wire f.0.0 (sym is ∙ f.0.3))
      ∙ f.0.4) f.0.5)

  pub carried-not : (k s p : ℕ) (wire : ConnectionPorts) → slice_get (connection_ports_at tree n) k ≡ Some wire
      → wire.source ≡ Some (Inner s p)
      → (ReachesIn tree directions.Out n s p → ⊥) → IsNumber limit (FromThread tree n k) 0
  carried-not k s p wire is source never = carried-none k wire is
      (λ t q e r. let same = same_inner t q s p (sym e ∙ source) in
      never (subst (λ o. ReachesIn tree directions.Out n s o) same.1
      (subst (λ o. ReachesIn tree directions.Out n o q) same.0 r)))
    where
      same_inner : (t q s p : ℕ) → Some (Inner t q) ≡ Some (Inner s p) → (t ≡ s) × (q ≡ p)
      same_inner t q s p e = (cc e, cc e)

  -- both kinds
  pub links_both : (a b r : ℕ) → IsNumber limit (λ port. (s : ℕ) × IsLinkBelow tree n s port) a
      → IsNumber limit (λ port. (k : ℕ) × FromThread tree n k port) b
      → r ≡ min limit (a + b) → IsNumber limit (EndsLink tree n) r
  links_both a b r x y is =
      both_numbers limit (λ port. (s : ℕ) × IsLinkBelow tree n s port) (λ port. (k : ℕ) × FromThread tree n k port)
      (EndsLink tree n) a b r
      (λ z d f. not_both tree n d.0 f.0 z d.1 f.1.1) (λ z d. deeper_ends tree n d.0 z d.1)
      (λ z f. thread_ends tree n f.0 z f.1)
      (λ z e. link_parts tree n z e) x y is

-- ---- each connection of an implementation in use is the only one into its target
pub one_each : (tree : PackageTree ℕ) (root : ℕ) → ((fault : PackageFault) → IsEndFault tree root fault → ⊥)
    → OneEach tree root
one_each tree root none n i j target used a b = by (cases_order i j)
  where
    listed_at : (o : Option (Implementation ℕ)) (k : ℕ) → target_in (wires_of tree o) k ≡ Some target
        → (x : Connection ℕ) × (slice_get (connections_of o) k ≡ Some x)
    listed_at None k e = option_and_then_some (λ (w : ConnectionPorts). w.target) (slice_get (wires_of tree None) k)
        target e
        (λ w h f. absurd (Contains-nil w (Contains-from_slice_get [] k w h)))
    listed_at (Some x) k e =
        option_and_then_some (λ (w : ConnectionPorts). w.target) (slice_get (wires_of tree (Some x)) k) target e
        (λ w h f. let l = listed (ports_of_connection tree x) x.connections k w h in (l.0, l.1))

    second : (k m : ℕ) → k < m → target_in (connection_ports_at tree n) k ≡ Some target
        → target_in (connection_ports_at tree n) m ≡ Some target → ⊥
    second k m less e f =
        let x = listed_at (implementation_at tree n) m f in
        none (TwoSources x.0.name.spelling x.0.name.at) (inr (
          x.0,
          record {
            number = n;
            connection = m;
            used = used;
            is_connection = x.1;
            is_second = record { first = k; target = target; in_order = less; earlier = e; here = f };
          },
          refl,
        ))

    by : (i ≡ j) ⊎ ((i < j) ⊎ (j < i)) → i ≡ j
    by (inl same) = same
    by (inr (inl less)) = absurd (second i j less a b)
    by (inr (inr more)) = absurd (second j i more b a)
