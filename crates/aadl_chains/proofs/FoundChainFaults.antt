-- The findings at connections are the faults of their ends.
use Rattle.std.proofs.Common.{◌≡◌, ◌⊎◌, ◌↔◌, inl, inr, ℕ, zero, suc, ◌+◌, ◌<◌, ◌≤◌, Bool, true, false, ◌&&◌, IsTrue}
use Rattle.std.proofs.Common.{List, [], ◌∷◌, ◌++◌, map, length, slice_get, Contains, Option, Some, None, refl, sym, ap}
use Rattle.std.proofs.Common.{subst, ◌∙◌, arith}
use Rattle.std.proofs.lemmas.Bool.{false≢true}
use Rattle.std.proofs.lemmas.List.Elements.{Contains-append_left, Contains-append_right, Contains-append_cases}
use Rattle.std.proofs.lemmas.List.Elements.{Contains-push, Contains-push_cases}
use Rattle.std.proofs.lemmas.Option.{same_Some, none-some, slice_get_within, get_or_from_slice_get}
use Rattle.list_lemmas.proofs.Elements.{Contains-nil}
use Rattle.list_lemmas.proofs.ElementPositions.{slice_get-from_Contains, Contains-from_slice_get}
use Rattle.aadl_tree.specs.declared.declarations.Direction.TheVariants as directions
use Rattle.aadl_tree.specs.Declarations.{Connection, Implementation, PackageTree}
use Rattle.aadl_names.specs.declared.fault.PackageFault.{PackageFault}
use Rattle.aadl_names.specs.declared.fault.PackageFault.TheVariants.{DeadEnd, TwoSources}
use Rattle.aadl_names.specs.NameResolution.{implementation_at, connections_of}
use Rattle.aadl_names.specs.declared.numbered_port.NumberedPort.{NumberedPort}
use Rattle.aadl_names.specs.proof.FirstFaultSoFar.{found}
use Rattle.aadl_names.proofs.FirstFaultSoFar.{found_append}
use Rattle.aadl_uses.specs.ContainmentAndUse.{IsInUse}
use Rattle.aadl_uses.specs.proof.FirstRecursion.{FirstIn}
use Rattle.aadl_uses.specs.declared.connections_by_target.ConnectionPorts.{ConnectionPorts}
use Rattle.aadl_uses.specs.SecondConnections.{IsDuplicate}
use Rattle.aadl_uses.specs.PortsOfConnections.{ports_of_connection, wires_of, connection_ports_at}
use Rattle.aadl_chains.specs.proof.PortsJoinedOutside.{LeadsFrom}
use Rattle.aadl_chains.proofs.JoinedInsideByDeclaration.{one_of_two}
use Rattle.aadl_chains.specs.ChainFaults.{IsDeadEnd, IsEndFault}
use Rattle.aadl_chains.specs.proof.PermittedConnections.{ArePermitted}
use Rattle.aadl_chains.specs.proof.ConnectionsOnChains.{IsOnChain}
use Rattle.aadl_chains.specs.proof.FoundChainFaults.{FindsAll, IsOnChainAt, IsFoundAt, IsFoundIn, dead_end, second}
use Rattle.aadl_chains.proofs.AccumulatedFaults.{finds_nothing, finds_both, finds_same, first_found}
use Rattle.aadl_chains.proofs.ConnectionsOnChains.{chained}
use Rattle.aadl_chains.proofs.ChainConnectionEnds.{on_way}

pub wire_if : (tree : PackageTree ℕ) (o : Option (Implementation ℕ)) (k : ℕ) (link : Connection ℕ)
    → slice_get (connections_of o) k ≡ Some link
    → (wire : ConnectionPorts) × (slice_get (wires_of tree o) k ≡ Some wire)
wire_if tree None k link e = absurd (Contains-nil link (Contains-from_slice_get [] k link e))
wire_if tree (Some x) k link e = by x.connections k e
  where
    by : (cs : List (Connection ℕ)) (k : ℕ) → slice_get cs k ≡ Some link
        → (wire : ConnectionPorts) × (slice_get (map (ports_of_connection tree x) cs) k ≡ Some wire)
    by [] k e = absurd (Contains-nil link (Contains-from_slice_get [] k link e))
    by (c ∷ cs) zero e = (ports_of_connection tree x c, refl)
    by (c ∷ cs) (suc k) e = by cs k e

module _ (tree : PackageTree ℕ) (root : ℕ) (sound : ArePermitted tree) where
  dead_to : (n k : ℕ) (link : Connection ℕ) → IsInUse tree root n
      → slice_get (connections_of (implementation_at tree n)) k ≡ Some link
      → (IsOnChainAt tree root n k → ⊥) → IsDeadEnd tree root link
  dead_to n k link used is dead = record {
    number = n;
    connection = k;
    used = used;
    is_connection = is;
    on_none = λ chain from to place c among stands e.
        let w = wire_if tree (implementation_at tree n) k link is in
        dead (
          w.0,
          w.1,
          on_way tree root sound n k w.0 w.1
              (record {
                chain = chain;
                from = from;
                to = to;
                place = place;
                is_chain = c;
                among = among;
                stands = stands;
                is_connection = e;
              }),
        );
  }

  dead_from : (link : Connection ℕ) → (d : IsDeadEnd tree root link) → IsOnChainAt tree root d.number d.connection → ⊥
  dead_from link d w =
      let h : Contains (connection_ports_at tree d.number) w.0 = (
        d.connection,
        slice_get_within (connection_ports_at tree d.number) d.connection w.0 w.1,
        get_or_from_slice_get
            (connection_ports_at tree d.number) d.connection w.0 w.0 w.1,
      ) in
      let c = chained tree root sound d.number w.0 d.used h w.2 in
      d.on_none c.chain c.from c.to c.place c.is_chain c.among c.stands c.is_connection

  pub end_fault : (n : ℕ) (fault : PackageFault) → IsInUse tree root n → IsFoundIn tree root n fault
      → IsEndFault tree root fault
  end_fault n fault used f = by f.1.kind
    where
      by : ((IsOnChainAt tree root n f.0 → ⊥) × (fault ≡ DeadEnd f.1.link.name.spelling f.1.link.name.at))
          ⊎ (IsDuplicate (connection_ports_at tree n) f.0
          × (fault ≡ TwoSources f.1.link.name.spelling f.1.link.name.at))
          → IsEndFault tree root fault
      by (inl d) = inl (f.1.link, dead_to n f.0 f.1.link used f.1.is_connection d.0, d.1)
      by (inr s) =
          inr (
            f.1.link,
            record {
              number = n;
              connection = f.0;
              used = used;
              is_connection = f.1.is_connection;
              is_second = s.0;
            },
            s.1,
          )

  pub found_fault : (fault : PackageFault) → IsEndFault tree root fault
      → (n : ℕ) × IsInUse tree root n × IsFoundIn tree root n fault
  found_fault fault (inl d) = (
    d.1.number,
    d.1.used,
    (
      d.1.connection,
      record {
        link = d.0;
        is_connection = d.1.is_connection;
        kind = inl (λ w. dead_from d.0 d.1 w, d.2);
      },
    ),
  )
  found_fault fault (inr s) = (
    s.1.number,
    s.1.used,
    (s.1.connection, record { link = s.0; is_connection = s.1.is_connection; kind = inr (s.1.is_second, s.2) }),
  )

-- ---- at one connection
module _ (tree : PackageTree ℕ) (root n k : ℕ) (link : Connection ℕ) (wire : ConnectionPorts)
    (is_link : slice_get (connections_of (implementation_at tree n)) k ≡ Some link)
    (is_wire : slice_get (connection_ports_at tree n) k ≡ Some wire) where
  dead_each : (b : Bool) (fault : PackageFault) → (IsTrue b ↔ IsOnChain tree root n wire)
      → Contains (dead_end b link) fault → IsFoundAt tree root n k fault
  dead_each true fault tells h = absurd (Contains-nil fault h)
  dead_each false fault tells h = by (Contains-push_cases [] (DeadEnd link.name.spelling link.name.at) fault h)
    where
      by : Contains [] fault ⊎ (DeadEnd link.name.spelling link.name.at ≡ fault) → IsFoundAt tree root n k fault
      by (inl c) = absurd (Contains-nil fault c)
      by (inr e) = record {
        link = link;
        is_connection = is_link;
        kind =
            inl (
              (λ w. false≢true (tells.1
                  (subst (IsOnChain tree root n) (same_Some w.0 wire (sym w.1 ∙ is_wire)) w.2))),
              sym e,
            );
      }

  second_each : (b : Bool) (fault : PackageFault) → (IsTrue b ↔ IsDuplicate (connection_ports_at tree n) k)
      → Contains (second b link) fault → IsFoundAt tree root n k fault
  second_each false fault tells h = absurd (Contains-nil fault h)
  second_each true fault tells h = by (Contains-push_cases [] (TwoSources link.name.spelling link.name.at) fault h)
    where
      by : Contains [] fault ⊎ (TwoSources link.name.spelling link.name.at ≡ fault) → IsFoundAt tree root n k fault
      by (inl c) = absurd (Contains-nil fault c)
      by (inr e) = record { link = link; is_connection = is_link; kind = inr (tells.0 refl, sym e) }

  dead_all : (b : Bool) (fault : PackageFault) → (IsTrue b ↔ IsOnChain tree root n wire)
      → (IsOnChainAt tree root n k → ⊥)
      → DeadEnd link.name.spelling link.name.at ≡ fault → Contains (dead_end b link) fault
  dead_all true fault tells none e = absurd (none (wire, is_wire, tells.0 refl))
  dead_all false fault tells none e = subst (Contains (DeadEnd link.name.spelling link.name.at ∷ [])) e
      (Contains-push [] (DeadEnd link.name.spelling link.name.at))

  second_all : (b : Bool) (fault : PackageFault) → (IsTrue b ↔ IsDuplicate (connection_ports_at tree n) k)
      → IsDuplicate (connection_ports_at tree n) k
      → TwoSources link.name.spelling link.name.at ≡ fault → Contains (second b link) fault
  second_all true fault tells s e = subst (Contains (TwoSources link.name.spelling link.name.at ∷ [])) e
      (Contains-push [] (TwoSources link.name.spelling link.name.at))
  second_all false fault tells s e = absurd (false≢true (tells.1 s))

  pub both_found : (b c : Bool) (old new : Option PackageFault) → (IsTrue b ↔ IsOnChain tree root n wire)
      → (IsTrue c ↔ IsDuplicate (connection_ports_at tree n) k)
      → new ≡ found (found old (dead_end b link)) (second c link)
      → FindsAll (IsFoundAt tree root n k) old new
  both_found b c old new way is_second is = record {
    faults = dead_end b link ++ second c link;
    is = is ∙ sym (found_append old (dead_end b link) (second c link));
    each = λ f h. by_part f (Contains-append_cases (dead_end b link) (second c link) f h);
    all = λ f a. by_kind f a (same_Some a.link link (sym a.is_connection ∙ is_link)) a.kind;
  }
    where
      by_part : (f : PackageFault) → Contains (dead_end b link) f ⊎ Contains (second c link) f
          → IsFoundAt tree root n k f
      by_part f (inl h) = dead_each b f way h
      by_part f (inr h) = second_each c f is_second h

      by_kind : (f : PackageFault) → (a : IsFoundAt tree root n k f) → a.link ≡ link
          → ((IsOnChainAt tree root n k → ⊥) × (f ≡ DeadEnd a.link.name.spelling a.link.name.at))
          ⊎ (IsDuplicate (connection_ports_at tree n) k × (f ≡ TwoSources a.link.name.spelling a.link.name.at))
          → Contains (dead_end b link ++ second c link) f
      by_kind f a same (inl d) = Contains-append_left (dead_end b link) (second c link) f
          (dead_all b f way d.0 (sym (d.1 ∙ ap (λ (x : Connection ℕ). DeadEnd x.name.spelling x.name.at) same)))
      by_kind f a same (inr s) = Contains-append_right (dead_end b link) (second c link) f
          (second_all c f is_second s.0
          (sym (s.1 ∙ ap (λ (x : Connection ℕ). TwoSources x.name.spelling x.name.at) same)))

-- ---- at all of them
module _ (tree : PackageTree ℕ) (root n : ℕ) where
  -- the findings at the first i connections
  abbrev pub FoundBelow : ℕ → PackageFault → Type 0
  FoundBelow i fault = (k : ℕ) × (k < i) × IsFoundAt tree root n k fault

  pub found_none : (old : Option PackageFault) → FindsAll (FoundBelow 0) old old
  found_none old = finds_nothing (FoundBelow 0) old (λ f h. let lt = h.1 in absurd (omega arith))

  pub found_more : (i : ℕ) (old mid new : Option PackageFault) → FindsAll (FoundBelow i) old mid
      → FindsAll (IsFoundAt tree root n i) mid new
      → FindsAll (FoundBelow (i + 1)) old new
  found_more i old mid new front here =
      finds_both (FoundBelow i) (IsFoundAt tree root n i) (FoundBelow (i + 1)) old mid new
      (λ f h. let lt = h.1 in (h.0, omega arith, h.2)) (λ f h. (i, omega arith, h))
      (λ f h. which f h (one_of_two h.0 i h.1)) front here
    where
      which : (f : PackageFault) → (h : FoundBelow (i + 1) f) → (h.0 < i) ⊎ (h.0 ≡ i)
          → FoundBelow i f ⊎ IsFoundAt tree root n i f
      which f h (inl lt) = inl (h.0, lt, h.2)
      which f h (inr e) = inr (subst (λ k. IsFoundAt tree root n k f) e h.2)

  pub found_all : (i : ℕ) (old new : Option PackageFault) → length (connection_ports_at tree n) ≤ i
      → FindsAll (FoundBelow i) old new
      → FindsAll (IsFoundIn tree root n) old new
  found_all i old new past front =
      finds_same (FoundBelow i) (IsFoundIn tree root n) old new (λ f h. (h.0, h.2)) (λ f h. by f h) front
    where
      by : (f : PackageFault) → IsFoundIn tree root n f → FoundBelow i f
      by f h =
          let w = wire_if tree (implementation_at tree n) h.0 h.1.link h.1.is_connection in
          let lt = slice_get_within (connection_ports_at tree n) h.0 w.0 w.1 in
          (h.0, omega arith, h.1)

-- ---- at all declarations in use
module _ (tree : PackageTree ℕ) (root : ℕ) (keys : List ℕ) where
  abbrev pub FoundAmong : ℕ → PackageFault → Type 0
  FoundAmong i fault = (k n : ℕ) × (k < i) × (slice_get keys k ≡ Some n) × IsFoundIn tree root n fault

  pub among_none : (old : Option PackageFault) → FindsAll (FoundAmong 0) old old
  among_none old = finds_nothing (FoundAmong 0) old (λ f h. let lt = h.2 in absurd (omega arith))

  pub among_more : (i n : ℕ) (old mid new : Option PackageFault) → slice_get keys i ≡ Some n
      → FindsAll (FoundAmong i) old mid
      → FindsAll (IsFoundIn tree root n) mid new → FindsAll (FoundAmong (i + 1)) old new
  among_more i n old mid new is front here =
      finds_both (FoundAmong i) (IsFoundIn tree root n) (FoundAmong (i + 1)) old mid new
      (λ f h. let lt = h.2 in (h.0, h.1, omega arith, h.3, h.4)) (λ f h. (i, n, omega arith, is, h))
      (λ f h. which f h (one_of_two h.0 i h.2)) front here
    where
      which : (f : PackageFault) → (h : FoundAmong (i + 1) f) → (h.0 < i) ⊎ (h.0 ≡ i)
          → FoundAmong i f ⊎ IsFoundIn tree root n f
      which f h (inl lt) = inl (h.0, h.1, lt, h.3, h.4)
      which f h (inr e) =
          inr (subst (λ m. IsFoundIn tree root m f) (same_Some h.1 n (sym h.3 ∙ (ap (slice_get keys) e ∙ is))) h.4)

  pub among_past : (i : ℕ) (old new : Option PackageFault) → slice_get keys i ≡ None → FindsAll (FoundAmong i) old new
      → FindsAll (FoundAmong (i + 1)) old new
  among_past i old new is front =
      finds_same (FoundAmong i) (FoundAmong (i + 1)) old new (λ f h. let lt = h.2 in (h.0, h.1, omega arith, h.3, h.4))
      (λ f h. which f h (one_of_two h.0 i h.2)) front
    where
      which : (f : PackageFault) → (h : FoundAmong (i + 1) f) → (h.0 < i) ⊎ (h.0 ≡ i) → FoundAmong i f
      which f h (inl lt) = (h.0, h.1, lt, h.3, h.4)
      which f h (inr e) = absurd (none-some h.1 (sym is ∙ (ap (slice_get keys) (sym e) ∙ h.3)))

  pub first_end : ArePermitted tree → ((n : ℕ) → Contains keys n ↔ IsInUse tree root n)
      → (i : ℕ) (new : Option PackageFault) → length keys ≤ i
      → FindsAll (FoundAmong i) None new → FirstIn (IsEndFault tree root) new
  first_end sound used i new past front =
      first_found (IsEndFault tree root) new
      (finds_same (FoundAmong i) (IsEndFault tree root) None new
      (λ f h. end_fault tree root sound h.1 f ((used h.1).0 (Contains-from_slice_get keys h.0 h.1 h.3)) h.4)
      (λ f e.
      let h = found_fault tree root sound f e in
      let c = (used h.0).1 h.1 in
      let lt = c.1 in
      (c.0, h.0, omega arith, slice_get-from_Contains keys h.0 c, h.2))
      front)

-- without a connection there is no finding
pub nothing_at : (tree : PackageTree ℕ) (root n k : ℕ) (old : Option PackageFault)
    → slice_get (connections_of (implementation_at tree n)) k ≡ None
    → FindsAll (IsFoundAt tree root n k) old old
nothing_at tree root n k old none =
    finds_nothing (IsFoundAt tree root n k) old (λ f h. none-some h.link (sym none ∙ h.is_connection))

-- ---- whether a connection is on a chain
pub ways_tell : (tree : PackageTree ℕ) (root n : ℕ) (wire : ConnectionPorts) (s t : NumberedPort) (a b : Bool)
    → wire.source ≡ Some s
    → wire.target ≡ Some t
    → (IsTrue a ↔ LeadsFrom tree root directions.In n s) → (IsTrue b ↔ LeadsFrom tree root directions.Out n t)
    → IsTrue (a && b) ↔ IsOnChain tree root n wire
ways_tell tree root n wire s t a b source target comes goes = (
  λ e. let both = both_true a b e in
      record {
        source = s;
        target = t;
        source_is = source;
        target_is = target;
        comes = comes.0 both.0;
        goes = goes.0 both.1;
      },
  λ w. of_both a b
      (comes.1 (subst (LeadsFrom tree root directions.In n) (same_Some w.source s (sym w.source_is ∙ source)) w.comes))
      (goes.1 (subst (LeadsFrom tree root directions.Out n) (same_Some w.target t (sym w.target_is ∙ target)) w.goes)),
)
  where
    both_true : (x y : Bool) → (x && y) ≡ true → (x ≡ true) × (y ≡ true)
    both_true true y e = (refl, e)
    both_true false y e = absurd (false≢true e)

    of_both : (x y : Bool) → x ≡ true → y ≡ true → (x && y) ≡ true
    of_both x y e f = ap (λ z. z && y) e ∙ f

pub no_source : (tree : PackageTree ℕ) (root n : ℕ) (wire : ConnectionPorts) → wire.source ≡ None
    → IsTrue false ↔ IsOnChain tree root n wire
no_source tree root n wire e = (λ t. absurd (false≢true t), λ w. absurd (none-some w.source (sym e ∙ w.source_is)))

pub no_target : (tree : PackageTree ℕ) (root n : ℕ) (wire : ConnectionPorts) → wire.target ≡ None
    → IsTrue false ↔ IsOnChain tree root n wire
no_target tree root n wire e = (λ t. absurd (false≢true t), λ w. absurd (none-some w.target (sym e ∙ w.target_is)))
