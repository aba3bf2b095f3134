-- The first connection into a port, its source, and that a package without faults has no second one. Each step of a
-- backward trace passes such a connection.
use Rattle.std.proofs.Common.{◌≡◌, ◌⊎◌, inl, inr, ℕ, zero, suc, ◌+◌, ◌<◌, ◌≤◌, Bool, true, false, cond, nat_lt, List}
use Rattle.std.proofs.Common.{[], ◌∷◌, slice_get, Contains, Option, Some, None, refl, sym, ap, subst, ◌∙◌, arith}
use Rattle.std.specs.List.{position_from}
use Rattle.std.specs.Option.{option_and_then, option_map_or}
use Rattle.std.proofs.lemmas.Bool.{true≢false, cases_order}
use Rattle.std.proofs.lemmas.Bool.Decides.{nat_tests}
use Rattle.std.proofs.lemmas.Option.{same_Some, none-some, option_and_then_some}
use Rattle.list_lemmas.proofs.ElementPositions.{Contains-from_slice_get}
use Rattle.list_lemmas.proofs.Elements.{Contains-nil}
use Rattle.aadl_tree.specs.Declarations.{Implementation, PackageTree}
use Rattle.aadl_names.specs.declared.numbered_port.NumberedPort.{NumberedPort}
use Rattle.aadl_names.specs.declared.numbered_port.NumberedPort.TheVariants.{Own, Inner}
use Rattle.aadl_names.specs.NameResolution.{implementation_at}
use Rattle.aadl_uses.specs.ContainmentAndUse.{number_at_path}
use Rattle.aadl_uses.specs.declared.connections_by_target.ConnectionPorts.{ConnectionPorts}
use Rattle.aadl_uses.specs.proof.NumbersByPort.{is_port}
use Rattle.aadl_uses.specs.SecondConnections.{target_in, IsDuplicate}
use Rattle.aadl_uses.specs.proof.FirstConnections.{is_before}
use Rattle.aadl_uses.specs.PortsOfConnections.{ports_of_connection, wires_of, connection_ports_at}
use Rattle.aadl_uses.specs.proof.IncomingConnections.{first_into_at, with_source, sourced, connection_into}
use Rattle.aadl_uses.proofs.DeclarationTables.{listed}
use Rattle.aadl_uses.proofs.FirstConnections.{itself, second_from, is_site-true, of_site}
use Rattle.aadl_chains.specs.proof.PortsJoinedInside.{is_thread_at, is_in_at}
use Rattle.aadl_chains.specs.Chains.{Port, ConnectionAt, port_at, Goes}
use Rattle.aadl_chains.specs.proof.PermittedConnections.{MayLeave, MayEnter, NotBothOwn, ArePermitted}
use Rattle.aadl_chains.proofs.ConnectionsOnChains.{among_goes, wire_of_goes}
use Rattle.aadl_chains.specs.proof.UpwardWalks.{OneEach}
use Rattle.aadl_chains.specs.proof.DownwardSteps.{IsFromInner}

-- ---- the first element that passes a test
pub record FirstAt {X : Type 0} (test : X → Bool) (xs : List X) (k n : ℕ) : Type 0 where
  pub index : ℕ
  pub item : X
  pub is : n ≡ k + index
  pub is_item : slice_get xs index ≡ Some item
  pub passes : test item ≡ true

module _ {X : Type 0} (test : X → Bool) where
  first_by : (x : X) (xs : List X) (k n : ℕ) (b : Bool) → test x ≡ b
      → (position_from test (k + 1) xs ≡ Some n → FirstAt test xs (k + 1) n)
      → cond b (Some k) (position_from test (k + 1) xs) ≡ Some n → FirstAt test (x ∷ xs) k n
  first_by x xs k n true e rest f = let s = same_Some k n f in
      record { index = 0; item = x; is = omega arith; is_item = refl; passes = e }
  first_by x xs k n false e rest f =
      let r = rest f in
      let s = r.is in
      record { index = suc r.index; item = r.item; is = omega arith; is_item = r.is_item; passes = r.passes }

  pub first_at : (xs : List X) (k n : ℕ) → position_from test k xs ≡ Some n → FirstAt test xs k n
  first_at [] k n e = absurd (none-some n e)
  first_at (x ∷ xs) k n e = first_by x xs k n (test x) refl (first_at xs (k + 1) n) e

  some_if : (x y : X) (xs : List X) (k i : ℕ) (b : Bool) → test x ≡ b → slice_get (x ∷ xs) i ≡ Some y → test y ≡ true
      → ((j : ℕ) → slice_get xs j ≡ Some y → (n : ℕ) × (position_from test (k + 1) xs ≡ Some n) × (n ≤ k + 1 + j))
      → (n : ℕ) × (cond b (Some k) (position_from test (k + 1) xs) ≡ Some n) × (n ≤ k + i)
  some_if x y xs k i true e is t rest = (k, refl, omega arith)
  some_if x y xs k zero false e is t rest = absurd (true≢false (sym t ∙ (ap test (sym (same_Some x y is)) ∙ e)))
  some_if x y xs k (suc i) false e is t rest = let r = rest i is in let least = r.2 in (r.0, r.1, omega arith)

  pub some_first : (xs : List X) (k i : ℕ) (y : X) → slice_get xs i ≡ Some y → test y ≡ true
      → (n : ℕ) × (position_from test k xs ≡ Some n) × (n ≤ k + i)
  some_first [] k i y is t = absurd (Contains-nil y (Contains-from_slice_get [] i y is))
  some_first (x ∷ xs) k i y is t = some_if x y xs k i (test x) refl is t (λ j h. some_first xs (k + 1) j y h t)

-- ---- ends of connections
pub own_no_inner : (o : Option NumberedPort) (x : NumberedPort) (q s p : ℕ) → o ≡ Some x → x ≡ Own q
    → o ≡ Some (Inner s p) → ⊥
own_no_inner o x q s p a b c = let e : Some (Own q) ≡ Some (Inner s p) = sym (a ∙ ap Some b) ∙ c in cc e

pub none_no_inner : (o : Option NumberedPort) (s p : ℕ) → o ≡ None → o ≡ Some (Inner s p) → ⊥
none_no_inner o s p a c = none-some (Inner s p) (sym a ∙ c)

module _ (tree : PackageTree ℕ) where
  -- the first connection of a declaration into a port
  pub record Entered (n : ℕ) (target : NumberedPort) (k : ℕ) (source : NumberedPort) : Type 0 where
    pub wire : ConnectionPorts
    pub is_wire : slice_get (connection_ports_at tree n) k ≡ Some wire
    pub source_is : wire.source ≡ Some source
    pub target_is : wire.target ≡ Some target
    pub first : first_into_at tree n target ≡ Some k

  pub first_wire : (n : ℕ) (target : NumberedPort) (k : ℕ) → first_into_at tree n target ≡ Some k
      → (wire : ConnectionPorts) × (slice_get (connection_ports_at tree n) k ≡ Some wire) × (wire.target ≡ Some target)
  first_wire n target k e =
      let f = first_at (λ (w : ConnectionPorts). is_port target w.target) (connection_ports_at tree n) 0 k e in
      let is = f.is in
      let same : f.index ≡ k = omega arith in (
        f.item,
        ap (slice_get (connection_ports_at tree n)) (sym same)
            ∙ f.is_item,
        is_site-true target f.item.target f.passes,
      )

  source_if : (k : ℕ) (o : Option NumberedPort) (from : ℕ × NumberedPort)
      → option_map_or (λ (source : NumberedPort). Some (k, source)) o None ≡ Some from
      → (o ≡ Some from.1) × (k ≡ from.0)
  source_if k None from e = absurd (none-some from e)
  source_if k (Some source) from e =
      let same : (k, source) ≡ from = same_Some (k, source) from e in
      (ap (λ (x : ℕ × NumberedPort). Some x.1) same, ap (λ (x : ℕ × NumberedPort). x.0) same)

  pub entered : (n : ℕ) (target : NumberedPort) (from : ℕ × NumberedPort) → connection_into tree n target ≡ Some from
      → Entered n target from.0 from.1
  entered n target from e =
      option_and_then_some (sourced (connection_ports_at tree n)) (first_into_at tree n target) from e
      (λ k a b.
      let w = first_wire n target k a in
      let s = source_if k w.0.source from (ap (option_and_then (with_source k)) (sym w.1) ∙ b) in
      record {
        wire = w.0;
        is_wire = ap (slice_get (connection_ports_at tree n)) (sym s.1) ∙ w.1;
        source_is = s.0;
        target_is = w.2;
        first = a ∙ ap Some s.1;
      })

  pub into_first : (n : ℕ) (target source : NumberedPort) (k : ℕ) (wire : ConnectionPorts)
      → first_into_at tree n target ≡ Some k
      → slice_get (connection_ports_at tree n) k ≡ Some wire
      → wire.source ≡ Some source → connection_into tree n target ≡ Some (k, source)
  into_first n target source k wire first is s =
      ap (option_and_then (sourced (connection_ports_at tree n))) first
      ∙ (ap (option_and_then (with_source k)) is
      ∙ ap (λ (o : Option NumberedPort). option_map_or (λ (source : NumberedPort). Some (k, source)) o None) s)

  target_of : (n k : ℕ) (wire : ConnectionPorts) (target : NumberedPort)
      → slice_get (connection_ports_at tree n) k ≡ Some wire
      → wire.target ≡ Some target
      → target_in (connection_ports_at tree n) k ≡ Some target
  target_of n k wire target is e = ap (option_and_then (λ (w : ConnectionPorts). w.target)) is ∙ e

  -- a connection without an earlier one into the same port is the first into it
  pub first_if : (n k : ℕ) (wire : ConnectionPorts) (target : NumberedPort)
      → slice_get (connection_ports_at tree n) k ≡ Some wire
      → wire.target ≡ Some target
      → (IsDuplicate (connection_ports_at tree n) k → ⊥) → first_into_at tree n target ≡ Some k
  first_if n k wire target is e only =
      let some =
      some_first (λ (w : ConnectionPorts). is_port target w.target) (connection_ports_at tree n) 0 k wire is
      (of_site target wire.target e) in
      let w = first_wire n target some.0 some.1 in
      let least = some.2 in
      some.1 ∙ ap Some (by some.0 w.0 w.1 w.2 (omega arith) (cases_order some.0 k))
    where
      by : (m : ℕ) (w : ConnectionPorts) → slice_get (connection_ports_at tree n) m ≡ Some w → w.target ≡ Some target
          → m ≤ k
          → (m ≡ k) ⊎ ((m < k) ⊎ (k < m)) → m ≡ k
      by m w at f least (inl same) = same
      by m w at f least (inr (inl less)) =
          absurd (only (record {
            first = m;
            target = target;
            in_order = less;
            earlier = target_of n m w target at f;
            here = target_of n k wire target is e;
          }))
      by m w at f least (inr (inr more)) = absurd (omega arith)

  -- a connection with an earlier one into the same port is not the first
  pub second_never : (n k : ℕ) (target : NumberedPort) → IsDuplicate (connection_ports_at tree n) k
      → first_into_at tree n target ≡ Some k → ⊥
  second_never n k target second first =
      let w = first_wire n target k first in
      let e = second_from (connection_ports_at tree n) k target (target_of n k w.0 target w.1 w.2) second in
      never k (ap (λ o. is_before o k) (sym first) ∙ e)
    where
      never : (k : ℕ) → nat_lt k k ≡ true → ⊥
      never k e = grind (arith, nat_tests)

  module _ (root : ℕ) where
    goes_if : (place : ConnectionAt) (n : ℕ) (wire : ConnectionPorts) (source target : NumberedPort)
        (o : Option (Implementation ℕ))
        → implementation_at tree n ≡ o
        → number_at_path tree root place.path ≡ Some n → slice_get (wires_of tree o) place.connection ≡ Some wire
        → wire.source ≡ Some source
        → wire.target ≡ Some target
        → (g : Goes tree root place (port_at place.path source) (port_at place.path target)) × (g.number ≡ n)
        × (g.source ≡ source) × (g.target ≡ target)
    goes_if place n wire source target None e stands is s t =
        absurd (Contains-nil wire (Contains-from_slice_get [] place.connection wire is))
    goes_if place n wire source target (Some x) e stands is s t =
        let l = listed (ports_of_connection tree x) x.connections place.connection wire is in (
          record {
            number = n;
            component = x;
            link = l.0;
            source = source;
            target = target;
            stands = stands;
            is_component = e;
            is_link = l.1;
            is_source = ap (λ (w : ConnectionPorts). w.source) l.2 ∙ s;
            is_target = ap (λ (w : ConnectionPorts). w.target) l.2 ∙ t;
            leaves = refl;
            enters = refl;
          },
          refl,
          refl,
          refl,
        )

    pub goes_at : (path : List ℕ) (n k : ℕ) (wire : ConnectionPorts) (source target : NumberedPort)
        → number_at_path tree root path ≡ Some n
        → slice_get (connection_ports_at tree n) k ≡ Some wire → wire.source ≡ Some source → wire.target ≡ Some target
        → Goes tree root (record { path = path; connection = k }) (port_at path source) (port_at path target)
    goes_at path n k wire source target stands is s t =
        (goes_if (record { path = path; connection = k }) n wire source target (implementation_at tree n) refl
        stands is s t).0

    -- the target of the first connection into a port is that port
    pub goes_into : (path : List ℕ) (n : ℕ) (target : NumberedPort) (k : ℕ) (source : NumberedPort)
        → number_at_path tree root path ≡ Some n → Entered n target k source
        → (g : Goes tree root (record { path = path; connection = k }) (port_at path source) (port_at path target))
        × (g.number ≡ n) × (g.source ≡ source) × (g.target ≡ target)
    goes_into path n target k source stands x =
        goes_if (record { path = path; connection = k }) n x.wire source target (implementation_at tree n) refl stands
        x.is_wire x.source_is x.target_is

    module _ (one : OneEach tree root) where
      -- a connection into a port is the first one
      pub first_of_goes : (place : ConnectionAt) (from to : Port) → (g : Goes tree root place from to)
          → first_into_at tree g.number g.target ≡ Some place.connection
      first_of_goes place from to g =
          let is = wire_of_goes tree root place from to g in
          let some = some_first (λ (w : ConnectionPorts). is_port g.target w.target)
          (connection_ports_at tree g.number) 0 place.connection
          (record { source = Some g.source; target = Some g.target }) is (itself g.target) in
          let w = first_wire g.number g.target some.0 some.1 in
          let same : some.0 ≡ place.connection = one g.number some.0 place.connection g.target (place.path, g.stands)
          (target_of g.number some.0 w.0 g.target w.1 w.2) (target_of g.number place.connection _ g.target is refl) in
          some.1 ∙ ap Some same

      pub into_of_goes : (place : ConnectionAt) (from to : Port) → (g : Goes tree root place from to)
          → connection_into tree g.number g.target ≡ Some (place.connection, g.source)
      into_of_goes place from to g =
          into_first g.number g.target g.source place.connection
          (record { source = Some g.source; target = Some g.target })
          (first_of_goes place from to g) (wire_of_goes tree root place from to g) refl

    -- the facts about both ends of a connection
    pub record Known (n : ℕ) (source target : NumberedPort) : Type 0 where
      pub wire : ConnectionPorts
      pub among : Contains (connection_ports_at tree n) wire
      pub source_is : wire.source ≡ Some source
      pub target_is : wire.target ≡ Some target
      pub leaves : MayLeave tree n source
      pub enters : MayEnter tree n target
      pub not_both : NotBothOwn source target
      pub no_thread : is_thread_at tree n ≡ false

    module _ (sound : ArePermitted tree) where
      known_wire : (n : ℕ) (wire : ConnectionPorts) (source target : NumberedPort)
          → Contains (connection_ports_at tree n) wire
          → wire.source ≡ Some source → wire.target ≡ Some target
          → Known n source target
      known_wire n wire source target h es et =
          let d = sound.each n wire h in
          let s : d.source ≡ source = same_Some d.source source (sym d.source_is ∙ es) in
          let t : d.target ≡ target = same_Some d.target target (sym d.target_is ∙ et) in
          record {
            wire = wire;
            among = h;
            source_is = es;
            target_is = et;
            leaves = subst (MayLeave tree n) s d.leaves;
            enters = subst (MayEnter tree n) t d.enters;
            not_both = subst (λ a. NotBothOwn a target) s (subst (NotBothOwn d.source) t d.not_both);
            no_thread = by (is_thread_at tree n) refl;
          }
        where
          by : (b : Bool) → is_thread_at tree n ≡ b → is_thread_at tree n ≡ false
          by true e = absurd (Contains-nil wire (subst (λ ws. Contains ws wire) (sound.threads n e) h))
          by false e = e

      pub known : (place : ConnectionAt) (from to : Port) → (g : Goes tree root place from to)
          → Known g.number g.source g.target
      known place from to g =
          known_wire g.number (record { source = Some g.source; target = Some g.target }) g.source g.target
          (among_goes tree root place from to g) refl refl

      pub known_into : (n : ℕ) (target : NumberedPort) (k : ℕ) (source : NumberedPort) → Entered n target k source
          → Known n source target
      known_into n target k source x =
          known_wire n x.wire source target (Contains-from_slice_get (connection_ports_at tree n) k x.wire x.is_wire)
          x.source_is x.target_is

-- a connection into an own out port has an out port of a subcomponent as its source
pub inner_of : (tree : PackageTree ℕ) → ArePermitted tree → (here out k : ℕ) (source : NumberedPort)
    → is_in_at tree here out ≡ false
    → connection_into tree here (Own out) ≡ Some (k, source) → IsFromInner tree here source
inner_of tree sound here out k (Own q) goes_out e =
    absurd (known_into tree 0 sound here (Own out) k (Own q) (entered tree here (Own out) (k, Own q) e)).not_both
inner_of tree sound here out k (Inner s p) goes_out e =
    let m =
    (known_into tree 0 sound here (Own out) k (Inner s p) (entered tree here (Own out) (k, Inner s p) e)).leaves in
    (s, p, m.0, refl, m.1, m.2)
