-- Incomplete tables of the number of thread ports that the in ports of implementations lead to.
use Rattle.std.proofs.Common.{◌≡◌, ◌⊎◌, inl, inr, ℕ, ◌+◌, ◌<◌, ◌≤◌, Bool, true, false, cond, ◌&&◌, nat_eq, min, List}
use Rattle.std.proofs.Common.{[], length, slice_get, get_or, Contains, Option, Some, None, refl, sym, ap, subst, ◌∙◌}
use Rattle.std.proofs.Common.{arith}
use Rattle.std.specs.List.{IsDistinct}
use Rattle.std.specs.Map.{lookup}
use Rattle.std.specs.Option.{option_map_or}
use Rattle.std.proofs.lemmas.Bool.{cases_order, true≢false, eqb-true, eq-eqb}
use Rattle.std.proofs.lemmas.Map.Keys.{apart_from_distinct}
use Rattle.std.proofs.lemmas.Option.{same_Some, none-some, slice_get_within, slice_get-get_or}
use Rattle.list_lemmas.proofs.ElementPositions.{slice_get-from_Contains, Contains-from_slice_get}
use Rattle.aadl_uses.specs.proof.ContainmentOrders.{IsSequence}
use Rattle.aadl_tree.specs.Declarations.{PackageTree}
use Rattle.aadl_names.specs.declared.numbered_port.NumberedPort.{NumberedPort}
use Rattle.aadl_names.specs.declared.numbered_port.NumberedPort.TheVariants.{Own, Inner}
use Rattle.aadl_names.specs.NameResolution.{implementation_at}
use Rattle.aadl_uses.specs.ContainmentAndUse.{below}
use Rattle.aadl_uses.specs.proof.PackageContainment.{containment}
use Rattle.aadl_uses.proofs.PackageContainment.{below-same}
use Rattle.aadl_uses.proofs.ThreadCounts.{thread_by}
use Rattle.aadl_uses.specs.declared.connections_by_target.ConnectionPorts.{ConnectionPorts}
use Rattle.aadl_uses.specs.SecondConnections.{IsDuplicate}
use Rattle.aadl_uses.specs.PortsOfConnections.{connection_ports_at}
use Rattle.aadl_chains.specs.declared.port_set.PortAt.{PortAt}
use Rattle.aadl_chains.specs.proof.PortSets.{same_port}
use Rattle.aadl_chains.specs.proof.PortsJoinedInside.{is_thread_at, is_in_at, declaration_port}
use Rattle.aadl_chains.specs.Chains.{Port}
use Rattle.aadl_chains.specs.proof.PermittedConnections.{MayEnter, ArePermitted}
use Rattle.aadl_chains.proofs.ConnectionsOnChains.{is_in-at}
use Rattle.aadl_chains.specs.proof.LimitedCounts.{IsNumber}
use Rattle.aadl_chains.specs.proof.EnteredPortCountTables.{entered_count, entered_count_by, AreCounted, AreTakenBelow}
use Rattle.aadl_chains.specs.proof.EnteredPortCountTables.{IsCounted, IsNew}
use Rattle.aadl_chains.specs.proof.EnteredPortCountTables.{AreAdded}
use Rattle.aadl_chains.specs.proof.EnteredThreadPorts.{ComesFrom, IsEnteredThrough, AmongFirst, FromOwn}
use Rattle.aadl_chains.proofs.LimitedCounts.{no_number, same_number}
use Rattle.aadl_chains.proofs.FirstIncomingConnections.{first_if, second_never, first_wire}
use Rattle.aadl_chains.proofs.EnteredThreadPorts.{through_number, own_from, own_to, one_through, thread_number}
use Rattle.aadl_chains.proofs.EnteredThreadPorts.{no_thread_number, none_first, more_first}

-- ---- one more count in a table
same_port-apart : (m n p q : ℕ) → (m ≡ n → ⊥) → same_port (declaration_port m p) (declaration_port n q) ≡ false
same_port-apart m n p q apart = by (nat_eq m n) refl
  where
    by : (b : Bool) → nat_eq m n ≡ b → (b && nat_eq p q) ≡ false
    by true e = absurd (apart (eqb-true m n e))
    by false e = refl

same_port-other : (m p q : ℕ) → (p ≡ q → ⊥) → same_port (declaration_port m p) (declaration_port m q) ≡ false
same_port-other m p q apart = by (nat_eq m m) (nat_eq p q) refl
  where
    by : (a b : Bool) → nat_eq p q ≡ b → (a && b) ≡ false
    by true true e = absurd (apart (eqb-true p q e))
    by true false e = refl
    by false b e = refl

same_port-itself : (m p : ℕ) → same_port (declaration_port m p) (declaration_port m p) ≡ true
same_port-itself m p = ap (λ b. b && nat_eq p p) (eq-eqb m m refl) ∙ eq-eqb p p refl

module _ (tree : PackageTree ℕ) (limit n k : ℕ) (wire : ConnectionPorts) (old new : List (PortAt × ℕ)) where
  pub own_taken : (port c : ℕ) → wire.source ≡ Some (Own port)
      → (AreTakenBelow tree limit old n → IsNumber limit (IsEnteredThrough tree n k) c)
      → ((other : PortAt) → entered_count new other
      ≡ cond (same_port (declaration_port n port) other) (min limit (entered_count old (declaration_port n port) + c))
      (entered_count old other))
      → IsCounted tree limit n k wire old new
  own_taken port c source number grown = record {
    others = λ m q apart. grown (declaration_port m q)
        ∙ ap (λ b. cond b (min limit (entered_count old (declaration_port n port) + c))
        (entered_count old (declaration_port m q)))
        (same_port-apart n m port q (λ e. apart (sym e)));
    same = λ q apart. grown (declaration_port n q)
        ∙ ap (λ b. cond b (min limit (entered_count old (declaration_port n port) + c))
        (entered_count old (declaration_port n q)))
        (same_port-other n port q (λ e. apart (source ∙ ap (λ r. Some (Own r)) e)));
    more = λ q is known. (c, number known, at q (own_same port q (sym source ∙ is)));
  }
    where
      own_same : (p q : ℕ) → Some (Own p) ≡ Some (Own q) → p ≡ q
      own_same p q e = cc e

      at : (q : ℕ) → port ≡ q → entered_count new (declaration_port n q)
          ≡ min limit (entered_count old (declaration_port n q) + c)
      at q e = subst (λ r. entered_count new (declaration_port n r)
          ≡ min limit (entered_count old (declaration_port n r) + c)) e
          (grown (declaration_port n port) ∙ ap
          (λ b. cond b (min limit (entered_count old (declaration_port n port) + c))
          (entered_count old (declaration_port n port)))
          (same_port-itself n port))

updated_by : (b : Bool) (n x : ℕ) (o : Option ℕ) → n ≡ x
    → option_map_or (λ n. n) (cond b (Some n) o) 0 ≡ cond b x (option_map_or (λ n. n) o 0)
updated_by true n x o e = e
updated_by false n x o e = refl

pub taken_updated : (old new : List (PortAt × ℕ)) (port : PortAt) (n x : ℕ)
    → ((other : PortAt) → lookup (same_port other) new
    ≡ cond (same_port port other) (Some n) (lookup (same_port other) old)) → n ≡ x
    → (other : PortAt) → entered_count new other ≡ cond (same_port port other) x (entered_count old other)
taken_updated old new port n x updates e other =
    ap (λ (o : Option ℕ). option_map_or (λ n. n) o 0) (updates other)
    ∙ updated_by (same_port port other) n x (lookup (same_port other) old) e

pub none_taken : (tree : PackageTree ℕ) (limit n k : ℕ) (wire : ConnectionPorts) (table : List (PortAt × ℕ))
    → ((q : ℕ) → wire.source ≡ Some (Own q) → ⊥)
    → IsCounted tree limit n k wire table table
none_taken tree limit n k wire table never = record {
  others = λ m q apart. refl;
  same = λ q apart. refl;
  more = λ q is known. absurd (never q is);
}

-- ---- the connections of one implementation
-- the counts that the first i connections add
pub record FrontCounted (tree : PackageTree ℕ) (limit n i : ℕ) (old new : List (PortAt × ℕ)) : Type 0 where
  pub others : (m q : ℕ) → (m ≡ n → ⊥) → entered_count new (declaration_port m q)
      ≡ entered_count old (declaration_port m q)
  pub sum : IsNew tree n old → AreTakenBelow tree limit old n → (q : ℕ)
      → IsNumber limit (AmongFirst (FromOwn tree n q) i) (entered_count new (declaration_port n q))

module _ (tree : PackageTree ℕ) (limit n : ℕ) where
  one_own : (q : ℕ) (k j : ℕ) (x : Port) → FromOwn tree n q k x → FromOwn tree n q j x → k ≡ j
  one_own q k j x a b = one_through tree n k j x a.1 b.1

  pub none_front : (table : List (PortAt × ℕ)) → FrontCounted tree limit n 0 table table
  none_front table = record {
    others = λ m q apart. refl;
    sum =
        λ fresh known q. subst (IsNumber limit (AmongFirst (FromOwn tree n q) 0)) (sym (fresh.empty q))
        (none_first limit (FromOwn tree n q) (one_own q));
  }

  still_below : (old new : List (PortAt × ℕ)) → IsNew tree n old
      → ((m q : ℕ) → (m ≡ n → ⊥) → entered_count new (declaration_port m q) ≡ entered_count old (declaration_port m q))
      → AreTakenBelow tree limit old n → AreTakenBelow tree limit new n
  still_below old new fresh same known s m b q none =
      subst (IsNumber limit (ComesFrom tree m q)) (sym (same m q (fresh.apart s m b))) (known s m b q none)

  one_more : (i : ℕ) (wire : ConnectionPorts) (old mid new : List (PortAt × ℕ))
      → slice_get (connection_ports_at tree n) i ≡ Some wire
      → IsCounted tree limit n i wire mid new
      → FrontCounted tree limit n i old mid → IsNew tree n old → AreTakenBelow tree limit old n
      → (q : ℕ) (o : Option NumberedPort) → wire.source ≡ o
      → IsNumber limit (AmongFirst (FromOwn tree n q) (i + 1)) (entered_count new (declaration_port n q))
  one_more i wire old mid new is step front fresh known q o e = by o e
    where
      kept : (wire.source ≡ Some (Own q) → ⊥)
          → IsNumber limit (AmongFirst (FromOwn tree n q) (i + 1)) (entered_count new (declaration_port n q))
      kept apart =
          let none = no_number limit (FromOwn tree n q i)
          (λ x f. apart (ap (λ (w : ConnectionPorts). w.source) (same_Some wire f.0.0 (sym is ∙ f.0.1)) ∙ f.0.2)) in
          let so_far = front.sum fresh known q in
          more_first limit (FromOwn tree n q) (one_own q) i (entered_count mid (declaration_port n q)) 0
          (entered_count new (declaration_port n q)) so_far none
          (step.same q apart ∙ capped (entered_count mid (declaration_port n q)) (length so_far.all) so_far.number_is)
        where
          capped : (a x : ℕ) → a ≡ min limit x → a ≡ min limit (a + 0)
          capped a x e = omega arith

      grown : wire.source ≡ Some (Own q)
          → IsNumber limit (AmongFirst (FromOwn tree n q) (i + 1)) (entered_count new (declaration_port n q))
      grown own =
          let m = step.more q own (still_below old mid fresh front.others known) in
          more_first limit (FromOwn tree n q) (one_own q) i (entered_count mid (declaration_port n q)) m.0
          (entered_count new (declaration_port n q))
          (front.sum fresh known q)
          (same_number limit (IsEnteredThrough tree n i) (FromOwn tree n q i) m.0 (λ x t. ((wire, is, own), t))
          (λ x f. f.1) m.1) m.2

      never_own : (p : ℕ) → wire.source ≡ Some (Own p) → (p ≡ q → ⊥) → wire.source ≡ Some (Own q) → ⊥
      never_own p f apart g = let same : Some (Own p) ≡ Some (Own q) = sym f ∙ g in apart (cc same)

      own : (p : ℕ) → wire.source ≡ Some (Own p) → (p ≡ q) ⊎ ((p < q) ⊎ (q < p))
          → IsNumber limit (AmongFirst (FromOwn tree n q) (i + 1)) (entered_count new (declaration_port n q))
      own p f (inl same) = grown (f ∙ ap (λ r. Some (Own r)) same)
      own p f (inr (inl less)) = kept (never_own p f (λ same. omega arith))
      own p f (inr (inr more)) = kept (never_own p f (λ same. omega arith))

      by : (o : Option NumberedPort) → wire.source ≡ o
          → IsNumber limit (AmongFirst (FromOwn tree n q) (i + 1)) (entered_count new (declaration_port n q))
      by None f = kept (λ g. let none : None ≡ Some (Own q) = sym f ∙ g in cc none)
      by (Some (Inner t p)) f = kept (λ g. let none : Some (Inner t p) ≡ Some (Own q) = sym f ∙ g in cc none)
      by (Some (Own p)) f = own p f (cases_order p q)

  pub front_more : (i : ℕ) (wire : ConnectionPorts) (old mid new : List (PortAt × ℕ))
      → slice_get (connection_ports_at tree n) i ≡ Some wire
      → IsCounted tree limit n i wire mid new
      → FrontCounted tree limit n i old mid → FrontCounted tree limit n (i + 1) old new
  front_more i wire old mid new is step front = record {
    others = λ m q apart. step.others m q apart ∙ front.others m q apart;
    sum = λ fresh known q. one_more i wire old mid new is step front fresh known q wire.source refl;
  }

  pub front_added : (i : ℕ) (old new : List (PortAt × ℕ)) → length (connection_ports_at tree n) ≤ i
      → FrontCounted tree limit n i old new → AreAdded tree limit n old new
  front_added i old new past front = record {
    others = front.others;
    added =
        λ fresh known q none. same_number limit (AmongFirst (FromOwn tree n q) i) (ComesFrom tree n q)
        (entered_count new (declaration_port n q))
        (λ x h. own_to tree n q h.0 x h.2) (λ x c. within x q (own_from tree n q x none c)) (front.sum fresh known q);
  }
    where
      within : (x : Port) (q : ℕ) → (k : ℕ) × FromOwn tree n q k x → AmongFirst (FromOwn tree n q) i x
      within x q h = let lt = slice_get_within (connection_ports_at tree n) h.0 h.1.0.0 h.1.0.1 in
          (h.0, omega arith, h.1)

-- ---- ports of threads and of others
pub taken-number : (tree : PackageTree ℕ) (limit : ℕ) (table : List (PortAt × ℕ)) (m p : ℕ) → ArePermitted tree
    → AreCounted tree limit table m
    → IsNumber limit (ComesFrom tree m p) (entered_count_by limit table tree (Some m) p)
taken-number tree limit table m p sound known = by (is_thread_at tree m) (is_in_at tree m p) refl refl
  where
    by : (a b : Bool) → is_thread_at tree m ≡ a → is_in_at tree m p ≡ b
        → IsNumber limit (ComesFrom tree m p) (cond a (cond b (min limit 1) 0)
        (entered_count table (declaration_port m p)))
    by true true e f =
        let t = thread_by (implementation_at tree m) e in
        thread_number tree m limit p sound e f
        ((t.0, (t.1, t.2)), is_in-at tree m (record { path = []; port = p }) m refl ∙ f)
    by true false e f = no_thread_number tree m limit p sound e f
    by false b e f = known p e

-- ---- through one connection
module _ (tree : PackageTree ℕ) (limit n k : ℕ) where
  pub through-number : (wire : ConnectionPorts) (s p : ℕ) (table : List (PortAt × ℕ)) → ArePermitted tree
      → slice_get (connection_ports_at tree n) k ≡ Some wire
      → wire.target ≡ Some (Inner s p) → (IsDuplicate (connection_ports_at tree n) k → ⊥)
      → AreTakenBelow tree limit table n
      → IsNumber limit (IsEnteredThrough tree n k) (entered_count_by limit table tree (below tree n s) p)
  through-number wire s p table sound is target only known =
      let d = sound.each n wire (Contains-from_slice_get (connection_ports_at tree n) k wire is) in
      let m = subst (MayEnter tree n) (same_Some d.target (Inner s p) (sym d.target_is ∙ target)) d.enters in
      subst (λ o. IsNumber limit (IsEnteredThrough tree n k) (entered_count_by limit table tree o p)) (sym m.1)
      (through_number tree n limit k s p m.0 (entered_count_by limit table tree (Some m.0) p) wire is target
      (first_if tree n k wire (Inner s p) is target only) m.1
      (taken-number tree limit table m.0 p sound (known s m.0 m.1)))

  pub through-second : IsDuplicate (connection_ports_at tree n) k → IsNumber limit (IsEnteredThrough tree n k) 0
  through-second second =
      no_number limit (IsEnteredThrough tree n k)
      (λ x t. second_never tree n k (Inner t.sub t.inner_port) second t.first)

  -- its target is not a port of a subcomponent
  pub through-none : (wire : ConnectionPorts) → slice_get (connection_ports_at tree n) k ≡ Some wire
      → ((s p : ℕ) → wire.target ≡ Some (Inner s p) → ⊥)
      → IsNumber limit (IsEnteredThrough tree n k) 0
  through-none wire is never = no_number limit (IsEnteredThrough tree n k)
      (λ x t. let w = first_wire tree n (Inner t.sub t.inner_port) k t.first in
      never t.sub t.inner_port (ap (λ (o : ConnectionPorts). o.target) (same_Some wire w.0 (sym is ∙ w.1)) ∙ w.2))

-- ---- all implementations, each after the ones that it contains
apart_at : (xs : List ℕ) (i j n : ℕ) → IsDistinct nat_eq xs → slice_get xs i ≡ Some n
    → slice_get xs j ≡ Some n → i < j → ⊥
apart_at xs i j n distinct at_i at_j lt =
    let within = slice_get_within xs j n at_j in
    let a : get_or xs i 0 ≡ n = same_Some (get_or xs i 0) n (sym (slice_get-get_or xs i 0 (omega arith)) ∙ at_i) in
    let b : get_or xs j 0 ≡ n = same_Some (get_or xs j 0) n (sym (slice_get-get_or xs j 0 within) ∙ at_j) in
    true≢false (sym (eq-eqb n n refl) ∙ (ap (λ x. nat_eq x n) (sym a) ∙ (ap (nat_eq (get_or xs i 0)) (sym b)
    ∙ apart_from_distinct nat_eq xs i j 0 distinct lt within)))

pub record FrontTable (tree : PackageTree ℕ) (limit : ℕ) (keys : List ℕ) (at : ℕ)
    (table : List (PortAt × ℕ)) : Type 0 where
  pub known : (k n : ℕ) → k < at → slice_get keys k ≡ Some n → AreCounted tree limit table n
  pub empty : (k n q : ℕ) → at ≤ k → slice_get keys k ≡ Some n → entered_count table (declaration_port n q) ≡ 0

module _ (tree : PackageTree ℕ) (limit : ℕ) (keys : List ℕ) where
  pub no_table : FrontTable tree limit keys 0 []
  no_table = record { known = λ k n lt e. absurd (omega arith); empty = λ k n q lt e. refl }

  module _ (sequence : IsSequence (containment tree) keys) (at : ℕ) where
    pub known_below : (n : ℕ) (table : List (PortAt × ℕ)) → slice_get keys at ≡ Some n
        → ((k m : ℕ) → k < at → slice_get keys k ≡ Some m → AreCounted tree limit table m)
        → AreTakenBelow tree limit table n
    known_below n table is known s m b = let j = sequence.behind at n s m is (below-same tree n s ∙ b) in
        known j.0 m j.1 j.2

    table_new : (n : ℕ) (table : List (PortAt × ℕ)) → slice_get keys at ≡ Some n → FrontTable tree limit keys at table
        → IsNew tree n table
    table_new n table is front = record {
      apart = λ s m b same.
          let j = sequence.behind at n s m is (below-same tree n s ∙ b) in
          apart_at keys j.0 at n sequence.distinct (j.2 ∙ ap Some same) is j.1;
      empty = λ q. front.empty at n q (omega arith) is;
    }

    one_of_two : (k i : ℕ) → k < i + 1 → (k ≡ i) ⊎ ((k < i) ⊎ (i < k)) → (k < i) ⊎ (k ≡ i)
    one_of_two k i lt (inl e) = inr e
    one_of_two k i lt (inr (inl h)) = inl h
    one_of_two k i lt (inr (inr h)) = absurd (omega arith)

    pub table_more : (n : ℕ) (old new : List (PortAt × ℕ)) → slice_get keys at ≡ Some n → AreAdded tree limit n old new
        → FrontTable tree limit keys at old
        → FrontTable tree limit keys (at + 1) new
    table_more n old new is step front = record {
      known = λ k m lt e. which k m e (one_of_two k at lt (cases_order k at));
      empty =
          λ k m q lt e. step.others m q
          (λ same. apart_at keys at k n sequence.distinct is (e ∙ ap Some same) (omega arith))
          ∙ front.empty k m q (omega arith) e;
    }
      where
        own : AreCounted tree limit new n
        own = step.added (table_new n old is front) (known_below n old is front.known)

        which : (k m : ℕ) → slice_get keys k ≡ Some m → (k < at) ⊎ (k ≡ at) → AreCounted tree limit new m
        which k m e (inl lt) = λ q none.
            subst (IsNumber limit (ComesFrom tree m q))
            (sym (step.others m q (λ same. apart_at keys k at n sequence.distinct (e ∙ ap Some same) is lt)))
            (front.known k m lt e q none)
        which k m e (inr same) =
            subst (AreCounted tree limit new) (same_Some n m (sym is ∙ (ap (slice_get keys) (sym same) ∙ e))) own

    pub table_past : (table : List (PortAt × ℕ)) → slice_get keys at ≡ None → FrontTable tree limit keys at table
        → FrontTable tree limit keys (at + 1) table
    table_past table none front = record {
      known = λ k n lt e. which k n e (one_of_two k at lt (cases_order k at));
      empty = λ k n q lt e. front.empty k n q (omega arith) e;
    }
      where
        which : (k n : ℕ) → slice_get keys k ≡ Some n → (k < at) ⊎ (k ≡ at) → AreCounted tree limit table n
        which k n e (inl lt) = front.known k n lt e
        which k n e (inr same) = absurd (none-some n (sym none ∙ (ap (slice_get keys) (sym same) ∙ e)))

    pub table_all : (table : List (PortAt × ℕ)) → length keys ≤ at → FrontTable tree limit keys at table → (n : ℕ)
        → Contains keys n
        → AreCounted tree limit table n
    table_all table past front n h = let lt = h.1 in front.known h.0 n (omega arith) (slice_get-from_Contains keys n h)
