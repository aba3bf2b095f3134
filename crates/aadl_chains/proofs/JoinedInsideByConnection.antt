-- Ports that lead to threads below, found connection by connection within one implementation.
use Rattle.std.proofs.Common.{◌≡◌, ◌⊎◌, inl, inr, ℕ, zero, suc, ◌+◌, ◌<◌, ◌≤◌, Bool, true, false, cond, List, [], ◌∷◌}
use Rattle.std.proofs.Common.{length, get_or, slice_get, Contains, Option, Some, None, refl, sym, ap, subst, ◌∙◌, arith}
use Rattle.std.proofs.lemmas.Bool.{true≢false}
use Rattle.std.proofs.lemmas.Option.{same_Some, none-some}
use Rattle.aadl_tree.specs.declared.declarations.Direction.{Direction}
use Rattle.aadl_tree.specs.Declarations.{PackageTree}
use Rattle.aadl_names.specs.declared.numbered_port.NumberedPort.{NumberedPort}
use Rattle.aadl_names.specs.declared.numbered_port.NumberedPort.TheVariants.{Own, Inner}
use Rattle.aadl_uses.specs.ContainmentAndUse.{below}
use Rattle.aadl_uses.specs.declared.connections_by_target.ConnectionPorts.{ConnectionPorts}
use Rattle.aadl_uses.specs.PortsOfConnections.{connection_ports_at}
use Rattle.aadl_chains.specs.declared.port_set.PortAt.{PortAt}
use Rattle.aadl_chains.specs.proof.PortSets.{has, with_port}
use Rattle.aadl_chains.specs.proof.PortsJoinedInside.{is_thread_at, is_in_at, is_way, inner_end, outer_end, Reaches}
use Rattle.aadl_chains.specs.proof.PortsJoinedInside.{of_thread, of_inner, declaration_port, reaches_by, reaches_in}
use Rattle.aadl_chains.specs.proof.PortsJoinedInside.{joined_inner, joined_by, AreReaching, HasAll, IsJoined, AreJoined}
use Rattle.aadl_chains.specs.proof.PortsJoinedInside.{IsInside}
use Rattle.aadl_chains.proofs.PortSets.{has-true, has-from, kept, added, either}

module _ (tree : PackageTree ℕ) (d : Direction) where
  -- ---- one port
  way_of : {n port : ℕ} → Reaches tree d n port → is_thread_at tree n ≡ true → is_way d (is_in_at tree n port) ≡ true
  way_of (of_thread thread way) e = way
  way_of (of_inner s p m wire thread among outer inner is rest) e = absurd (true≢false (sym e ∙ thread))

  reaches_if : (ports : List PortAt) (n port : ℕ) (b : Bool) → is_thread_at tree n ≡ b → AreReaching tree d ports
      → cond b (is_way d (is_in_at tree n port)) (has ports (declaration_port n port)) ≡ true → Reaches tree d n port
  reaches_if ports n port true e sound is = of_thread e is
  reaches_if ports n port false e sound is = sound n port (has-true ports (declaration_port n port) is)

  pub reaches_to : (ports : List PortAt) (n port : ℕ) → AreReaching tree d ports → reaches_by ports tree d n port ≡ true
      → Reaches tree d n port
  reaches_to ports n port sound is = reaches_if ports n port (is_thread_at tree n) refl sound is

  found_if : (ports : List PortAt) (n port : ℕ) (b : Bool) → is_thread_at tree n ≡ b → HasAll tree d ports n
      → Reaches tree d n port
      → cond b (is_way d (is_in_at tree n port)) (has ports (declaration_port n port)) ≡ true
  found_if ports n port true e all r = way_of r e
  found_if ports n port false e all r = has-from ports (declaration_port n port) (all port e r)

  pub reaches_from : (ports : List PortAt) (n port : ℕ) → HasAll tree d ports n → Reaches tree d n port
      → reaches_by ports tree d n port ≡ true
  reaches_from ports n port all r = found_if ports n port (is_thread_at tree n) refl all r

  pub reaches_in_to : (ports : List PortAt) (o : Option ℕ) (port : ℕ) → AreReaching tree d ports
      → reaches_in ports tree d o port ≡ true
      → (m : ℕ) × (o ≡ Some m) × Reaches tree d m port
  reaches_in_to ports None port sound is = absurd (true≢false (sym is))
  reaches_in_to ports (Some m) port sound is = (m, refl, reaches_to ports m port sound is)

  pub reaches_in_from : (ports : List PortAt) (o : Option ℕ) (port : ℕ) → IsInside tree d ports
      → ((m : ℕ) × (o ≡ Some m) × Reaches tree d m port)
      → reaches_in ports tree d o port ≡ true
  reaches_in_from ports o port all r =
      ap (λ x. reaches_in ports tree d x port) r.1 ∙ reaches_from ports r.0 port (all.complete r.0) r.2

  -- ---- one connection
  pub record Joined (ports : List PortAt) (n : ℕ) (outer inner : Option NumberedPort) (port : ℕ) : Type 0 where
    pub sub : ℕ
    pub other : ℕ
    pub outer_is : outer ≡ Some (Own port)
    pub inner_is : inner ≡ Some (Inner sub other)
    pub reaches : reaches_in ports tree d (below tree n sub) other ≡ true

  joined_if : (ports : List PortAt) (n q s p port : ℕ) (b : Bool) → reaches_in ports tree d (below tree n s) p ≡ b
      → cond b (Some q) None ≡ Some port
      → Joined ports n (Some (Own q)) (Some (Inner s p)) port
  joined_if ports n q s p port true e is =
      record {
        sub = s;
        other = p;
        outer_is = ap (λ k. Some (Own k)) (same_Some q port is);
        inner_is = refl;
        reaches = e;
      }
  joined_if ports n q s p port false e is = absurd (none-some port is)

  joined_to : (ports : List PortAt) (n : ℕ) (outer inner : Option NumberedPort) (port : ℕ)
      → joined_by ports tree d n outer inner ≡ Some port
      → Joined ports n outer inner port
  joined_to ports n None inner port is = absurd (none-some port is)
  joined_to ports n (Some (Inner t q)) inner port is = absurd (none-some port is)
  joined_to ports n (Some (Own q)) None port is = absurd (none-some port is)
  joined_to ports n (Some (Own q)) (Some (Own p)) port is = absurd (none-some port is)
  joined_to ports n (Some (Own q)) (Some (Inner s p)) port is =
      joined_if ports n q s p port (reaches_in ports tree d (below tree n s) p) refl is

  joined_from : (ports : List PortAt) (n port s p : ℕ) (outer inner : Option NumberedPort) → outer ≡ Some (Own port)
      → inner ≡ Some (Inner s p)
      → reaches_in ports tree d (below tree n s) p ≡ true → joined_by ports tree d n outer inner ≡ Some port
  joined_from ports n port s p outer inner o i r =
      ap (λ x. joined_by ports tree d n x inner) o
      ∙ (ap (joined_inner ports tree d n port) i ∙ ap (λ b. cond b (Some port) None) r)

  pub one_joined : (ports : List PortAt) (n port : ℕ) (wire : ConnectionPorts)
      → joined_by ports tree d n (outer_end d wire) (inner_end d wire) ≡ Some port
      → IsJoined tree d n wire ports (with_port ports (declaration_port n port))
  one_joined ports n port wire is = record {
    kept = λ x h. kept ports (declaration_port n port) x h;
    sound = λ thread among old. λ k q h. by k q thread among old
        (either ports (declaration_port n port) (declaration_port k q) h);
    here = λ q s p o i r. subst (λ x. Contains (with_port ports (declaration_port n port)) (declaration_port n x))
        (same_Some port q (sym is ∙ joined_from ports n q s p (outer_end d wire) (inner_end d wire) o i r))
        (added ports (declaration_port n port));
  }
    where
      j : Joined ports n (outer_end d wire) (inner_end d wire) port
      j = joined_to ports n (outer_end d wire) (inner_end d wire) port is

      new : is_thread_at tree n ≡ false → Contains (connection_ports_at tree n) wire → AreReaching tree d ports
          → Reaches tree d n port
      new thread among old =
          let r = reaches_in_to ports (below tree n j.sub) j.other old j.reaches in
          of_inner j.sub j.other r.0 wire thread among j.outer_is j.inner_is r.1 r.2

      by : (k q : ℕ) → is_thread_at tree n ≡ false → Contains (connection_ports_at tree n) wire
          → AreReaching tree d ports
          → Contains ports (declaration_port k q) ⊎ (declaration_port n port ≡ declaration_port k q)
          → Reaches tree d k q
      by k q thread among old (inl h) = old k q h
      by k q thread among old (inr e) =
          subst (λ (x : PortAt). Reaches tree d x.declaration x.port) e (new thread among old)

  pub none_joined : (ports : List PortAt) (n : ℕ) (wire : ConnectionPorts)
      → joined_by ports tree d n (outer_end d wire) (inner_end d wire) ≡ None
      → IsJoined tree d n wire ports ports
  none_joined ports n wire is = record {
    kept = λ x h. h;
    sound = λ thread among old. old;
    here =
        λ q s p o i r. absurd (none-some q
        (sym is ∙ joined_from ports n q s p (outer_end d wire) (inner_end d wire) o i r));
  }

  -- ---- the connections of one declaration
  -- the ports that the first i connections join
  pub record FrontJoined (n i : ℕ) (old new : List PortAt) : Type 0 where
    pub kept : (port : PortAt) → Contains old port → Contains new port
    pub sound : AreReaching tree d old → AreReaching tree d new
    pub here : (k : ℕ) (wire : ConnectionPorts) (port s p m : ℕ) → k < i
        → slice_get (connection_ports_at tree n) k ≡ Some wire
        → outer_end d wire ≡ Some (Own port)
        → inner_end d wire ≡ Some (Inner s p)
        → below tree n s ≡ Some m → HasAll tree d old m → Reaches tree d m p → Contains new (declaration_port n port)

  pub none_yet : (n : ℕ) (ports : List PortAt) → FrontJoined n 0 ports ports
  none_yet n ports = record {
    kept = λ x h. h;
    sound = λ old. old;
    here = λ k wire port s p m lt is o i b all r. absurd (omega arith);
  }

  still_all : (old new : List PortAt) (m : ℕ) → ((port : PortAt) → Contains old port → Contains new port)
      → HasAll tree d old m → HasAll tree d new m
  still_all old new m more all port thread r = more (declaration_port m port) (all port thread r)

  pub one_more : (n i : ℕ) (wire : ConnectionPorts) (old mid new : List PortAt) → is_thread_at tree n ≡ false
      → slice_get (connection_ports_at tree n) i ≡ Some wire
      → Contains (connection_ports_at tree n) wire
      → IsJoined tree d n wire mid new → FrontJoined n i old mid → FrontJoined n (i + 1) old new
  one_more n i wire old mid new thread is among joined front = record {
    kept = λ x h. joined.kept x (front.kept x h);
    sound = λ h. joined.sound thread among (front.sound h);
    here = λ k w port s p m lt at o e b all r. which k w port s p m at o e b all r (one_of_two k i lt);
  }
    where
      one_of_two : (k i : ℕ) → k < i + 1 → (k < i) ⊎ (k ≡ i)
      one_of_two zero zero lt = inr refl
      one_of_two zero (suc i) lt = inl (omega arith)
      one_of_two (suc k) zero lt = absurd (omega arith)
      one_of_two (suc k) (suc i) lt = next (one_of_two k i (omega arith))
        where
          next : (k < i) ⊎ (k ≡ i) → (suc k < suc i) ⊎ (suc k ≡ suc i)
          next (inl h) = inl (omega arith)
          next (inr h) = inr (ap suc h)

      which : (k : ℕ) (w : ConnectionPorts) (port s p m : ℕ) → slice_get (connection_ports_at tree n) k ≡ Some w
          → outer_end d w ≡ Some (Own port)
          → inner_end d w ≡ Some (Inner s p) → below tree n s ≡ Some m
          → HasAll tree d old m → Reaches tree d m p → (k < i) ⊎ (k ≡ i) → Contains new (declaration_port n port)
      which k w port s p m at o e b all r (inl h) =
          joined.kept (declaration_port n port) (front.here k w port s p m h at o e b all r)
      which k w port s p m at o e b all r (inr h) =
          let same : wire ≡ w = same_Some wire w (sym is ∙ (ap (slice_get (connection_ports_at tree n)) (sym h) ∙ at))
          in
          joined.here port s p (ap (outer_end d) same ∙ o) (ap (inner_end d) same ∙ e)
          (ap (λ x. reaches_in mid tree d x p) b ∙ reaches_from mid m p (still_all old mid m front.kept all) r)

  -- a port that reaches a thread through a connection
  pub record Through (n port : ℕ) : Type 0 where
    pub sub : ℕ
    pub other : ℕ
    pub target : ℕ
    pub wire : ConnectionPorts
    pub among : Contains (connection_ports_at tree n) wire
    pub outer_is : outer_end d wire ≡ Some (Own port)
    pub inner_is : inner_end d wire ≡ Some (Inner sub other)
    pub is : below tree n sub ≡ Some target
    pub rest : Reaches tree d target other

  pub through : {n port : ℕ} → Reaches tree d n port → is_thread_at tree n ≡ false → Through n port
  through (of_thread thread way) e = absurd (true≢false (sym thread ∙ e))
  through (of_inner s p m wire thread among outer inner is rest) e = record {
    sub = s;
    other = p;
    target = m;
    wire = wire;
    among = among;
    outer_is = outer;
    inner_is = inner;
    is = is;
    rest = rest;
  }

  pub all_joined : (n i : ℕ) (old new : List PortAt) → length (connection_ports_at tree n) ≤ i → FrontJoined n i old new
      → AreJoined tree d n old new
  all_joined n i old new past front = record {
    kept = front.kept;
    sound = front.sound;
    complete = λ ready port thread r.
        let t = through r thread in
        let lt = t.among.1 in
        front.here t.among.0 t.wire port t.sub t.other t.target (omega arith)
        (get_at (connection_ports_at tree n) t.among.0 t.wire t.among.1 t.among.2) t.outer_is
        t.inner_is t.is (ready t.sub t.target t.is) t.rest;
  }
    where
      get_at : (ws : List ConnectionPorts) (k : ℕ) (w : ConnectionPorts) → k < length ws → get_or ws k w ≡ w
          → slice_get ws k ≡ Some w
      get_at [] k w lt e = absurd (omega arith)
      get_at (x ∷ ws) zero w lt e = ap Some e
      get_at (x ∷ ws) (suc k) w lt e = get_at ws k w (omega arith) e

  pub thread_joined : (n : ℕ) (ports : List PortAt) → is_thread_at tree n ≡ true → AreJoined tree d n ports ports
  thread_joined n ports thread = record {
    kept = λ x h. h;
    sound = λ h. h;
    complete = λ ready port other r. absurd (true≢false (sym thread ∙ other));
  }
