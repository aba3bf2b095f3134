-- Ports that lead out of an implementation, found connection by connection.
use Rattle.std.proofs.Common.{◌≡◌, ◌⊎◌, inl, inr, ℕ, ◌+◌, ◌<◌, ◌≤◌, Bool, true, false, cond, ◌||◌, nat_eq, List, []}
use Rattle.std.proofs.Common.{◌∷◌, length, slice_get, Contains, Option, Some, None, refl, sym, ap, subst, ◌∙◌, arith}
use Rattle.std.specs.Option.{option_and_then}
use Rattle.std.proofs.lemmas.Bool.{true≢false, eqb-true, eq-eqb, or_cases, or_right}
use Rattle.std.proofs.lemmas.Option.{same_Some, none-some}
use Rattle.list_lemmas.proofs.ElementPositions.{slice_get-from_Contains, Contains-from_slice_get}
use Rattle.aadl_tree.specs.declared.declarations.Direction.{Direction}
use Rattle.aadl_tree.specs.Declarations.{PackageTree}
use Rattle.aadl_names.specs.declared.numbered_port.NumberedPort.{NumberedPort}
use Rattle.aadl_names.specs.declared.numbered_port.NumberedPort.TheVariants.{Own, Inner}
use Rattle.aadl_uses.specs.ContainmentAndUse.{below, IsInUse}
use Rattle.aadl_uses.specs.declared.connections_by_target.ConnectionPorts.{ConnectionPorts}
use Rattle.aadl_uses.specs.PortsOfConnections.{connection_ports_at}
use Rattle.aadl_chains.specs.declared.port_set.PortAt.{PortAt}
use Rattle.aadl_chains.specs.proof.PortSets.{has, with_port}
use Rattle.aadl_chains.specs.proof.PortsJoinedInside.{inner_end, outer_end, declaration_port, reaches_in, IsInside}
use Rattle.aadl_chains.specs.proof.PortsJoinedOutside.{opposite, LeadsOut, of_root, of_own, of_beside, LeadsFrom}
use Rattle.aadl_chains.specs.proof.PortsJoinedOutside.{leads_from, port_below, port_in, led_by, AreLeading, HasLeading}
use Rattle.aadl_chains.specs.proof.PortsJoinedOutside.{IsLed, AreLed}
use Rattle.aadl_chains.proofs.PortSets.{has-true, has-from, kept, added, either}
use Rattle.aadl_chains.proofs.JoinedInsideByConnection.{reaches_in_to, reaches_from}
use Rattle.aadl_chains.proofs.JoinedInsideByDeclaration.{one_of_two}

module _ (tree : PackageTree ℕ) (root : ℕ) (d : Direction) where
  pub next_in_use : (k s n : ℕ) → IsInUse tree root k → below tree k s ≡ Some n → IsInUse tree root n
  next_in_use k s n u b = (s ∷ u.0, ap (option_and_then (λ m. below tree m s)) u.1 ∙ b)

  pub leads_in_use : {n port : ℕ} → LeadsOut tree root d n port → IsInUse tree root n
  leads_in_use (of_root e) = ([], ap Some (sym e))
  leads_in_use (of_own k s q wire among inner outer b rest) = next_in_use k s _ (leads_in_use rest) b
  leads_in_use (of_beside k s t q m wire used among inner outer b c r) = next_in_use k s _ used b

  -- ---- the ports that the first i connections of a declaration join to the outside
  pub record FrontLed (n i : ℕ) (old new : List PortAt) : Type 0 where
    pub kept : (port : PortAt) → Contains old port → Contains new port
    pub sound : AreLeading tree root d old → AreLeading tree root d new
    pub here : (k : ℕ) (wire : ConnectionPorts) (s port m : ℕ) (site : NumberedPort) → k < i
        → HasLeading tree root d old n
        → slice_get (connection_ports_at tree n) k ≡ Some wire
        → inner_end d wire ≡ Some (Inner s port)
        → outer_end d wire ≡ Some site → below tree n s ≡ Some m → LeadsFrom tree root d n site
        → Contains new (declaration_port m port)

  pub none_yet : (n : ℕ) (ports : List PortAt) → FrontLed n 0 ports ports
  none_yet n ports = record {
    kept = λ x h. h;
    sound = λ old. old;
    here = λ k wire s port m site lt has_all is i o b l. absurd (omega arith);
  }

  module _ (inside : List PortAt) (all : IsInside tree (opposite d) inside) where
    -- ---- one end
    pub leads_to : (outside : List PortAt) (n : ℕ) (site : NumberedPort) → AreLeading tree root d outside
        → leads_from outside inside tree root d n (Some site) ≡ true → LeadsFrom tree root d n site
    leads_to outside n (Own port) sound e = by (or_cases (nat_eq n root) (has outside (declaration_port n port)) e)
      where
        by : (nat_eq n root ≡ true) ⊎ (has outside (declaration_port n port) ≡ true) → LeadsOut tree root d n port
        by (inl h) = of_root (eqb-true n root h)
        by (inr h) = sound n port (has-true outside (declaration_port n port) h)
    leads_to outside n (Inner s port) sound e = reaches_in_to tree (opposite d) inside (below tree n s) port all.sound e

    own_found : (outside : List PortAt) (n port : ℕ) → (n ≡ root) ⊎ Contains outside (declaration_port n port)
        → (nat_eq n root || has outside (declaration_port n port)) ≡ true
    own_found outside n port (inl e) = ap (λ b. b || has outside (declaration_port n port)) (eq-eqb n root e)
    own_found outside n port (inr h) =
        or_right (nat_eq n root) (has outside (declaration_port n port)) (has-from outside (declaration_port n port) h)

    pub leads_found : (outside : List PortAt) (n : ℕ) (site : NumberedPort) → HasLeading tree root d outside n
        → LeadsFrom tree root d n site
        → leads_from outside inside tree root d n (Some site) ≡ true
    leads_found outside n (Own port) has_all l = own_found outside n port (has_all port l)
    leads_found outside n (Inner s port) has_all r = ap (λ o. reaches_in inside tree (opposite d) o port) r.1
        ∙ reaches_from tree (opposite d) inside r.0 port (all.complete r.0) r.2

    -- ---- one connection
    record InnerPort (n : ℕ) (o : Option NumberedPort) (port : PortAt) : Type 0 where
      pub sub : ℕ
      pub number : ℕ
      pub target : ℕ
      pub end_is : o ≡ Some (Inner sub number)
      pub names : below tree n sub ≡ Some target
      pub port_is : declaration_port target number ≡ port

    inner_below : (n s q : ℕ) (port : PortAt) (b : Option ℕ) → below tree n s ≡ b → port_below b q ≡ Some port
        → InnerPort n (Some (Inner s q)) port
    inner_below n s q port None e is = absurd (none-some port is)
    inner_below n s q port (Some m) e is =
        record {
          sub = s;
          number = q;
          target = m;
          end_is = refl;
          names = e;
          port_is = same_Some (declaration_port m q) port is;
        }

    inner_port : (n : ℕ) (o : Option NumberedPort) (port : PortAt) → port_in tree n o ≡ Some port → InnerPort n o port
    inner_port n None port e = absurd (none-some port e)
    inner_port n (Some (Own q)) port e = absurd (none-some port e)
    inner_port n (Some (Inner s q)) port e = inner_below n s q port (below tree n s) refl e

    chosen : {X : Type 0} (b : Bool) (o : Option X) (x : X) → cond b o None ≡ Some x → (b ≡ true) × (o ≡ Some x)
    chosen true o x e = (refl, e)
    chosen false o x e = absurd (none-some x e)

    led_new : (outside : List PortAt) (n : ℕ) (wire : ConnectionPorts) (s q m : ℕ) (o : Option NumberedPort)
        → outer_end d wire ≡ o
        → leads_from outside inside tree root d n o ≡ true → IsInUse tree root n
        → Contains (connection_ports_at tree n) wire
        → AreLeading tree root d outside → inner_end d wire ≡ Some (Inner s q) → below tree n s ≡ Some m
        → LeadsOut tree root d m q
    led_new outside n wire s q m None e t used among sound inner b = absurd (true≢false (sym t))
    led_new outside n wire s q m (Some (Own p)) e t used among sound inner b =
        of_own n s p wire among inner e b (leads_to outside n (Own p) sound t)
    led_new outside n wire s q m (Some (Inner u p)) e t used among sound inner b =
        let r = leads_to outside n (Inner u p) sound t in
        of_beside n s u p r.0 wire used among inner e b r.1 r.2

    pub one_led : (outside : List PortAt) (n : ℕ) (wire : ConnectionPorts) (port : PortAt)
        → led_by outside inside tree root d n wire ≡ Some port
        → IsLed tree root d inside n wire outside (with_port outside port)
    one_led outside n wire port is = record {
      kept = λ x h. kept outside port x h;
      sound = λ used among old k q h. by used among old k q (either outside port (declaration_port k q) h);
      here = λ x e. subst (Contains (with_port outside port)) (same_Some port x (sym is ∙ e)) (added outside port);
    }
      where
        by : IsInUse tree root n → Contains (connection_ports_at tree n) wire → AreLeading tree root d outside
            → (k q : ℕ)
            → Contains outside (declaration_port k q) ⊎ (port ≡ declaration_port k q) → LeadsOut tree root d k q
        by used among old k q (inl h) = old k q h
        by used among old k q (inr e) =
            let c =
            chosen (leads_from outside inside tree root d n (outer_end d wire))
            (port_in tree n (inner_end d wire)) port is in
            let i = inner_port n (inner_end d wire) port c.1 in
            subst (λ (x : PortAt). LeadsOut tree root d x.declaration x.port) (i.port_is ∙ e)
            (led_new outside n wire i.sub i.number i.target (outer_end d wire) refl c.0 used among old i.end_is i.names)

    pub none_led : (outside : List PortAt) (n : ℕ) (wire : ConnectionPorts)
        → led_by outside inside tree root d n wire ≡ None
        → IsLed tree root d inside n wire outside outside
    none_led outside n wire is = record {
      kept = λ x h. h;
      sound = λ used among old. old;
      here = λ x e. absurd (none-some x (sym is ∙ e));
    }

    -- ---- the connections of one declaration
    still : (old mid : List PortAt) (n : ℕ) → ((port : PortAt) → Contains old port → Contains mid port)
        → HasLeading tree root d old n
        → HasLeading tree root d mid n
    still old mid n more has_all port l = by (has_all port l)
      where
        by : (n ≡ root) ⊎ Contains old (declaration_port n port) → (n ≡ root) ⊎ Contains mid (declaration_port n port)
        by (inl e) = inl e
        by (inr h) = inr (more (declaration_port n port) h)

    pub one_more : (n i : ℕ) (wire : ConnectionPorts) (old mid new : List PortAt) → IsInUse tree root n
        → slice_get (connection_ports_at tree n) i ≡ Some wire
        → IsLed tree root d inside n wire mid new → FrontLed n i old mid → FrontLed n (i + 1) old new
    one_more n i wire old mid new used is led front = record {
      kept = λ x h. led.kept x (front.kept x h);
      sound = λ h. led.sound used (Contains-from_slice_get (connection_ports_at tree n) i wire is) (front.sound h);
      here = λ k w s port m site lt has_all at e o b l. which k w s port m site has_all at e o b l (one_of_two k i lt);
    }
      where
        which : (k : ℕ) (w : ConnectionPorts) (s port m : ℕ) (site : NumberedPort) → HasLeading tree root d old n
            → slice_get (connection_ports_at tree n) k ≡ Some w
            → inner_end d w ≡ Some (Inner s port)
            → outer_end d w ≡ Some site → below tree n s ≡ Some m → LeadsFrom tree root d n site → (k < i) ⊎ (k ≡ i)
            → Contains new (declaration_port m port)
        which k w s port m site has_all at e o b l (inl h) =
            led.kept (declaration_port m port) (front.here k w s port m site h has_all at e o b l)
        which k w s port m site has_all at e o b l (inr h) =
            let same : wire ≡ w = same_Some wire w (sym is
            ∙ (ap (slice_get (connection_ports_at tree n)) (sym h) ∙ at)) in
            let t : leads_from mid inside tree root d n (outer_end d wire) ≡ true =
            ap (leads_from mid inside tree root d n) (ap (outer_end d) same ∙ o)
            ∙ leads_found mid n site (still old mid n front.kept has_all) l in
            let p : port_in tree n (inner_end d wire) ≡ Some (declaration_port m port) =
            ap (port_in tree n) (ap (inner_end d) same ∙ e)
            ∙ ap (λ x. port_below x port) b in
            led.here (declaration_port m port) (ap (λ c. cond c (port_in tree n (inner_end d wire)) None) t ∙ p)

    pub all_led : (n i : ℕ) (old new : List PortAt) → length (connection_ports_at tree n) ≤ i → FrontLed n i old new
        → AreLed tree root d n old new
    all_led n i old new past front = record {
      kept = front.kept;
      sound = front.sound;
      complete = λ has_all wire s port m site among e o b l.
          let lt = among.1 in
          front.here among.0 wire s port m site (omega arith) has_all
          (slice_get-from_Contains (connection_ports_at tree n) wire among) e o b l;
    }
