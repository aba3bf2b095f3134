-- A port at the end of a connection chain has one start: no two connections have one target.
use Rattle.std.proofs.Common.{◌≡◌, ◌∙◌, inl, inr, ◌⊎◌, ℕ, ◌<◌, List, [], ◌∷◌, Some, None, refl, sym, ap, subst, Option}
use Rattle.std.specs.Prelude.{slice_get, option_map}
use Rattle.std.specs.Option.{option_and_then}
use Rattle.std.proofs.lemmas.Bool.{cases_order}
use Rattle.std.proofs.lemmas.Option.{slice_get-map}
use Rattle.aadl_tree.specs.Declarations.{Connection, Implementation, PackageTree}
use Rattle.aadl_names.specs.declared.fault.PackageFault.TheVariants.{TwoSources}
use Rattle.aadl_names.specs.declared.numbered_port.NumberedPort.{NumberedPort}
use Rattle.aadl_names.specs.NameResolution.{implementation_at, connections_of}
use Rattle.aadl_uses.specs.ContainmentAndUse.{IsInUse}
use Rattle.aadl_uses.specs.declared.connections_by_target.ConnectionPorts.{ConnectionPorts}
use Rattle.aadl_uses.specs.PortsOfConnections.{ports_of_connection, wires_of, connection_ports_at}
use Rattle.aadl_uses.specs.SecondConnections.{target_in}
use Rattle.aadl_chains.specs.Chains.{Port, ConnectionAt, Leads, IsStart}
use Rattle.aadl_chains.specs.ChainFaults.{IsSecondEnd}
use Rattle.aadl_chains.proofs.PermittedConnections.{declared}
use Rattle.aadl_chains.specs.proof.FaultlessConnections.{AreFaultless}
use Rattle.aadl_chains.proofs.UniqueIncomingChains.{one_into, none_into_start}
use Rattle.aadl_chains.proofs.FaultlessConnections.{sound_by}
use Rattle.aadl_instance.specs.InstancesByPaths.{InstanceParts, IsFlat}
use Rattle.design_laws.proofs.SoundInstanceParts.{not_found, names_clean}

-- a connection into a port exists
linked : (tree : PackageTree ℕ) (x : Implementation ℕ) (c : Option (Connection ℕ)) (s : NumberedPort)
    → option_and_then (λ (w : ConnectionPorts). w.target) (option_map (ports_of_connection tree x) c) ≡ Some s
    → (k : Connection ℕ) × (c ≡ Some k)
linked tree x None s is = absurd (cc is)
linked tree x (Some k) s is = (k, refl)

linked_by : (tree : PackageTree ℕ) (o : Option (Implementation ℕ)) (j : ℕ) (s : NumberedPort)
    → target_in (wires_of tree o) j ≡ Some s
    → (k : Connection ℕ) × (slice_get (connections_of o) j ≡ Some k)
linked_by tree None j s is = absurd (cc is)
linked_by tree (Some x) j s is =
    linked tree x (slice_get x.connections j) s (sym (ap (option_and_then (λ (w : ConnectionPorts). w.target))
    (slice_get-map (ports_of_connection tree x) x.connections j)) ∙ is)

module _ {tree : PackageTree ℕ} {name : List ℕ} {parts : InstanceParts} (flat : IsFlat tree name parts) where
  no_second : (x : Connection ℕ) → IsSecondEnd tree parts.root x → ⊥
  no_second x second =
      not_found flat 4 (TwoSources x.name.spelling x.name.at) (inr (inr (inl (refl, inr (x, second, refl)))))

  no_later : (n i j : ℕ) (s : NumberedPort) → IsInUse tree parts.root n
      → target_in (connection_ports_at tree n) i ≡ Some s
      → target_in (connection_ports_at tree n) j ≡ Some s → i < j → ⊥
  no_later n i j s in_use first second lt =
      let link = linked_by tree (implementation_at tree n) j s second in
      no_second link.0 (record {
        number = n;
        connection = j;
        used = in_use;
        is_connection = link.1;
        is_second = record { first = i; target = s; in_order = lt; earlier = first; here = second };
      })

  one_by : (n i j : ℕ) (s : NumberedPort) → (i ≡ j) ⊎ ((i < j) ⊎ (j < i)) → IsInUse tree parts.root n
      → target_in (connection_ports_at tree n) i ≡ Some s
      → target_in (connection_ports_at tree n) j ≡ Some s → i ≡ j
  one_by n i j s (inl e) in_use first second = e
  one_by n i j s (inr (inl lt)) in_use first second = absurd (no_later n i j s in_use first second lt)
  one_by n i j s (inr (inr lt)) in_use first second = absurd (no_later n j i s in_use second first lt)

  is_sound : AreFaultless tree parts.root
  is_sound = sound_by tree parts.root (declared tree parts.root (names_clean flat))
      (λ n i j s in_use first second. one_by n i j s (cases_order i j) in_use first second)

  -- connection chains with one last port have one first port
  pub one_start : (cs bs : List ConnectionAt) (first second to : Port) → IsStart tree parts.root first
      → IsStart tree parts.root second
      → Leads tree parts.root cs first to → Leads tree parts.root bs second to → first ≡ second
  one_start [] [] first second to a b l m = l ∙ sym m
  one_start [] (d ∷ bs) first second to a b l m =
      absurd (none_into_start tree parts.root is_sound d m.0 to m.2 (subst (IsStart tree parts.root) l a))
  one_start (c ∷ cs) [] first second to a b l m =
      absurd (none_into_start tree parts.root is_sound c l.0 to l.2 (subst (IsStart tree parts.root) m b))
  one_start (c ∷ cs) (d ∷ bs) first second to a b l m =
      let same = (one_into tree parts.root is_sound c d l.0 m.0 to l.2 m.2).1 in
      one_start cs bs first second m.0 a b (subst (λ p. Leads tree parts.root cs first p) same l.1) m.1
