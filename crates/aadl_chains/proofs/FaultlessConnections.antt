-- If lines 2 and 4 of the rules have no findings at connections, the connections have no faults. For `descend`,
-- `trace_back` and `trace_tap`.
use Rattle.std.proofs.Common.{◌≡◌, ℕ, slice_get, Contains, Some, option_map, sym, ap, subst, ◌∙◌}
use Rattle.std.specs.Option.{option_and_then}
use Rattle.std.proofs.lemmas.Option.{same_Some, slice_get-map}
use Rattle.list_lemmas.proofs.ElementPositions.{Contains-from_slice_get}
use Rattle.list_lemmas.proofs.Elements.{Contains-nil}
use Rattle.aadl_tree.specs.Declarations.{Connection, Implementation, PackageTree}
use Rattle.aadl_names.specs.NameResolution.{implementation_at}
use Rattle.aadl_uses.specs.proof.ThreadCounts.{is_thread_in}
use Rattle.aadl_uses.specs.declared.connections_by_target.ConnectionPorts.{ConnectionPorts}
use Rattle.aadl_uses.specs.PortsOfConnections.{ports_of_connection, wires_of, connection_ports_at}
use Rattle.aadl_chains.specs.proof.PermittedConnections.{MayEnter, ArePermitted}
use Rattle.aadl_chains.specs.proof.FaultlessConnections.{AreFaultless}
use Rattle.aadl_chains.specs.proof.UpwardWalks.{OneEach}

module _ (tree : PackageTree ℕ) (root : ℕ) where
  wire_at : (n k : ℕ) (component : Implementation ℕ) (x : Connection ℕ) → implementation_at tree n ≡ Some component
      → slice_get component.connections k ≡ Some x
      → slice_get (connection_ports_at tree n) k ≡ Some (ports_of_connection tree component x)
  wire_at n k component x e is =
      ap (λ o. slice_get (wires_of tree o) k) e
      ∙ (slice_get-map (ports_of_connection tree component) component.connections k
      ∙ ap (option_map (ports_of_connection tree component)) is)

  pub sound_by : ArePermitted tree → OneEach tree root → AreFaultless tree root
  sound_by declared one = record {
    one_source = λ n i j component x y target used e at_i at_j site_i site_j.
        one n i j target used (ap (option_and_then (λ (w : ConnectionPorts). w.target))
        (wire_at n i component x e at_i) ∙ site_i)
        (ap (option_and_then (λ (w : ConnectionPorts). w.target)) (wire_at n j component y e at_j) ∙ site_j);
    enters = λ n i component x target e at is.
        let d =
        declared.each n (ports_of_connection tree component x)
        (Contains-from_slice_get (connection_ports_at tree n) i (ports_of_connection tree component x)
        (wire_at n i component x e at)) in
        let same : d.target ≡ target = same_Some d.target target (sym d.target_is ∙ is) in
        subst (MayEnter tree n) same d.enters;
    threads = λ n i component x e thread at.
        Contains-nil (ports_of_connection tree component x)
        (subst (λ ws. Contains ws (ports_of_connection tree component x))
        (declared.threads n (ap is_thread_in e ∙ thread))
        (Contains-from_slice_get (connection_ports_at tree n) i (ports_of_connection tree component x)
        (wire_at n i component x e at)));
  }
