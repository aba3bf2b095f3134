-- The first connection that is on no connection chain, or that is the second one into a port.
use Rattle.std.proofs.Common.{◌≡◌, ◌↔◌, ℕ, Bool, false, ◌&&◌, IsTrue, List, length, slice_get, Contains, Option, Some}
use Rattle.std.proofs.Common.{None, refl, sym, subst, ◌∙◌}
use Rattle.std.proofs.lemmas.Option.{none-some, same_Some, slice_get_within}
use Rattle.list_lemmas.proofs.ElementPositions.{slice_get-from_Contains, Contains-from_slice_get}
use Rattle.aadl_tree.specs.declared.declarations.Direction.{Direction}
use Rattle.aadl_tree.specs.declared.declarations.Direction.TheVariants as directions
use Rattle.aadl_tree.specs.Declarations.{Connection, PackageTree}
use Rattle.aadl_names.specs.declared.fault.PackageFault.{PackageFault}
use Rattle.aadl_names.specs.declared.numbered_port.NumberedPort.{NumberedPort}
use Rattle.aadl_names.specs.proof.FirstFaultSoFar.{found}
use Rattle.aadl_names.specs.NameResolution.{implementation_at, connections_of}
use Rattle.aadl_uses.specs.proof.PackageContainment.{containment}
use Rattle.aadl_uses.specs.proof.FirstRecursion.{FirstIn}
use Rattle.aadl_uses.specs.ContainmentAndUse.{IsInUse}
use Rattle.aadl_uses.specs.declared.connections_by_target.ConnectionPorts.{ConnectionPorts}
use Rattle.aadl_uses.specs.SecondConnections.{IsDuplicate, target_in}
use Rattle.aadl_uses.specs.proof.FirstConnections.{is_before, first_into}
use Rattle.aadl_uses.specs.PortsOfConnections.{connection_ports_at}
use Rattle.aadl_uses.proofs.FirstConnections.{is_second-tells, no_second}
use Rattle.aadl_uses.specs.proof.ContainmentOrders.{IsOrder}
use Rattle.aadl_chains.specs.proof.PortsJoinedOutside.{opposite, LeadsFrom, leads_from}
use Rattle.aadl_chains.proofs.JoinedOutsideByConnection.{leads_to, leads_found}
use Rattle.aadl_chains.specs.ChainFaults.{IsEndFault}
use Rattle.aadl_chains.specs.proof.PermittedConnections.{ArePermitted}
use Rattle.aadl_chains.specs.proof.ConnectionsOnChains.{IsOnChain}
use Rattle.aadl_chains.specs.proof.FoundChainFaults.{IsFoundAt, IsFoundIn, dead_end, second}
use Rattle.aadl_chains.proofs.FoundChainFaults.{both_found, nothing_at, ways_tell, no_source, no_target, end_fault}
use Rattle.aadl_chains.proofs.FoundChainFaults.{found_fault, wire_if}
use Rattle.design_laws.proofs.FaultSearches.{Finds, none_found, alike_found, Below, found_below, first_in}
use Rattle.design_laws.proofs.InsidePortSetExistence.{inside}
use Rattle.design_laws.proofs.OutsidePortSetExistence.{is_used, outside}

record Told (P : Type 0) : Type 0 where
  answer : Bool
  tells : IsTrue answer ↔ P

second_by : (wires : List ConnectionPorts) (k : ℕ) (o : Option NumberedPort) → target_in wires k ≡ o
    → Told (IsDuplicate wires k)
second_by wires k None e = record { answer = false; tells = no_second wires k e }
second_by wires k (Some target) e =
    record {
      answer = is_before (first_into wires target) k;
      tells = is_second-tells wires k target (is_before (first_into wires target) k) e refl;
    }

module _ (tree : PackageTree ℕ) (root : ℕ) (sound : ArePermitted tree) (keys : List ℕ)
    (order : IsOrder (containment tree) keys)
    (used : List ℕ) (tells : (n : ℕ) → Contains used n ↔ IsInUse tree root n) where
  -- connections lead from the end to a thread or the root
  leads : (d : Direction) (n : ℕ) (site : NumberedPort) → Told (LeadsFrom tree root d n site)
  leads d n site =
      let i = inside tree (opposite d) keys order in
      let o = outside tree root d i.0 i.1 keys order (is_used tree root used tells) in
      record {
        answer = leads_from o.0 i.0 tree root d n (Some site);
        tells = (
          λ e. leads_to tree root d i.0 i.1 o.0 n site o.1.sound e,
          λ l. leads_found tree root d i.0 i.1 o.0 n site (o.1.complete n) l,
        );
      }

  by_target : (n : ℕ) (wire : ConnectionPorts) (s : NumberedPort) (o : Option NumberedPort) → wire.source ≡ Some s
      → wire.target ≡ o
      → Told (IsOnChain tree root n wire)
  by_target n wire s None e f = record { answer = false; tells = no_target tree root n wire f }
  by_target n wire s (Some t) e f =
      let a = leads directions.In n s in
      let b = leads directions.Out n t in
      record {
        answer = a.answer && b.answer;
        tells = ways_tell tree root n wire s t a.answer b.answer e f a.tells b.tells;
      }

  by_source : (n : ℕ) (wire : ConnectionPorts) (o : Option NumberedPort) → wire.source ≡ o
      → Told (IsOnChain tree root n wire)
  by_source n wire None e = record { answer = false; tells = no_source tree root n wire e }
  by_source n wire (Some s) e = by_target n wire s wire.target e refl

  -- ---- a connection
  by_link : (n k : ℕ) (old : Option PackageFault) (o : Option (Connection ℕ))
      → slice_get (connections_of (implementation_at tree n)) k ≡ o → Finds (IsFoundAt tree root n k) old
  by_link n k old None e = record { new = old; all = nothing_at tree root n k old e }
  by_link n k old (Some link) e =
      let w = wire_if tree (implementation_at tree n) k link e in
      let b = by_source n w.0 w.0.source refl in
      let c = second_by (connection_ports_at tree n) k (target_in (connection_ports_at tree n) k) refl in
      record {
        new = found (found old (dead_end b.answer link)) (second c.answer link);
        all =
            both_found tree root n k link w.0 e w.1 b.answer c.answer old
            (found (found old (dead_end b.answer link)) (second c.answer link)) b.tells c.tells refl;
      }

  at_link : (n k : ℕ) (old : Option PackageFault) → Finds (IsFoundAt tree root n k) old
  at_link n k old = by_link n k old (slice_get (connections_of (implementation_at tree n)) k) refl

  -- ---- the connections of a declaration
  in_declaration : (n : ℕ) (old : Option PackageFault) → Finds (IsFoundIn tree root n) old
  in_declaration n old =
      alike_found (Below (IsFoundAt tree root n) (length (connections_of (implementation_at tree n))))
      (IsFoundIn tree root n) old (λ f h. (h.0, h.2))
      (λ f h. (h.0, slice_get_within (connections_of (implementation_at tree n)) h.0 h.1.link h.1.is_connection, h.1))
      (found_below (IsFoundAt tree root n) (at_link n) (length (connections_of (implementation_at tree n))) old)

  -- ---- the declarations in use
  abbrev FoundAt : ℕ → PackageFault → Type 0
  FoundAt i fault = (n : ℕ) × (slice_get used i ≡ Some n) × IsFoundIn tree root n fault

  by_key : (i : ℕ) (old : Option PackageFault) (o : Option ℕ) → slice_get used i ≡ o → Finds (FoundAt i) old
  by_key i old None e = none_found (FoundAt i) old (λ f h. none-some h.0 (sym e ∙ h.1))
  by_key i old (Some n) e =
      alike_found (IsFoundIn tree root n) (FoundAt i) old (λ f h. (n, e, h)) (λ f h. other f h.0 h.1 h.2)
      (in_declaration n old)
    where
      other : (f : PackageFault) (m : ℕ) → slice_get used i ≡ Some m → IsFoundIn tree root m f → IsFoundIn tree root n f
      other f m g h = subst (λ (x : ℕ). IsFoundIn tree root x f) (same_Some m n (sym g ∙ e)) h

  at_key : (i : ℕ) (old : Option PackageFault) → Finds (FoundAt i) old
  at_key i old = by_key i old (slice_get used i) refl

  to_end : (f : PackageFault) → Below FoundAt (length used) f → IsEndFault tree root f
  to_end f (i, lt, (n, e, h)) = end_fault tree root sound n f ((tells n).0 (Contains-from_slice_get used i n e)) h

  from_end : (f : PackageFault) → IsEndFault tree root f → Below FoundAt (length used) f
  from_end f x =
      let h = found_fault tree root sound f x in
      let c = (tells h.0).1 h.1 in
      (c.0, c.1, (h.0, slice_get-from_Contains used h.0 c, h.2))

  pub first_end : (o : Option PackageFault) × FirstIn (IsEndFault tree root) o
  first_end =
      first_in (IsEndFault tree root)
      (alike_found (Below FoundAt (length used)) (IsEndFault tree root) None to_end from_end
      (found_below FoundAt at_key (length used) None))
