-- The set of all ports that reach threads exists, by an order of declarations.
use Rattle.std.proofs.Common.{◌≡◌, ℕ, zero, suc, ◌+◌, ◌<◌, ◌≤◌, Bool, true, false, List, [], length, slice_get, Option}
use Rattle.std.proofs.Common.{Some, None, refl, subst, arith}
use Rattle.list_lemmas.proofs.ElementPositions.{slice_get-some, Contains-from_slice_get}
use Rattle.aadl_tree.specs.declared.declarations.Direction.{Direction}
use Rattle.aadl_tree.specs.Declarations.{PackageTree}
use Rattle.aadl_uses.specs.proof.PackageContainment.{containment}
use Rattle.aadl_uses.specs.declared.connections_by_target.ConnectionPorts.{ConnectionPorts}
use Rattle.aadl_uses.specs.PortsOfConnections.{connection_ports_at}
use Rattle.aadl_uses.specs.proof.ContainmentOrders.{IsOrder}
use Rattle.aadl_chains.specs.declared.port_set.PortAt.{PortAt}
use Rattle.aadl_chains.specs.proof.PortSets.{with_port}
use Rattle.aadl_chains.specs.proof.PortsJoinedInside.{is_thread_at, inner_end, outer_end, declaration_port, joined_by}
use Rattle.aadl_chains.specs.proof.PortsJoinedInside.{AreJoined}
use Rattle.aadl_chains.specs.proof.PortsJoinedInside.{IsJoined, IsInside}
use Rattle.aadl_chains.proofs.JoinedInsideByConnection.{one_joined, none_joined, FrontJoined, none_yet, one_more}
use Rattle.aadl_chains.proofs.JoinedInsideByConnection.{all_joined, thread_joined}
use Rattle.aadl_chains.proofs.JoinedInsideByDeclaration.{FrontInside, no_front, front_more, front_past, front_all}

module _ (tree : PackageTree ℕ) (d : Direction) where
  -- ---- a connection
  record Joins (n : ℕ) (wire : ConnectionPorts) (old : List PortAt) : Type 0 where
    new : List PortAt
    is : IsJoined tree d n wire old new

  by_port : (n : ℕ) (wire : ConnectionPorts) (old : List PortAt) (o : Option ℕ)
      → joined_by old tree d n (outer_end d wire) (inner_end d wire) ≡ o → Joins n wire old
  by_port n wire old None e = record { new = old; is = none_joined tree d old n wire e }
  by_port n wire old (Some port) e =
      record { new = with_port old (declaration_port n port); is = one_joined tree d old n port wire e }

  -- ---- the connections of a declaration
  record Front (n i : ℕ) (old : List PortAt) : Type 0 where
    new : List PortAt
    are : FrontJoined tree d n i old new

  front_step : (n i : ℕ) (old : List PortAt) → is_thread_at tree n ≡ false → Front n i old → (wire : ConnectionPorts)
      → slice_get (connection_ports_at tree n) i ≡ Some wire → Front n (i + 1) old
  front_step n i old thread f wire e =
      let j = by_port n wire f.new (joined_by f.new tree d n (outer_end d wire) (inner_end d wire)) refl in
      record {
        new = j.new;
        are =
            one_more tree d n i wire old f.new j.new thread e
            (Contains-from_slice_get (connection_ports_at tree n) i wire e)
            j.is f.are;
      }

  some_wire : (n i : ℕ) → i < length (connection_ports_at tree n)
      → (wire : ConnectionPorts) × (slice_get (connection_ports_at tree n) i ≡ Some wire)
  some_wire n i lt = slice_get-some (connection_ports_at tree n) i lt

  fronts : (n i : ℕ) (old : List PortAt) → is_thread_at tree n ≡ false → i ≤ length (connection_ports_at tree n)
      → Front n i old
  fronts n zero old thread most = record { new = old; are = none_yet tree d n old }
  fronts n (suc i) old thread most =
      let w = some_wire n i (omega arith) in
      let e : i + 1 ≡ suc i = omega arith in
      subst (λ (k : ℕ). Front n k old) e (front_step n i old thread (fronts n i old thread (omega arith)) w.0 w.1)

  record Joined (n : ℕ) (old : List PortAt) : Type 0 where
    new : List PortAt
    are : AreJoined tree d n old new

  by_thread : (n : ℕ) (old : List PortAt) (b : Bool) → is_thread_at tree n ≡ b → Joined n old
  by_thread n old true e = record { new = old; are = thread_joined tree d n old e }
  by_thread n old false e =
      let f = fronts n (length (connection_ports_at tree n)) old e (omega arith) in
      record {
        new = f.new;
        are = all_joined tree d n (length (connection_ports_at tree n)) old f.new (omega arith)
            f.are;
      }

  -- ---- declarations in an order
  record Known (keys : List ℕ) (at : ℕ) : Type 0 where
    ports : List PortAt
    front : FrontInside tree d keys at ports

  by_key : (keys : List ℕ) (at : ℕ) → IsOrder (containment tree) keys → Known keys at → (o : Option ℕ)
      → slice_get keys at ≡ o → Known keys (at + 1)
  by_key keys at order k None e = record { ports = k.ports; front = front_past tree d keys at k.ports e k.front }
  by_key keys at order k (Some n) e =
      let j = by_thread n k.ports (is_thread_at tree n) refl in
      record { ports = j.new; front = front_more tree d keys at n k.ports j.new order e j.are k.front }

  known : (keys : List ℕ) (at : ℕ) → IsOrder (containment tree) keys → Known keys at
  known keys zero order = record { ports = []; front = no_front tree d keys }
  known keys (suc at) order =
      let e : at + 1 ≡ suc at = omega arith in
      subst (Known keys) e (by_key keys at order (known keys at order) (slice_get keys at) refl)

  pub inside : (keys : List ℕ) → IsOrder (containment tree) keys → (ports : List PortAt) × IsInside tree d ports
  inside keys order = let k = known keys (length keys) order in
      (k.ports, front_all tree d keys (length keys) k.ports order (omega arith) k.front)
