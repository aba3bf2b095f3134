-- The set of all ports that lead out exists, by an order of declarations.
use Rattle.std.proofs.Common.{◌≡◌, ◌⊎◌, ◌↔◌, inl, inr, ℕ, zero, suc, ◌+◌, ◌-◌, ◌≤◌, Bool, true, false, nat_eq, List, []}
use Rattle.std.proofs.Common.{length, slice_get, Contains, Option, Some, None, refl, subst, arith}
use Rattle.std.specs.List.{list_any}
use Rattle.list_lemmas.proofs.ElementPositions.{slice_get-some}
use Rattle.aadl_tree.specs.declared.declarations.Direction.{Direction}
use Rattle.aadl_tree.specs.Declarations.{PackageTree}
use Rattle.aadl_uses.specs.proof.PackageContainment.{containment}
use Rattle.aadl_uses.specs.ContainmentAndUse.{IsInUse}
use Rattle.aadl_uses.specs.declared.connections_by_target.ConnectionPorts.{ConnectionPorts}
use Rattle.aadl_uses.specs.PortsOfConnections.{connection_ports_at}
use Rattle.aadl_uses.specs.proof.ContainmentOrders.{IsOrder}
use Rattle.aadl_uses.proofs.ContainmentOrders.{of_any, not_of_any}
use Rattle.aadl_chains.specs.declared.port_set.PortAt.{PortAt}
use Rattle.aadl_chains.specs.proof.PortSets.{with_port}
use Rattle.aadl_chains.specs.proof.PortsJoinedInside.{IsInside}
use Rattle.aadl_chains.specs.proof.PortsJoinedOutside.{opposite, led_by, IsLed, AreLedIfUsed, IsOutside}
use Rattle.aadl_chains.proofs.JoinedOutsideByConnection.{FrontLed, none_yet, one_led, none_led, one_more, all_led}
use Rattle.aadl_chains.proofs.JoinedOutsideByDeclaration.{BackLed, no_back, back_next, back_all}

pub is_used : (tree : PackageTree ℕ) (root : ℕ) (used : List ℕ) → ((n : ℕ) → Contains used n ↔ IsInUse tree root n)
    → (n : ℕ) → IsInUse tree root n ⊎ (IsInUse tree root n → ⊥)
is_used tree root used tells n = by (list_any (nat_eq n) used) refl
  where
    by : (b : Bool) → list_any (nat_eq n) used ≡ b → IsInUse tree root n ⊎ (IsInUse tree root n → ⊥)
    by true e = inl ((tells n).0 (of_any used n e))
    by false e = inr (λ u. not_of_any used n e ((tells n).1 u))

module _ (tree : PackageTree ℕ) (root : ℕ) (d : Direction) (ins : List PortAt)
    (all : IsInside tree (opposite d) ins) where
  -- ---- a connection
  record Leads (n : ℕ) (wire : ConnectionPorts) (old : List PortAt) : Type 0 where
    new : List PortAt
    is : IsLed tree root d ins n wire old new

  by_port : (n : ℕ) (wire : ConnectionPorts) (old : List PortAt) (o : Option PortAt)
      → led_by old ins tree root d n wire ≡ o
      → Leads n wire old
  by_port n wire old None e = record { new = old; is = none_led tree root d ins all old n wire e }
  by_port n wire old (Some port) e =
      record { new = with_port old port; is = one_led tree root d ins all old n wire port e }

  -- ---- the connections of a declaration
  record Front (n i : ℕ) (old : List PortAt) : Type 0 where
    new : List PortAt
    are : FrontLed tree root d n i old new

  front_step : (n i : ℕ) (old : List PortAt) → IsInUse tree root n → Front n i old → (wire : ConnectionPorts)
      → slice_get (connection_ports_at tree n) i ≡ Some wire → Front n (i + 1) old
  front_step n i old used f wire e =
      let l = by_port n wire f.new (led_by f.new ins tree root d n wire) refl in
      record { new = l.new; are = one_more tree root d ins all n i wire old f.new l.new used e l.is f.are }

  fronts : (n i : ℕ) (old : List PortAt) → IsInUse tree root n → i ≤ length (connection_ports_at tree n) → Front n i old
  fronts n zero old used most = record { new = old; are = none_yet tree root d n old }
  fronts n (suc i) old used most =
      let w = slice_get-some (connection_ports_at tree n) i (omega arith) in
      let e : i + 1 ≡ suc i = omega arith in
      subst (λ (k : ℕ). Front n k old) e (front_step n i old used (fronts n i old used (omega arith)) w.0 w.1)

  record Led (n : ℕ) (old : List PortAt) : Type 0 where
    new : List PortAt
    are : AreLedIfUsed tree root d n old new

  by_use : (n : ℕ) (old : List PortAt) → IsInUse tree root n ⊎ (IsInUse tree root n → ⊥) → Led n old
  by_use n old (inl used) =
      let f = fronts n (length (connection_ports_at tree n)) old used (omega arith) in
      record {
        new = f.new;
        are =
            inl (
              used,
              all_led tree root d ins all n (length (connection_ports_at tree n)) old f.new (omega arith)
                  f.are,
            );
      }
  by_use n old (inr never) = record { new = old; are = inr (never, refl) }

  -- ---- declarations, from the last one of an order
  module _ (keys : List ℕ) (order : IsOrder (containment tree) keys)
      (used : (n : ℕ) → IsInUse tree root n ⊎ (IsInUse tree root n → ⊥)) where
    record Known (at : ℕ) : Type 0 where
      ports : List PortAt
      back : BackLed tree root d keys at ports

    step : (at k : ℕ) → k + at + 1 ≡ length keys → Known at → (n : ℕ) → slice_get keys k ≡ Some n → Known (at + 1)
    step at k place x n e =
        let l = by_use n x.ports (used n) in
        record { ports = l.new; back = back_next tree root d keys order at x.ports x.back k n l.new place e l.are }

    known : (at : ℕ) → at ≤ length keys → Known at
    known zero most = record { ports = []; back = no_back tree root d keys }
    known (suc at) most =
        let k = length keys - (at + 1) in
        let place : length keys - (at + 1) + at + 1 ≡ length keys = omega arith in
        let n = slice_get-some keys (length keys - (at + 1)) (omega arith) in
        let e : at + 1 ≡ suc at = omega arith in
        subst Known e (step at (length keys - (at + 1)) place (known at (omega arith)) n.0 n.1)

    pub outside : (ports : List PortAt) × IsOutside tree root d ports
    outside = let x = known (length keys) (omega arith) in
        (x.ports, back_all tree root d keys order (length keys) x.ports x.back (omega arith))
