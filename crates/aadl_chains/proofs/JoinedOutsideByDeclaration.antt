-- Ports that lead out of implementations, found declaration by declaration, the containing ones first.
use Rattle.std.proofs.Common.{◌≡◌, ◌⊎◌, inl, inr, ℕ, zero, suc, ◌+◌, ◌<◌, ◌≤◌, false, nat_eq, List, [], ◌∷◌, length}
use Rattle.std.proofs.Common.{slice_get, Contains, Some, None, refl, sym, ap, subst, ◌∙◌, arith}
use Rattle.std.specs.List.{IsDistinct}
use Rattle.std.proofs.lemmas.Bool.{true≢false, eq-eqb}
use Rattle.std.proofs.lemmas.List.{length-map}
use Rattle.std.proofs.lemmas.Option.{same_Some, none-some, slice_get_within, slice_get-get_or}
use Rattle.list_lemmas.proofs.Elements.{Contains-nil, AllByRecursion-at}
use Rattle.list_lemmas.proofs.ElementPositions.{slice_get-from_Contains}
use Rattle.aadl_tree.specs.declared.declarations.Direction.{Direction}
use Rattle.aadl_tree.specs.Declarations.{PackageTree}
use Rattle.aadl_names.specs.declared.numbered_port.NumberedPort.{NumberedPort}
use Rattle.aadl_names.specs.declared.numbered_port.NumberedPort.TheVariants.{Own, Inner}
use Rattle.aadl_uses.specs.ContainmentAndUse.{below, IsInUse}
use Rattle.aadl_uses.specs.proof.PackageContainment.{containment, targets_in}
use Rattle.aadl_uses.proofs.PackageContainment.{below-same}
use Rattle.aadl_uses.specs.declared.connections_by_target.ConnectionPorts.{ConnectionPorts}
use Rattle.aadl_uses.specs.PortsOfConnections.{connection_ports_at}
use Rattle.aadl_uses.specs.proof.ContainmentOrders.{IsOrder}
use Rattle.aadl_chains.specs.declared.port_set.PortAt.{PortAt}
use Rattle.aadl_chains.specs.proof.PortsJoinedInside.{inner_end, outer_end, declaration_port}
use Rattle.aadl_chains.specs.proof.PortsJoinedOutside.{LeadsOut, of_root, of_own, of_beside, LeadsFrom, AreLeading}
use Rattle.aadl_chains.specs.proof.PortsJoinedOutside.{HasLeading, AreLed, AreLedIfUsed, IsOutside}
use Rattle.aadl_chains.proofs.JoinedInsideByDeclaration.{no_wires, split}
use Rattle.aadl_chains.proofs.JoinedOutsideByConnection.{leads_in_use}

-- each element of a list of distinct numbers has one position
one_place : (xs : List ℕ) (i j n : ℕ) → IsDistinct nat_eq xs → slice_get xs i ≡ Some n → slice_get xs j ≡ Some n → i ≡ j
unfolding IsDistinct
one_place [] i j n d e f = let lt = slice_get_within [] i n e in absurd (omega arith)
one_place (x ∷ xs) zero zero n d e f = refl
one_place (x ∷ xs) zero (suc j) n d e f =
    absurd (true≢false (sym (eq-eqb x n (same_Some x n e)) ∙ AllByRecursion-at (λ y. nat_eq x y ≡ false) xs j n d.0 f))
one_place (x ∷ xs) (suc i) zero n d e f =
    absurd (true≢false (sym (eq-eqb x n (same_Some x n f)) ∙ AllByRecursion-at (λ y. nat_eq x y ≡ false) xs i n d.0 e))
one_place (x ∷ xs) (suc i) (suc j) n d e f = ap suc (one_place xs i j n d.1 e f)

module _ (tree : PackageTree ℕ) (root : ℕ) (d : Direction) (keys : List ℕ) where
  -- the ports that the last `at` declarations of an order join to the outside
  pub record BackLed (at : ℕ) (ports : List PortAt) : Type 0 where
    pub sound : AreLeading tree root d ports
    pub complete : (k n : ℕ) (wire : ConnectionPorts) (s port m : ℕ) (site : NumberedPort) → length keys ≤ k + at
        → slice_get keys k ≡ Some n → IsInUse tree root n
        → Contains (connection_ports_at tree n) wire → inner_end d wire ≡ Some (Inner s port)
        → outer_end d wire ≡ Some site → below tree n s ≡ Some m → LeadsFrom tree root d n site
        → Contains ports (declaration_port m port)

  pub no_back : BackLed 0 []
  no_back = record {
    sound = λ n port h. absurd (Contains-nil (declaration_port n port) h);
    complete = λ k n wire s port m site past is used among e o b l. let lt = slice_get_within keys k n is in
        absurd (omega arith);
  }

  module _ (order : IsOrder (containment tree) keys) where
    -- the position of a declaration with connections in the order
    placed_at : (k : ℕ) (wire : ConnectionPorts) → Contains (connection_ports_at tree k) wire
        → (j : ℕ) × (slice_get keys j ≡ Some k)
    placed_at k wire among = which (split tree d k (length tree.declarations))
      where
        which : (k < length tree.declarations) ⊎ (length tree.declarations ≤ k) → (j : ℕ) × (slice_get keys j ≡ Some k)
        which (inl h) = let same = length-map tree.declarations (targets_in tree) in
            let c = order.all k (omega arith) in (c.0, slice_get-from_Contains keys k c)
        which (inr h) = absurd (Contains-nil wire (subst (λ ws. Contains ws wire) (no_wires tree d k h) among))

    module _ (at : ℕ) (ports : List PortAt) (back : BackLed at ports) where
      -- a declaration that contains the one at a position of the order is after it
      led_around : (n k s port : ℕ) (wire : ConnectionPorts) (site : NumberedPort)
          → ((j : ℕ) → slice_get keys j ≡ Some k → length keys ≤ j + at) → IsInUse tree root k
          → Contains (connection_ports_at tree k) wire → inner_end d wire ≡ Some (Inner s port)
          → outer_end d wire ≡ Some site → below tree k s ≡ Some n → LeadsFrom tree root d k site
          → Contains ports (declaration_port n port)
      led_around n k s port wire site behind used among e o b l =
          let j = placed_at k wire among in
          back.complete j.0 k wire s port n site (behind j.0 j.1) j.1 used among e o b l

      found : {n port : ℕ} → ((j k s : ℕ) → slice_get keys j ≡ Some k → below tree k s ≡ Some n → length keys ≤ j + at)
          → LeadsOut tree root d n port
          → (n ≡ root) ⊎ Contains ports (declaration_port n port)
      found behind (of_root e) = inl e
      found behind (of_own k s q wire among inner outer b rest) = inr
          (led_around _ k s _ wire (Own q) (λ j is. behind j k s is b) (leads_in_use tree root d rest) among inner
          outer b rest)
      found behind (of_beside k s t q m wire used among inner outer b c r) = inr
          (led_around _ k s _ wire (Inner t q) (λ j is. behind j k s is b) used among inner outer b (m, c, r))

      -- the ports of the declaration at the next position are complete when all containing declarations are done
      pub has_next : (k n : ℕ) → k + at + 1 ≡ length keys → slice_get keys k ≡ Some n → HasLeading tree root d ports n
      has_next k n place is port l = found (λ j m s e b. later j m s e b) l
        where
          later : (j m s : ℕ) → slice_get keys j ≡ Some m → below tree m s ≡ Some n → length keys ≤ j + at
          later j m s e b =
              let i = order.sequence.behind j m s n e (below-same tree m s ∙ b) in
              let same = one_place keys i.0 k n order.sequence.distinct i.2 is in
              let lt = i.1 in
              omega arith

      pub back_more : (k n : ℕ) (new : List PortAt) → k + at + 1 ≡ length keys → slice_get keys k ≡ Some n
          → AreLed tree root d n ports new
          → BackLed (at + 1) new
      back_more k n new place is led = record {
        sound = led.sound back.sound;
        complete =
            λ j m wire s port t site past e used among i o b l.
            which j m wire s port t site e used among i o b l (split tree d k j) past;
      }
        where
          which : (j m : ℕ) (wire : ConnectionPorts) (s port t : ℕ) (site : NumberedPort) → slice_get keys j ≡ Some m
              → IsInUse tree root m → Contains (connection_ports_at tree m) wire
              → inner_end d wire ≡ Some (Inner s port) → outer_end d wire ≡ Some site
              → below tree m s ≡ Some t → LeadsFrom tree root d m site → (k < j) ⊎ (j ≤ k) → length keys ≤ j + (at + 1)
              → Contains new (declaration_port t port)
          which j m wire s port t site e used among i o b l (inl h) past = led.kept (declaration_port t port)
              (back.complete j m wire s port t site (omega arith) e used among i o b l)
          which j m wire s port t site e used among i o b l (inr h) past =
              let same : j ≡ k = omega arith in
              let here : m ≡ n = same_Some m n (sym e ∙ (ap (slice_get keys) same ∙ is)) in
              led.complete (has_next k n place is) wire s port t site
              (subst (λ x. Contains (connection_ports_at tree x) wire) here among) i o
              (subst (λ x. below tree x s ≡ Some t) here b) (subst (λ x. LeadsFrom tree root d x site) here l)

      -- a declaration that is not in use adds nothing
      pub back_unused : (k n : ℕ) → k + at + 1 ≡ length keys → slice_get keys k ≡ Some n → (IsInUse tree root n → ⊥)
          → BackLed (at + 1) ports
      back_unused k n place is unused = record {
        sound = back.sound;
        complete =
            λ j m wire s port t site past e used among i o b l.
            which j m wire s port t site e used among i o b l (split tree d k j) past;
      }
        where
          which : (j m : ℕ) (wire : ConnectionPorts) (s port t : ℕ) (site : NumberedPort) → slice_get keys j ≡ Some m
              → IsInUse tree root m → Contains (connection_ports_at tree m) wire
              → inner_end d wire ≡ Some (Inner s port) → outer_end d wire ≡ Some site
              → below tree m s ≡ Some t → LeadsFrom tree root d m site → (k < j) ⊎ (j ≤ k) → length keys ≤ j + (at + 1)
              → Contains ports (declaration_port t port)
          which j m wire s port t site e used among i o b l (inl h) past =
              back.complete j m wire s port t site (omega arith) e used among i o b l
          which j m wire s port t site e used among i o b l (inr h) past =
              let same : j ≡ k = omega arith in
              absurd (unused (subst (IsInUse tree root) (same_Some m n (sym e ∙ (ap (slice_get keys) same ∙ is))) used))

      pub back_next : (k n : ℕ) (new : List PortAt) → k + at + 1 ≡ length keys → slice_get keys k ≡ Some n
          → AreLedIfUsed tree root d n ports new
          → BackLed (at + 1) new
      back_next k n new place is (inl led) = back_more k n new place is led.1
      back_next k n new place is (inr same) = subst (BackLed (at + 1)) (sym same.1) (back_unused k n place is same.0)

      pub back_none : (k : ℕ) (new : List PortAt) → k + at + 1 ≡ length keys → slice_get keys k ≡ None
          → BackLed (at + 1) new
      back_none k new place none = let e = slice_get-get_or keys k 0 (omega arith) in
          absurd (none-some _ (sym none ∙ e))

      pub back_all : length keys ≤ at → IsOutside tree root d ports
      back_all past = record { sound = back.sound; complete = λ n port l. found (λ j k s e b. omega arith) l }
