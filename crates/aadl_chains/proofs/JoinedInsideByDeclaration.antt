-- Ports that lead to threads below, found declaration by declaration, the contained ones first.
use Rattle.std.proofs.Common.{◌≡◌, ◌⊎◌, inl, inr, ℕ, zero, suc, ◌+◌, ◌<◌, ◌≤◌, List, [], length, slice_get, Contains}
use Rattle.std.proofs.Common.{Some, None, refl, sym, ap, subst, ◌∙◌, arith}
use Rattle.std.proofs.lemmas.List.{length-map}
use Rattle.std.proofs.lemmas.Option.{same_Some, none-some, slice_get_past}
use Rattle.list_lemmas.proofs.Elements.{Contains-nil}
use Rattle.list_lemmas.proofs.ElementPositions.{slice_get-from_Contains}
use Rattle.aadl_tree.specs.declared.declarations.Direction.{Direction}
use Rattle.aadl_tree.specs.Declarations.{PackageTree}
use Rattle.aadl_names.specs.NameResolution.{implementation_in}
use Rattle.aadl_uses.specs.proof.PackageContainment.{containment, targets_in}
use Rattle.aadl_uses.proofs.PackageContainment.{below-same}
use Rattle.aadl_uses.specs.PortsOfConnections.{connection_ports_at, wires_of}
use Rattle.aadl_uses.specs.proof.ContainmentOrders.{IsOrder}
use Rattle.aadl_chains.specs.declared.port_set.PortAt.{PortAt}
use Rattle.aadl_chains.specs.proof.PortsJoinedInside.{declaration_port, AreReaching, HasAll, HasAllBelow, AreJoined}
use Rattle.aadl_chains.specs.proof.PortsJoinedInside.{IsInside}
use Rattle.aadl_chains.proofs.JoinedInsideByConnection.{through}

pub one_of_two : (k i : ℕ) → k < i + 1 → (k < i) ⊎ (k ≡ i)
one_of_two zero zero lt = inr refl
one_of_two zero (suc i) lt = inl (omega arith)
one_of_two (suc k) zero lt = absurd (omega arith)
one_of_two (suc k) (suc i) lt = next (one_of_two k i (omega arith))
  where
    next : (k < i) ⊎ (k ≡ i) → (suc k < suc i) ⊎ (suc k ≡ suc i)
    next (inl h) = inl (omega arith)
    next (inr h) = inr (ap suc h)

module _ (tree : PackageTree ℕ) (d : Direction) where
  -- the ports of the first `at` declarations of an order
  pub record FrontInside (keys : List ℕ) (at : ℕ) (ports : List PortAt) : Type 0 where
    pub sound : AreReaching tree d ports
    pub complete : (k n : ℕ) → k < at → slice_get keys k ≡ Some n → HasAll tree d ports n

  pub no_front : (keys : List ℕ) → FrontInside keys 0 []
  no_front keys =
      record {
        sound = λ n port h. absurd (Contains-nil (declaration_port n port) h);
        complete = λ k n lt e. absurd (omega arith);
      }

  pub front_more : (keys : List ℕ) (at n : ℕ) (old new : List PortAt) → IsOrder (containment tree) keys
      → slice_get keys at ≡ Some n
      → AreJoined tree d n old new → FrontInside keys at old → FrontInside keys (at + 1) new
  front_more keys at n old new order is joined front = record {
    sound = joined.sound front.sound;
    complete = λ k m lt e. which k m e (one_of_two k at lt);
  }
    where
      ready : HasAllBelow tree d old n
      ready s m b =
          let j = order.sequence.behind at n s m is (below-same tree n s ∙ b) in
          front.complete j.0 m j.1 j.2

      which : (k m : ℕ) → slice_get keys k ≡ Some m → (k < at) ⊎ (k ≡ at) → HasAll tree d new m
      which k m e (inl h) = λ port thread r. joined.kept (declaration_port m port)
          (front.complete k m h e port thread r)
      which k m e (inr h) =
          subst (HasAll tree d new) (same_Some n m (sym is ∙ (ap (slice_get keys) (sym h) ∙ e))) (joined.complete ready)

  pub front_past : (keys : List ℕ) (at : ℕ) (ports : List PortAt) → slice_get keys at ≡ None → FrontInside keys at ports
      → FrontInside keys (at + 1) ports
  front_past keys at ports is front = record {
    sound = front.sound;
    complete = λ k m lt e. which k m e (one_of_two k at lt);
  }
    where
      which : (k m : ℕ) → slice_get keys k ≡ Some m → (k < at) ⊎ (k ≡ at) → HasAll tree d ports m
      which k m e (inl h) = front.complete k m h e
      which k m e (inr h) = absurd (none-some m (sym is ∙ (ap (slice_get keys) (sym h) ∙ e)))

  -- after the last declaration nothing is connected
  pub no_wires : (n : ℕ) → length tree.declarations ≤ n → connection_ports_at tree n ≡ []
  no_wires n past = ap (λ o. wires_of tree (implementation_in o)) (slice_get_past tree.declarations n past)

  none_past : (ports : List PortAt) (n : ℕ) → length tree.declarations ≤ n → HasAll tree d ports n
  none_past ports n past = λ port thread r.
      let t = through tree d r thread in
      absurd (Contains-nil t.wire (subst (λ ws. Contains ws t.wire) (no_wires n past) t.among))

  pub split : (n m : ℕ) → (n < m) ⊎ (m ≤ n)
  split zero zero = inr (omega arith)
  split zero (suc m) = inl (omega arith)
  split (suc n) zero = inr (omega arith)
  split (suc n) (suc m) = next (split n m)
    where
      next : (n < m) ⊎ (m ≤ n) → (suc n < suc m) ⊎ (suc m ≤ suc n)
      next (inl h) = inl (omega arith)
      next (inr h) = inr (omega arith)

  pub front_all : (keys : List ℕ) (at : ℕ) (ports : List PortAt) → IsOrder (containment tree) keys → length keys ≤ at
      → FrontInside keys at ports
      → IsInside tree d ports
  front_all keys at ports order past front = record {
    sound = front.sound;
    complete = λ n. which n (split n (length tree.declarations));
  }
    where
      which : (n : ℕ) → (n < length tree.declarations) ⊎ (length tree.declarations ≤ n) → HasAll tree d ports n
      which n (inl h) =
          let same = length-map tree.declarations (targets_in tree) in
          let c = order.all n (omega arith) in
          let lt = c.1 in
          front.complete c.0 n (omega arith) (slice_get-from_Contains keys n c)
      which n (inr h) = none_past ports n h
