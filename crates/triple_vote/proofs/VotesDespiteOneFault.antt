-- With at most one of three at fault, the vote is the message that the others send.
use Rattle.std.proofs.Common.{◌≡◌, ◌∙◌, ℕ, suc, nat_eq, ◌&&◌, true, List, length, Option, Some, None, slice_get, find}
use Rattle.std.proofs.Common.{refl, sym, ap, arith}
use Rattle.std.proofs.lemmas.Bool.{eqb-true, and_parts}
use Rattle.std.proofs.lemmas.List.Elements.{All-contains}
use Rattle.pals_base.specs.declared.basic_types.PortValue.{PortValue}
use Rattle.pals_model.specs.declared.design.Link.{Link}
use Rattle.pals_model.specs.declared.design.DesignParts.{DesignParts}
use Rattle.pals_model.specs.PortKindsAndRates.{rate_of}
use Rattle.pals_runs.specs.declared.replica_faults.VoteFault.{VoteFault}
use Rattle.triple_vote.specs.Votes.{votes}
use Rattle.triple_vote.specs.VotedComposition.{source_in, is_fault, fault_or, vote_of}
use Rattle.triple_vote.specs.OutvotedFaults.{AreOutvoted}
use Rattle.triple_vote.specs.proof.VoteLaws.{IsFault, AreFaults, OneNamedIsOutvoted}
use Rattle.triple_vote.proofs.TupleVotes.{votes-first_two, votes-outer_two, votes-last_two}
use Rattle.triple_vote.proofs.ListTablesAndSearches.{found}

-- ---- one of three
abbrev Apart : Option VoteFault → Option VoteFault → Type 0
Apart a b = (f g : VoteFault) → a ≡ Some f → b ≡ Some g → ⊥

abbrev Fits : List PortValue → Option VoteFault → Type 0
Fits m o = (f : VoteFault) → o ≡ Some f → length f.values ≡ length m

one_of_three : (m : List PortValue) (a b c : Option VoteFault) → Fits m a → Fits m b → Fits m c → Apart a b
    → Apart a c → Apart b c
    → votes (fault_or a m) (fault_or b m) (fault_or c m) ≡ m
one_of_three m None None None fa fb fc ab ac bc = votes-first_two m m refl
one_of_three m (Some f) None None fa fb fc ab ac bc = votes-last_two m f.values (fa f refl)
one_of_three m None (Some g) None fa fb fc ab ac bc = votes-outer_two m g.values (fb g refl)
one_of_three m None None (Some h) fa fb fc ab ac bc = votes-first_two m h.values (fc h refl)
one_of_three m (Some f) (Some g) c fa fb fc ab ac bc = absurd (ab f g refl refl)
one_of_three m (Some f) None (Some h) fa fb fc ab ac bc = absurd (ac f h refl refl)
one_of_three m None (Some g) (Some h) fa fb fc ab ac bc = absurd (bc g h refl refl)

-- ---- the fault that is found
abbrev IsAt : ℕ → ℕ → ℕ → VoteFault → Type 0
IsAt l replica target f = (f.link.0 ≡ l) × (f.replica ≡ suc replica) × (f.target_replica ≡ suc target)

fault_is : (l replica target : ℕ) (f : VoteFault) → is_fault l (suc replica) (suc target) f ≡ true
    → IsAt l replica target f
fault_is l replica target f is =
    let first =
    and_parts (nat_eq f.link.0 l) (nat_eq f.replica (suc replica) && nat_eq f.target_replica (suc target)) is in
    let rest = and_parts (nat_eq f.replica (suc replica)) (nat_eq f.target_replica (suc target)) first.1 in (
      eqb-true f.link.0 l first.0,
      eqb-true f.replica (suc replica) rest.0,
      eqb-true f.target_replica (suc target) rest.1,
    )

-- the link of a fault goes from its source
goes_from : (design : DesignParts) (f : VoteFault) (l : ℕ) (link : Link) → IsFault design f → f.link.0 ≡ l
    → slice_get design.links l ≡ Some link
    → link.source.0 ≡ f.source.0
goes_from design f l link fault at is = sym (ap source_in (ap (slice_get design.links) at ∙ is)) ∙ fault.source

module _ (design : DesignParts) (faults : ℕ → List VoteFault) (are : AreFaults design faults)
    (outvoted : AreOutvoted faults) where
  abbrev found_on : ℕ → ℕ → ℕ → ℕ → Option VoteFault
  found_on round l target replica = find (is_fault l (suc replica) (suc target)) (faults round)

  fits : (round l target replica : ℕ) (link : Link) (m : List PortValue) → slice_get design.links l ≡ Some link
      → length m ≡ rate_of design link.source.0
      → Fits m (found_on round l target replica)
  fits round l target replica link m is size f is_f =
      let at = found (is_fault l (suc replica) (suc target)) (faults round) f is_f in
      let fault : IsFault design f = All-contains (IsFault design) (faults round) f (are round) at.0 in
      let place = fault_is l replica target f at.1 in
      fault.values ∙ ap (rate_of design) (sym (goes_from design f l link fault place.0 is)) ∙ sym size

  apart : (round l target one other : ℕ) → (one ≡ other → ⊥)
      → Apart (found_on round l target one) (found_on round l target other)
  apart round l target one other differ f g is_f is_g =
      let a = found (is_fault l (suc one) (suc target)) (faults round) f is_f in
      let b = found (is_fault l (suc other) (suc target)) (faults round) g is_g in
      let first = fault_is l one target f a.1 in
      let second = fault_is l other target g b.1 in
      let same : f.replica ≡ g.replica = outvoted round f g a.0 b.0 (first.0 ∙ sym second.0) (first.2 ∙ sym second.2) in
      differ (omega (arith, same, first.1, second.1))

  pub vote_is : (round l target : ℕ) (link : Link) (m : List PortValue) → slice_get design.links l ≡ Some link
      → length m ≡ rate_of design link.source.0
      → vote_of (λ replica. fault_or (find (is_fault l (suc replica) (suc target)) (faults round)) m) ≡ m
  vote_is round l target link m is size =
      one_of_three m (found_on round l target 0) (found_on round l target 1) (found_on round l target 2)
      (fits round l target 0 link m is size) (fits round l target 1 link m is size)
      (fits round l target 2 link m is size)
      (apart round l target 0 1 (λ e. absurd (cc))) (apart round l target 0 2 (λ e. absurd (cc)))
      (apart round l target 1 2 (λ e. absurd (cc)))

-- ---- if at most one replica of each component is named, no two are at fault towards one reader
pub one_named_is_outvoted : OneNamedIsOutvoted
one_named_is_outvoted design faults are named round f g in_f in_g link target =
    let one : IsFault design f = All-contains (IsFault design) (faults round) f (are round) in_f in
    let other : IsFault design g = All-contains (IsFault design) (faults round) g (are round) in_g in
    named round round f g in_f in_g
    (sym one.source ∙ ap (λ l. source_in (slice_get design.links l)) link ∙ other.source)
