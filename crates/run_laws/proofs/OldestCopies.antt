-- Of each round one copy at most is in flight on a link, so a copy that is due is the oldest of its round.
use Rattle.std.proofs.Common.{◌≡◌, ℕ, zero, suc, ◌+◌, ◌<◌, ◌≤◌, Bool, true, false, cond, List, [], ◌∷◌, length}
use Rattle.std.proofs.Common.{slice_get, Option, Some, refl, ap, ◌∙◌, subst, arith}
use Rattle.std.proofs.lemmas.Grind.{common_steps}
use Rattle.pals_base.specs.declared.basic_types.PortValue.{PortValue}
use Rattle.pals_model.specs.declared.flight_copy.FlightCopy.{FlightCopy}
use Rattle.pals_model.specs.Flights.{is_of, oldest}
use Rattle.pals_model.proofs.FirstMatches.{at_element}
use Rattle.run_laws.specs.proof.LinkTiming.{LinkView, one_if, copies, Whereabouts, in_flight, in_slot, was_taken}
use Rattle.run_laws.specs.proof.LinkTiming.{came_early, IsDueCopy, IsTimed}

pub some_copy : (flight : List FlightCopy) (place round : ℕ) (copy : FlightCopy) → slice_get flight place ≡ Some copy
    → is_of round copy ≡ true → 1 ≤ copies round flight
some_copy [] place round copy is of = absurd (cc)
some_copy (c ∷ cs) zero round copy is of =
    let same : c ≡ copy = cc in
    let one : one_if (is_of round c) ≡ 1 = ap (λ k. one_if (is_of round k)) same ∙ ap one_if of in
    omega arith
some_copy (c ∷ cs) (suc place) round copy is of = let rest = some_copy cs place round copy is of in omega arith

pub only_by : (c : FlightCopy) (cs : List FlightCopy) (place round : ℕ) (copy : FlightCopy) (b : Bool)
    → is_of round c ≡ b
    → slice_get cs place ≡ Some copy → is_of round copy ≡ true → one_if (is_of round c) + copies round cs ≤ 1
    → (copies round cs ≤ 1 → oldest round cs ≡ Some copy)
    → cond b (Some c) (oldest round cs) ≡ Some copy
only_by c cs place round copy true is at of most rest =
    let one : one_if (is_of round c) ≡ 1 = ap one_if is in
    let other = some_copy cs place round copy at of in
    absurd (omega arith)
only_by c cs place round copy false is at of most rest = rest (omega arith)

pub only_copy : (flight : List FlightCopy) (place round : ℕ) (copy : FlightCopy) → slice_get flight place ≡ Some copy
    → is_of round copy ≡ true → copies round flight ≤ 1 → oldest round flight ≡ Some copy
only_copy [] place round copy is of most = absurd (cc)
only_copy (c ∷ cs) zero round copy is of most =
    let same : c ≡ copy = cc in
    ap (λ b. cond b (Some c) (oldest round cs)) (ap (is_of round) same ∙ of) ∙ ap Some same
only_copy (c ∷ cs) (suc place) round copy is of most =
    only_by c cs place round copy (is_of round c) refl is of most (only_copy cs place round copy is of)

pub one_at_most : (round count flying : ℕ) (slot : Option (List PortValue)) (taken : Option ℕ)
    → Whereabouts round count slot flying taken → flying ≤ 1
one_at_most round count flying slot taken (in_flight one most free) = omega arith
one_at_most round count flying slot taken (in_slot none here full) = omega arith
one_at_most round count flying slot taken (was_taken none past) = omega arith
one_at_most round count flying slot taken (came_early none early) = omega arith

pub due_is_oldest : (delay : ℕ → ℕ) (v : LinkView) (place round : ℕ) (copy : FlightCopy) → IsTimed delay v
    → slice_get v.flight place ≡ Some copy → copy.round ≡ round → oldest round v.flight ≡ Some copy
due_is_oldest delay v place round copy timed is of =
    let test : is_of round copy ≡ true = grind (arith, common_steps) in
    let sent : round < length v.sends =
    subst (λ r. r < length v.sends) of
    (at_element (IsDueCopy delay v.sends) v.flight place copy timed.flights is).sent in
    only_copy v.flight place round copy is test
    (one_at_most round v.count (copies round v.flight) v.slot v.taken (timed.places round sent))
