-- In a world each message that was sent is in one place: in flight, in its slot, or taken. The claim
-- MessagesStandOnce.
use Rattle.std.proofs.Common.{◌≡◌, ◌⊎◌, inl, inr, ℕ, ◌+◌, ◌<◌, ◌≤◌, nat_eq, false, List, Option, sym, ◌∙◌, arith}
use Rattle.std.specs.Prelude.{nat_lt, is_some}
use Rattle.std.proofs.lemmas.Bool.{and_parts, cases_Bool, cases_lt, eqb-true, lt-ltb, le-ltb, ltb-true, false≢true}
use Rattle.pals_base.specs.declared.basic_types.PortValue.{PortValue}
use Rattle.pals_model.specs.declared.flight_copy.FlightCopy.{FlightCopy}
use Rattle.bus_machine.specs.NodeEvents.{slot_at}
use Rattle.bus_machine.specs.BusStates.{node_at, flight_at}
use Rattle.bus_machine.specs.Plans.{link_at}
use Rattle.bus_machine.specs.MissedMessages.{rounds_sent_on}
use Rattle.run_laws.specs.proof.WorldInvariant.{IsOnce, copies, waits, taken, one_if, Flies, IsInSlot, IsTaken}
use Rattle.run_laws.specs.proof.WorldInvariant.{IsNowhere}
use Rattle.run_laws.specs.proof.WorldLaws.{MessagesStandOnce}
use Rattle.run_laws.proofs.WorldLinkTiming.{one_of_true, one_of_false}

pub not_past : (count round : ℕ) → taken count round ≡ false → count ≤ round + 1
not_past count round is =
    elim (cases_lt (round + 1) count)
    [ inl past ↦ absurd (false≢true (sym is ∙ lt-ltb (round + 1) count past)) | inr few ↦ few ]

module _ (count : ℕ) (slot : Option (List PortValue)) (sent : ℕ) (flight : List FlightCopy) (round : ℕ)
    (once : IsOnce count slot sent flight round) where
  whole : copies round flight + one_if (waits count slot round) + one_if (taken count round)
      ≡ one_if (nat_lt round sent)
  whole = once

  place : round < sent → Flies count slot flight round ⊎ (IsInSlot count slot flight round ⊎ IsTaken count flight round)
  place is_sent =
      let all = whole in
      let one : one_if (nat_lt round sent) ≡ 1 = one_of_true (nat_lt round sent) (lt-ltb round sent is_sent) in
      elim (cases_Bool (taken count round)) [
        | inl gone ↦ let is : one_if (taken count round) ≡ 1 = one_of_true (taken count round) gone in
            inr (inr (record { no_copy = omega arith; past = ltb-true (round + 1) count gone }))
        | inr still ↦
            let is : one_if (taken count round) ≡ 0 = one_of_false (taken count round) still in
            elim (cases_Bool (waits count slot round)) [
              | inl here ↦
                  let held : one_if (waits count slot round) ≡ 1 = one_of_true (waits count slot round) here in
                  let parts = and_parts (nat_eq count (round + 1)) (is_some slot) here in
                  inr (inl (record {
                    no_copy = omega arith;
                    in_slot = parts.1;
                    last = eqb-true count (round + 1) parts.0;
                  }))
              | inr apart ↦
                  let held : one_if (waits count slot round) ≡ 0 = one_of_false (waits count slot round) apart in
                  inl (record { one_copy = omega arith; not_in_slot = apart; before = not_past count round still })
            ]
      ]

  no_place : sent ≤ round → IsNowhere count slot flight round
  no_place unsent =
      let all = whole in
      let none : one_if (nat_lt round sent) ≡ 0 = one_of_false (nat_lt round sent) (le-ltb round sent unsent) in
      elim (cases_Bool (taken count round)) [
        | inl gone ↦ let is : one_if (taken count round) ≡ 1 = one_of_true (taken count round) gone in
            absurd (omega arith)
        | inr still ↦ elim (cases_Bool (waits count slot round)) [
          | inl here ↦ let held : one_if (waits count slot round) ≡ 1 = one_of_true (waits count slot round) here in
              absurd (omega arith)
          | inr apart ↦ record { no_copy = omega arith; not_in_slot = apart; before = not_past count round still }
        ]
      ]

pub messages_stand_once : MessagesStandOnce
messages_stand_once run w number round keeps within =
    let n = node_at w.bus (link_at run.design number).target.0 in
    let slot = slot_at n (link_at run.design number).in_port in
    let once = (keeps.links number within).once round in
    record {
      sent = place n.count slot (rounds_sent_on run w.bus number) (flight_at w.bus number) round once;
      unsent = no_place n.count slot (rounds_sent_on run w.bus number) (flight_at w.bus number) round once;
    }
