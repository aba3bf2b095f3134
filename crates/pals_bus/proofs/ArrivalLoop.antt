-- For the loop of `arrive_all`: the bus when the first due messages have arrived and the others remain, and one more
-- arrival.
use Rattle.std.proofs.Common.{◌≡◌, ◌∙◌, ℕ, ◌+◌, ◌-◌, ◌<◌, ◌≤◌, Bool, true, false, List, ◌∷◌, length, drop, Option, Some}
use Rattle.std.proofs.Common.{None, is_some, refl, sym, ap, subst, arith, length-append}
use Rattle.std.specs.Prelude.{sum_by, slice_index_or, count_by, vec_capacity, IfSome, IfNone, nat_eq}
use Rattle.std.specs.Arc.{arc_value}
use Rattle.std.proofs.lemmas.Bool.{false≢true}
use Rattle.std.proofs.lemmas.List.{length-map}
use Rattle.list_lemmas.proofs.ListOperations.{drop-next}
use Rattle.pals_runs.specs.declared.journal.Arrived.{Arrived}
use Rattle.pals_runs.specs.declared.journal.Stop.{Stop}
use Rattle.link_buffers.specs.declared.due_queue.DueEntry.{DueEntry}
use Rattle.link_buffers.specs.proof.Flights.{FlightState}
use Rattle.bus_machine.specs.LinkEvents.{is_in_flight}
use Rattle.bus_machine.specs.BusStates.{BusState, flight_at}
use Rattle.bus_machine.specs.Plans.{link_at}
use Rattle.bus_machine.specs.Machine.{Arrive, arrival, early_stop}
use Rattle.bus_machine.specs.Replay.{entries, stop_entry}
use Rattle.pals_bus.specs.declared.bus_fields.BusFields.{BusFields}
use Rattle.pals_bus.specs.BusValues.{BusValue, Happens}
use Rattle.pals_bus.specs.proof.BusInvariant.{IsBusInvariant, owed, run_of, state_of, value_of}
use Rattle.pals_bus.specs.proof.DueQueues.{is_copy_of}
use Rattle.pals_bus.specs.proof.DueMessages.{TakesDue, takes_next, AreLeft}
use Rattle.pals_bus.proofs.EqualDueReadings.{SameDue, same_dues}
use Rattle.pals_bus.proofs.DueEntriesAndCopies.{if_some, copy_there, link_there}
use Rattle.pals_bus.proofs.FirstDueArrival.{first_flies, first_in_flight, is_next, left_after}

-- the first messages have arrived, and the others remain
pub record Arriving (first now : BusFields) (node reading at : ℕ) (due : List DueEntry) : Type 0 where
  pub keeps : IsBusInvariant now
  pub going : now.stop ≡ None
  pub takes : TakesDue node reading (value_of first) (value_of now)
  pub left : AreLeft (value_of now) node reading (drop at due)
  pub room : length now.journal.items + sum_by owed now.nodes + (length due - at) + 4 ≤ vec_capacity now.journal

pub flights_many : (f : BusFields) → IsBusInvariant f → length (state_of f).flights ≡ length (arc_value f.design).links
flights_many f keeps = length-map f.flights (λ (k : FlightState). k.copies) ∙ keeps.flight_count

first_link : (b : BusValue) (node reading : ℕ) (x : DueEntry) (rest : List DueEntry)
    → length b.state.flights ≡ length b.run.design.links → AreLeft b node reading (x ∷ rest)
    → x.link.0 < length b.run.design.links
first_link b node reading x rest many left =
    let parts =
    if_some (nat_eq (link_at b.run.design x.link.0).target.0 node)
    (count_by (is_copy_of x) (flight_at b.state x.link.0)) (first_flies b node reading x rest left).1 in
    let found = copy_there (flight_at b.state x.link.0) x parts.1 in
    link_there b x.link.0 found.0 found.1 many found.2

left_now : (first now : BusFields) (node reading at : ℕ) (due : List DueEntry) (message : DueEntry)
    → Arriving first now node reading at due → at < length due → message ≡ slice_index_or due at message
    → AreLeft (value_of now) node reading (message ∷ drop (at + 1) due)
left_now first now node reading at due message so_far within is =
    subst (AreLeft (value_of now) node reading) (drop-next due at message within is) so_far.left

-- the next message is in flight on a link of the design
pub message_link : (first now : BusFields) (node reading at : ℕ) (due : List DueEntry) (message : DueEntry)
    → Arriving first now node reading at due → at < length due → message ≡ slice_index_or due at message
    → message.link.0 < length (arc_value now.design).links
message_link first now node reading at due message so_far within is =
    first_link (value_of now) node reading message (drop (at + 1) due) (flights_many now so_far.keeps)
    (left_now first now node reading at due message so_far within is)

pub message_flies : (first now : BusFields) (node reading at : ℕ) (due : List DueEntry) (message : DueEntry)
    → Arriving first now node reading at due → at < length due → message ≡ slice_index_or due at message
    → is_in_flight message.round (flight_at (state_of now) message.link.0) ≡ true
message_flies first now node reading at due message so_far within is =
    first_in_flight (value_of now) node reading message (drop (at + 1) due)
    (left_now first now node reading at due message so_far within is)

-- so its arrival happens
pub arrives : (now next : BusFields) (message : DueEntry) (reading : ℕ) (result : Option Arrived)
    → is_in_flight message.round (flight_at (state_of now) message.link.0) ≡ true
    → IfSome result (λ arrived.
    Happens (value_of now) (Arrive message.link message.round (Some reading)) (value_of next)
    × (arrived ≡ arrival (run_of now) (state_of now) message.link message.round))
    → IfNone result ((value_of next ≡ value_of now)
    × (is_in_flight message.round (flight_at (state_of now) message.link.0) ≡ false))
    → Happens (value_of now) (Arrive message.link message.round (Some reading)) (value_of next)
arrives now next message reading None flies some none = absurd (false≢true (sym none.1 ∙ flies))
arrives now next message reading (Some arrived) flies some none = some.0

-- it is the next one
pub takes_more : (first now next : BusFields) (node reading at : ℕ) (due : List DueEntry) (message : DueEntry)
    → Arriving first now node reading at due → at < length due → message ≡ slice_index_or due at message
    → Happens (value_of now) (Arrive message.link message.round (Some reading)) (value_of next)
    → TakesDue node reading (value_of first) (value_of next)
takes_more first now next node reading at due message so_far within is happens =
    takes_next message.link message.round so_far.takes
    (is_next (value_of now) node reading message (drop (at + 1) due) (flights_many now so_far.keeps)
    (left_now first now node reading at due message so_far within is)) happens

-- no entry is a stop
pub none_told : (o : Option Stop) (b : Bool) → b ≡ is_some o → b ≡ false → o ≡ None
none_told None b is told = refl
none_told (Some why) b is told = absurd (false≢true (sym told ∙ is))

one_entry : (o : Option Stop) → o ≡ None → length (stop_entry o) ≡ 0
one_entry None is = refl
one_entry (Some why) is = absurd (cc)

longer_by_one : (b c : BusValue) (message : DueEntry) (reading : ℕ)
    → Happens b (Arrive message.link message.round (Some reading)) c → c.state.stop ≡ None
    → length c.journal ≡ length b.journal + 1
longer_by_one b c message reading happens going =
    let why = early_stop message.link message.round (Some reading) (arrival b.run b.state message.link message.round) in
    let none : why ≡ None = sym (ap (λ (s : BusState). s.stop) happens.step.state) ∙ going in
    let all =
    ap length happens.journal
    ∙ length-append b.journal (entries b.run b.state (Arrive message.link message.round (Some reading))) in
    let stop = one_entry why none in
    omega (arith, all, stop)

pub arriving_more : (first now next : BusFields) (node reading at : ℕ) (due : List DueEntry) (message : DueEntry)
    → Arriving first now node reading at due → at < length due → message ≡ slice_index_or due at message
    → Happens (value_of now) (Arrive message.link message.round (Some reading)) (value_of next) → IsBusInvariant next
    → next.stop ≡ None → sum_by owed next.nodes ≡ sum_by owed now.nodes
    → vec_capacity next.journal ≡ vec_capacity now.journal
    → Arriving first next node reading (at + 1) due
arriving_more first now next node reading at due message so_far within is happens keeps going owes capacity =
    let left = left_now first now node reading at due message so_far within is in
    let many = flights_many now so_far.keeps in
    let link = first_link (value_of now) node reading message (drop (at + 1) due) many left in
    let same : SameDue (flight_at (state_of now) message.link.0) =
    same_dues (run_of now) now.journal.items (state_of now)
    (record { design = so_far.keeps.design; rounds = so_far.keeps.rounds.0 }) so_far.keeps.replays message.link.0 in
    let size : length next.journal.items ≡ length now.journal.items + 1 =
    longer_by_one (value_of now) (value_of next) message reading happens going in
    let room = so_far.room in
    record {
      keeps = keeps;
      going = going;
      takes = takes_more first now next node reading at due message so_far within is happens;
      left =
          left_after (value_of now) (value_of next) node reading message (drop (at + 1) due) same
          (omega (arith, many, link)) left happens;
      room = omega (arith, size, owes, capacity, room, within);
    }
