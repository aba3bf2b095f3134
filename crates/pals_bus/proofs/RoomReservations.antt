-- For `reserve_message` and `reserve_round`: more room in a flight or a queue leaves what contracts see as it was.
use Rattle.std.proofs.Common.{◌≡◌, ◌∙◌, ℕ, ◌<◌, ◌≤◌, List, length, refl, sym, ap, arith}
use Rattle.std.specs.Prelude.{slice_set, slice_index_or}
use Rattle.std.specs.Arc.{arc_value}
use Rattle.std.proofs.Math.Seq.{map-set_same}
use Rattle.std.proofs.lemmas.List.{length-map, get_or_default}
use Rattle.pals_base.specs.declared.basic_types.LinkNo.{LinkNo}
use Rattle.pals_model.specs.declared.design.Link.{Link}
use Rattle.link_buffers.specs.proof.Flights.{FlightState}
use Rattle.link_buffers.specs.proof.DueQueues.{QueueState}
use Rattle.bus_machine.specs.Plans.{no_link}
use Rattle.pals_bus.specs.declared.bus_fields.BusFields.{BusFields}
use Rattle.pals_bus.specs.proof.BusInvariant.{IsBusInvariant, copies_in}
use Rattle.pals_bus.specs.proof.RoundMessages.{NoLessRoom}
use Rattle.pals_bus.specs.proof.DueQueues.{NoLessQueueRoom, entries_in}
use Rattle.pals_bus.proofs.QueueChanges.{queue_more, queues_copies, queues_more}
use Rattle.pals_bus.specs.proof.OutOfRangeDefaults.{no_flight, no_queue}
use Rattle.pals_bus.proofs.FlightRooms.{no_less-set}
use Rattle.pals_bus.proofs.EventInvariants.{keeps_room}
use Rattle.pals_bus.proofs.OldestCopyRemoval.{target_within}

pub more_room : (f : BusFields) (flights : List FlightState) (queues : List QueueState) → IsBusInvariant f
    → copies_in flights ≡ copies_in f.flights → NoLessRoom f.flights flights → entries_in queues ≡ entries_in f.queues
    → NoLessQueueRoom f.queues queues
    → IsBusInvariant (record f { flights = flights; queues = queues })
more_room f flights queues keeps copies less entries more =
    let count : length flights ≡ length f.flights = sym (length-map flights (λ (k : FlightState). k.copies))
    ∙ ap length copies ∙ length-map f.flights (λ (k : FlightState). k.copies) in
    let links = (arc_value f.design).links in
    let g : BusFields = record f { flights = flights; queues = queues } in
    keeps_room f g keeps refl refl count copies less
    (queues_more links f.nodes flights f.queues queues
    (queues_copies links f.nodes f.flights flights f.queues keeps.queues copies) entries more) refl
    (omega arith)

-- ---- one flight, or one queue
pub flight_copies : (flights : List FlightState) (at : ℕ) (n flight : FlightState) → at < length flights
    → n ≡ slice_index_or flights at n → flight.copies ≡ n.copies
    → copies_in (slice_set flights at flight) ≡ copies_in flights
flight_copies flights at n flight within is same =
    map-set_same (λ (k : FlightState). k.copies) flights at flight no_flight
    (same ∙ ap (λ (k : FlightState). k.copies) (is ∙ get_or_default flights at n no_flight within))

pub flight_less : (flights : List FlightState) (at : ℕ) (n flight : FlightState) → at < length flights
    → n ≡ slice_index_or flights at n → n.spare ≤ flight.spare → NoLessRoom flights (slice_set flights at flight)
flight_less flights at n flight within is more =
    let spare : n.spare ≡ (slice_index_or flights at no_flight).spare =
    ap (λ (k : FlightState). k.spare) (is ∙ get_or_default flights at n no_flight within) in
    no_less-set flights at flight within (omega (arith, spare, more))

pub queue_entries : (queues : List QueueState) (at : ℕ) (n queue : QueueState) → at < length queues
    → n ≡ slice_index_or queues at n → queue.entries ≡ n.entries
    → entries_in (slice_set queues at queue) ≡ entries_in queues
queue_entries queues at n queue within is same =
    map-set_same (λ (k : QueueState). k.entries) queues at queue no_queue
    (same ∙ ap (λ (k : QueueState). k.entries) (is ∙ get_or_default queues at n no_queue within))

pub queue_less : (queues : List QueueState) (at : ℕ) (n queue : QueueState) → at < length queues
    → n ≡ slice_index_or queues at n → n.spare ≤ queue.spare → NoLessQueueRoom queues (slice_set queues at queue)
queue_less queues at n queue within is more k =
    let spare : n.spare ≡ (slice_index_or queues at no_queue).spare =
    ap (λ (q : QueueState). q.spare) (is ∙ get_or_default queues at n no_queue within) in
    queue_more queues at k queue within (omega (arith, spare, more))

-- room on one link, and in the queue of its target
pub message_room : (f : BusFields) (ls : List Link) (link : LinkNo) (n flight : FlightState) (q queue : QueueState)
    → IsBusInvariant f → ls ≡ (arc_value f.design).links → link.0 < length (arc_value f.design).links
    → n ≡ slice_index_or f.flights link.0 n → flight.copies ≡ n.copies → n.spare ≤ flight.spare
    → q ≡ slice_index_or f.queues (slice_index_or ls link.0 no_link).target.0 q → queue.entries ≡ q.entries
    → q.spare ≤ queue.spare
    → IsBusInvariant (record f {
      flights = slice_set f.flights link.0 flight;
      queues = slice_set f.queues (slice_index_or ls link.0 no_link).target.0 queue;
    })
message_room f ls link n flight q queue keeps is within n_is copies more q_is entries wider =
    let t = (slice_index_or ls link.0 no_link).target.0 in
    let same : t ≡ (slice_index_or (arc_value f.design).links link.0 no_link).target.0 =
    ap (λ (k : List Link). (slice_index_or k link.0 no_link).target.0) is in
    let count = keeps.flight_count in
    let flies : link.0 < length f.flights = omega (arith, count, within) in
    let many = keeps.queues.count in
    let nodes = keeps.nodes.count in
    let there = target_within (arc_value f.design) link.0 keeps.design within in
    let inside : t < length f.queues = omega (arith, many, nodes, there, same) in
    more_room f (slice_set f.flights link.0 flight) (slice_set f.queues t queue) keeps
    (flight_copies f.flights link.0 n flight flies n_is copies)
    (flight_less f.flights link.0 n flight flies n_is more)
    (queue_entries f.queues t q queue inside q_is entries) (queue_less f.queues t q queue inside q_is wider)
