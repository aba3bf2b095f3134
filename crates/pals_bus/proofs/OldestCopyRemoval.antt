-- For arrivals and losses: the oldest copy of a round leaves its flight and the queue of its target.
use Rattle.std.proofs.Common.{◌≡◌, ◌∙◌, ℕ, ◌<◌, ◌≤◌, false, List, [], length, Option, Some, None, is_some, refl, sym}
use Rattle.std.proofs.Common.{ap, subst, arith}
use Rattle.std.specs.Prelude.{IfNone, option_map, slice_set, slice_index_or}
use Rattle.std.specs.Arc.{arc_value}
use Rattle.std.proofs.lemmas.Bool.{eqb-true}
use Rattle.std.proofs.lemmas.List.{length-map, length-set, set-get_or, get_or_default}
use Rattle.list_lemmas.proofs.Elements.{find-passes}
use Rattle.pals_base.specs.declared.basic_types.PortValue.{PortValue}
use Rattle.pals_base.specs.declared.basic_types.LinkNo.{LinkNo}
use Rattle.pals_model.specs.declared.design.DesignParts.{DesignParts}
use Rattle.pals_model.specs.declared.design.Link.{Link}
use Rattle.pals_model.specs.declared.flight_copy.FlightCopy.{FlightCopy}
use Rattle.pals_model.specs.Flights.{is_of, oldest, without_oldest}
use Rattle.pals_model.specs.DesignRules.{IsDesign}
use Rattle.link_buffers.specs.proof.Flights.{FlightState}
use Rattle.link_buffers.specs.proof.DueQueues.{QueueState}
use Rattle.link_buffers.proofs.BufferLaws.{without_none}
use Rattle.bus_machine.specs.LinkEvents.{is_in_flight}
use Rattle.bus_machine.specs.BusStates.{flight_at}
use Rattle.bus_machine.specs.Plans.{no_link}
use Rattle.pals_node.specs.proof.NodeAndJobValues.{NodeValue}
use Rattle.pals_bus.specs.declared.bus_fields.BusFields.{BusFields}
use Rattle.pals_bus.specs.proof.BusInvariant.{IsBusInvariant, state_of, value_of, copies_in}
use Rattle.pals_bus.specs.proof.RoundMessages.{NoLessRoom}
use Rattle.pals_bus.specs.proof.DueQueues.{AreQueues, without_due}
use Rattle.pals_bus.specs.proof.OutOfRangeDefaults.{no_flight, no_queue}
use Rattle.pals_bus.proofs.FlightRooms.{copies-set, flight_is}
use Rattle.pals_bus.proofs.QueueChanges.{queue_more}
use Rattle.pals_bus.proofs.QueueFlightAgreement.{copy_taken}
use Rattle.pals_bus.proofs.EventInvariants.{keeps_room}

-- ---- the oldest copy of a round

pub oldest_round : (round : ℕ) (copies : List FlightCopy) (copy : FlightCopy) → oldest round copies ≡ Some copy
    → copy.round ≡ round
oldest_round round copies copy is = eqb-true copy.round round (find-passes (is_of round) copies copy is)

-- if there is none, the flights stay
pub none_taken : (flights : List FlightState) (at round : ℕ)
    → oldest round (slice_index_or flights at no_flight).copies ≡ None
    → copies_in flights ≡ slice_set (copies_in flights) at
    (without_oldest round (slice_index_or flights at no_flight).copies)
none_taken flights at round none =
    sym (ap (slice_set (copies_in flights) at)
    (without_none (is_of round) (slice_index_or flights at no_flight).copies none ∙ sym (flight_is flights at))
    ∙ set-get_or (copies_in flights) at [])

-- the queue of its target loses its entry
pub queues_taken : (links : List Link) (nodes : List NodeValue) (flights : List FlightState) (queues : List QueueState)
    (link : LinkNo) (copy : FlightCopy) (round : ℕ) (flight : FlightState) (queue : QueueState)
    → AreQueues links nodes flights queues → link.0 < length flights
    → (slice_index_or links link.0 no_link).target.0 < length queues
    → oldest round (slice_index_or flights link.0 no_flight).copies ≡ Some copy
    → flight.copies ≡ without_oldest round (slice_index_or flights link.0 no_flight).copies
    → queue.entries ≡ without_due
    (slice_index_or queues (slice_index_or links link.0 no_link).target.0 no_queue).entries copy.due link round
    → (slice_index_or queues (slice_index_or links link.0 no_link).target.0 no_queue).spare ≤ queue.spare
    → AreQueues links nodes (slice_set flights link.0 flight)
    (slice_set queues (slice_index_or links link.0 no_link).target.0 queue)
queues_taken links nodes flights queues link copy round flight queue are within target oldest_is is queue_is spare =
    let t = (slice_index_or links link.0 no_link).target.0 in
    let entries =
    queue_is ∙ ap (without_due (slice_index_or queues t no_queue).entries copy.due link)
    (sym (oldest_round round (slice_index_or flights link.0 no_flight).copies copy oldest_is)) in
    record {
      count = length-set queues t queue ∙ are.count;
      entries =
          copy_taken links flights queues link copy round flight queue are.entries within target oldest_is is entries;
      room = λ node. let room = are.room node in let more = queue_more queues t node queue target spare in
          omega (arith, room, more);
    }

-- the target of a link is one of the nodes
pub target_within : (design : DesignParts) (link : ℕ) → IsDesign design → link < length design.links
    → (slice_index_or design.links link no_link).target.0 < length design.components
target_within design link is within = (is.links.each link no_link within).target.node_is

-- ---- nothing was taken
as_many : (old new : List FlightState) (at : ℕ) (copies : List FlightCopy)
    → copies_in new ≡ slice_set (copies_in old) at copies → length new ≡ length old
as_many old new at copies is =
    sym (length-map new (λ (k : FlightState). k.copies)) ∙ ap length is ∙ length-set (copies_in old) at copies
    ∙ length-map old (λ (k : FlightState). k.copies)

-- a message was asked for: its flight and the queue of its target may have changed, and nothing else
pub record Takes (f g : BusFields) (link : LinkNo) (round : ℕ) (tuple : Option (List PortValue)) : Type 0 where
  pub taken : tuple ≡ option_map (λ (copy : FlightCopy). copy.tuple)
      (oldest round (slice_index_or f.flights link.0 no_flight).copies)
  pub copies : copies_in g.flights
      ≡ slice_set (copies_in f.flights) link.0 (without_oldest round (slice_index_or f.flights link.0 no_flight).copies)
  pub queues : AreQueues (arc_value f.design).links f.nodes g.flights g.queues
  pub room : NoLessRoom f.flights g.flights
  pub others : g ≡ record f { flights = g.flights; queues = g.queues }

pub same_count : (f g : BusFields) (link : LinkNo) (round : ℕ) (tuple : Option (List PortValue))
    → Takes f g link round tuple
    → length g.flights ≡ length f.flights
same_count f g link round tuple takes =
    as_many f.flights g.flights link.0 (without_oldest round (slice_index_or f.flights link.0 no_flight).copies)
    takes.copies

no_copy : (o : Option FlightCopy) → None ≡ option_map (λ (copy : FlightCopy). copy.tuple) o → o ≡ None
no_copy None is = refl
no_copy (Some copy) is = absurd (cc)

pub none_found : (f g : BusFields) (link : LinkNo) (round : ℕ) → Takes f g link round None
    → oldest round (slice_index_or f.flights link.0 no_flight).copies ≡ None
none_found f g link round takes = no_copy (oldest round (slice_index_or f.flights link.0 no_flight).copies) takes.taken

pub none_in_flight : (f g : BusFields) (link : LinkNo) (round : ℕ) → Takes f g link round None
    → is_in_flight round (flight_at (state_of f) link.0) ≡ false
none_in_flight f g link round takes =
    ap (is_in_flight round) (flight_is f.flights link.0) ∙ ap is_some (none_found f g link round takes)

same_copies : (f g : BusFields) (link : LinkNo) (round : ℕ) → Takes f g link round None
    → copies_in g.flights ≡ copies_in f.flights
same_copies f g link round takes =
    takes.copies ∙ sym (none_taken f.flights link.0 round (none_found f g link round takes))

pub none_value : (f g : BusFields) (link : LinkNo) (round : ℕ) → Takes f g link round None → value_of g ≡ value_of f
none_value f g link round takes =
    ap value_of takes.others
    ∙ ap (λ (cs : List (List FlightCopy)). record (value_of f) { state = record (state_of f) { flights = cs } })
    (same_copies f g link round takes)

pub none_keeps : (f g : BusFields) (link : LinkNo) (round : ℕ) → IsBusInvariant f → Takes f g link round None
    → IsBusInvariant g
none_keeps f g link round keeps takes =
    let h : BusFields = record f { flights = g.flights; queues = g.queues } in
    subst IsBusInvariant (sym takes.others)
    (keeps_room f h keeps refl refl (same_count f g link round None takes) (same_copies f g link round takes)
    takes.room takes.queues refl (omega arith))

-- a property that holds anyway holds if there is none
pub none_holds : {X : Type 0} (o : Option X) {P : Type 0} → P → IfNone o P
none_holds None holds = holds
none_holds (Some x) holds = tt

-- ---- the flight that it leaves
pub oldest_none : (flights : List FlightState) (at round : ℕ) (n : FlightState) → at < length flights
    → n ≡ slice_index_or flights at n → oldest round n.copies ≡ None
    → oldest round (slice_index_or flights at no_flight).copies ≡ None
oldest_none flights at round n within is none =
    ap (λ (k : FlightState). oldest round k.copies) (sym (is ∙ get_or_default flights at n no_flight within)) ∙ none

pub taken_copies : (flights : List FlightState) (at round : ℕ) (n flight : FlightState) → at < length flights
    → n ≡ slice_index_or flights at n → flight.copies ≡ without_oldest round n.copies
    → copies_in (slice_set flights at flight)
    ≡ slice_set (copies_in flights) at (without_oldest round (slice_index_or flights at no_flight).copies)
taken_copies flights at round n flight within is same =
    copies-set flights at flight
    ∙ ap (slice_set (copies_in flights) at)
    (same ∙ ap (λ (k : FlightState). without_oldest round k.copies)
    (is ∙ get_or_default flights at n no_flight within))

-- the flight and the queue after the calls that take a message
pub queues_left : (f : BusFields) (ls : List Link) (link : LinkNo) (round : ℕ) (copy : FlightCopy)
    (n m flight : FlightState) (q queue : QueueState) → IsBusInvariant f → ls ≡ (arc_value f.design).links
    → link.0 < length (arc_value f.design).links
    → n ≡ slice_index_or f.flights link.0 n → Some copy ≡ oldest round n.copies → m ≡ slice_index_or f.flights link.0 m
    → flight.copies ≡ without_oldest round m.copies
    → q ≡ slice_index_or f.queues (slice_index_or ls link.0 no_link).target.0 q
    → queue.entries ≡ without_due q.entries copy.due link round → q.spare ≤ queue.spare
    → AreQueues (arc_value f.design).links f.nodes (slice_set f.flights link.0 flight)
    (slice_set f.queues (slice_index_or ls link.0 no_link).target.0 queue)
queues_left f ls link round copy n m flight q queue keeps is within n_is found m_is left q_is taken more =
    let links = (arc_value f.design).links in
    let t = (slice_index_or links link.0 no_link).target.0 in
    let same : (slice_index_or ls link.0 no_link).target.0 ≡ t =
    ap (λ (k : List Link). (slice_index_or k link.0 no_link).target.0) is in
    let count = keeps.flight_count in
    let flies : link.0 < length f.flights = omega (arith, count, within) in
    let many = keeps.queues.count in
    let nodes = keeps.nodes.count in
    let there = target_within (arc_value f.design) link.0 keeps.design within in
    let inside : t < length f.queues = omega (arith, many, nodes, there) in
    let queue_here : q ≡ slice_index_or f.queues t no_queue = q_is ∙ ap (λ (k : ℕ). slice_index_or f.queues k q) same
    ∙ get_or_default f.queues t q no_queue inside in
    let oldest_is : oldest round (slice_index_or f.flights link.0 no_flight).copies ≡ Some copy =
    ap (λ (k : FlightState). oldest round k.copies) (sym (n_is ∙ get_or_default f.flights link.0 n no_flight flies))
    ∙ sym found in
    let left_is : flight.copies ≡ without_oldest round (slice_index_or f.flights link.0 no_flight).copies =
    left ∙ ap (λ (k : FlightState). without_oldest round k.copies)
    (m_is ∙ get_or_default f.flights link.0 m no_flight flies) in
    let entries : queue.entries ≡ without_due (slice_index_or f.queues t no_queue).entries copy.due link round = taken
    ∙ ap (λ (k : QueueState). without_due k.entries copy.due link round) queue_here in
    let room : q.spare ≡ (slice_index_or f.queues t no_queue).spare = ap (λ (k : QueueState). k.spare) queue_here in
    let spare : (slice_index_or f.queues t no_queue).spare ≤ queue.spare = omega (arith, room, more) in
    subst (λ (k : ℕ). AreQueues links f.nodes (slice_set f.flights link.0 flight)
    (slice_set f.queues k queue)) (sym same)
    (queues_taken links f.nodes f.flights f.queues link copy round flight queue keeps.queues flies inside oldest_is
    left_is entries spare)
