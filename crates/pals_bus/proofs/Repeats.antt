-- For `repeat_message`: one more copy of a message in flight, and the bus invariant after it.
use Rattle.std.proofs.Common.{◌≡◌, ◌∙◌, inl, inr, ℕ, ◌+◌, ◌-◌, ◌<◌, ◌≤◌, nat_eq, List, [], ◌∷◌, ◌++◌, length, Option}
use Rattle.std.proofs.Common.{Some, None, is_some, refl, sym, ap, subst, arith}
use Rattle.std.specs.Prelude.{slice_set, slice_index_or, sum_by, vec_capacity}
use Rattle.std.specs.Arc.{arc_value}
use Rattle.std.proofs.lemmas.Bool.{cases_eq, and_parts}
use Rattle.std.proofs.lemmas.List.{length-set, get_or-set_other}
use Rattle.std.proofs.lemmas.Grind.{get_or-set_at}
use Rattle.pals_base.specs.declared.limits.TheConstants.{PORTS}
use Rattle.pals_base.specs.declared.basic_types.LinkNo.{LinkNo}
use Rattle.pals_model.specs.declared.design.Link.{Link}
use Rattle.pals_model.specs.declared.flight_copy.FlightCopy.{FlightCopy}
use Rattle.pals_model.specs.Flights.{oldest}
use Rattle.pals_runs.specs.declared.journal.JournalEntry.TheVariants as entry
use Rattle.link_buffers.specs.proof.Flights.{FlightState}
use Rattle.link_buffers.specs.proof.DueQueues.{QueueState}
use Rattle.bus_machine.specs.LinkEvents.{once_more, repeated}
use Rattle.bus_machine.specs.BusStates.{flight_at}
use Rattle.bus_machine.specs.Plans.{no_link}
use Rattle.bus_machine.specs.Machine.{Repeat}
use Rattle.bus_machine.specs.Replay.{Replays, goes_on}
use Rattle.pals_node.specs.proof.NodeAndJobValues.{NodeValue}
use Rattle.pals_bus.specs.declared.bus_fields.BusFields.{BusFields}
use Rattle.pals_bus.specs.BusValues.{Happens}
use Rattle.pals_bus.specs.proof.BusInvariant.{HasRooms, IsBusInvariant, owed, run_of, state_of, value_of, copies_in}
use Rattle.pals_bus.specs.proof.RoundMessages.{with_copy}
use Rattle.pals_bus.specs.proof.DueQueues.{AreQueues, is_awaited, with_due}
use Rattle.pals_bus.specs.proof.OutOfRangeDefaults.{no_flight, no_queue}
use Rattle.pals_bus.proofs.FlightRooms.{copies-set, flight_is, flight_here}
use Rattle.pals_bus.proofs.QueueChanges.{IsFewInto, count-less, few_into}
use Rattle.pals_bus.proofs.QueueFlightAgreement.{copy_added}
use Rattle.pals_bus.proofs.QueueOpeningsAndSends.{with_due_spare}
use Rattle.pals_bus.proofs.EventInvariants.{flights_happen}
use Rattle.pals_bus.proofs.StartsStepsAndFinishes.{longer}
use Rattle.pals_bus.proofs.OldestCopyRemoval.{target_within}

-- ---- room
-- a link keeps room for its source's message, where it had room for two
rooms_repeated : (links : List Link) (nodes : List NodeValue) (flights : List FlightState) (at : ℕ) (copy : FlightCopy)
    → HasRooms links nodes flights → at < length flights → 2 ≤ (slice_index_or flights at no_flight).spare
    → HasRooms links nodes (slice_set flights at (with_copy (slice_index_or flights at no_flight) copy))
rooms_repeated links nodes flights at copy rooms within two number link is unsent = elim (cases_eq number at) [
  | inl here ↦
      let new : (slice_index_or (slice_set flights at (with_copy (slice_index_or flights at no_flight) copy)) number
      no_flight).spare ≡ (slice_index_or flights at no_flight).spare - 1 =
      ap (λ (k : FlightState). k.spare)
      (get_or-set_at flights at number (with_copy (slice_index_or flights at no_flight) copy) no_flight
      here within) in
      omega (arith, new, two)
  | inr other ↦
      let new : (slice_index_or (slice_set flights at (with_copy (slice_index_or flights at no_flight) copy)) number
      no_flight).spare ≡ (slice_index_or flights number no_flight).spare =
      ap (λ (k : FlightState). k.spare)
      (get_or-set_other flights at number (with_copy (slice_index_or flights at no_flight) copy) no_flight other) in
      let before = rooms number link is unsent in
      omega (arith, new, before)
]

queues_repeated : (links : List Link) (nodes : List NodeValue) (flights : List FlightState) (queues : List QueueState)
    (link : LinkNo) (copy : FlightCopy) → AreQueues links nodes flights queues → IsFewInto links
    → link.0 < length flights
    → (slice_index_or links link.0 no_link).target.0 < length queues
    → PORTS + 1 ≤ (slice_index_or queues (slice_index_or links link.0 no_link).target.0 no_queue).spare
    → AreQueues links nodes (slice_set flights link.0 (with_copy (slice_index_or flights link.0 no_flight) copy))
    (slice_set queues (slice_index_or links link.0 no_link).target.0
    (with_due (slice_index_or queues (slice_index_or links link.0 no_link).target.0 no_queue) copy.due link
    copy.round))
queues_repeated links nodes flights queues link copy are few within target spare =
    let t = (slice_index_or links link.0 no_link).target.0 in
    let flight = with_copy (slice_index_or flights link.0 no_flight) copy in
    let queue = with_due (slice_index_or queues t no_queue) copy.due link copy.round in
    record {
      count = length-set queues t queue ∙ are.count;
      entries = copy_added links flights queues link copy flight queue are.entries within target refl refl;
      room = λ node. elim (cases_eq node t) [
        | inl here ↦
            let all = few node in
            let less =
            count-less (is_awaited nodes node) (λ (l : Link). nat_eq l.target.0 node) links
            (λ i d lt passes. (and_parts (nat_eq (slice_index_or links i d).target.0 node) _ passes).0) in
            let new : (slice_index_or (slice_set queues t queue) node no_queue).spare ≡ queue.spare =
            ap (λ (q : QueueState). q.spare) (get_or-set_at queues t node queue no_queue here target) in
            let one = with_due_spare (slice_index_or queues t no_queue) copy.due link copy.round in
            omega (arith, all, less, new, one, spare)
        | inr away ↦
            let same : (slice_index_or (slice_set queues t queue) node no_queue).spare
            ≡ (slice_index_or queues node no_queue).spare =
            ap (λ (q : QueueState). q.spare) (get_or-set_other queues t node queue no_queue away) in
            let room = are.room node in
            omega (arith, same, room)
      ];
    }

-- ---- Repeat
-- the copy is in flight once more
pub record Repeats (f g : BusFields) (link : LinkNo) (round : ℕ) (copy : FlightCopy) : Type 0 where
  pub is_copy : oldest round (slice_index_or f.flights link.0 no_flight).copies ≡ Some copy
  pub flights : g.flights ≡ slice_set f.flights link.0 (with_copy (slice_index_or f.flights link.0 no_flight) copy)
  pub queues :
      g.queues ≡ slice_set f.queues (slice_index_or (arc_value f.design).links link.0 no_link).target.0
      (with_due (slice_index_or f.queues (slice_index_or (arc_value f.design).links link.0 no_link).target.0 no_queue)
      copy.due link copy.round)
  pub others : g ≡ record f { flights = g.flights; queues = g.queues; journal = g.journal }
  pub told : g.journal.items ≡ f.journal.items ++ entry.Repeat link round ∷ []

pub repeat_happens : (f g : BusFields) (link : LinkNo) (round : ℕ) (copy : FlightCopy) → f.stop ≡ None
    → Repeats f g link round copy → Happens (value_of f) (Repeat link round) (value_of g)
repeat_happens f g link round copy going repeats =
    let s = state_of f in
    let found : oldest round (flight_at s link.0) ≡ Some copy = ap (oldest round) (flight_is f.flights link.0)
    ∙ repeats.is_copy in
    let flight = slice_index_or f.flights link.0 no_flight in
    let more : flight.copies ++ copy ∷ [] ≡ repeated round (flight_at s link.0) =
    ap (λ (copies : List FlightCopy). copies ++ copy ∷ []) (sym (flight_is f.flights link.0))
    ∙ ap (λ (o : Option FlightCopy). flight_at s link.0 ++ once_more o) (sym found) in
    let copies : copies_in g.flights ≡ slice_set (copies_in f.flights) link.0 (repeated round (flight_at s link.0)) =
    ap copies_in repeats.flights ∙ copies-set f.flights link.0 (with_copy flight copy)
    ∙ ap (slice_set (copies_in f.flights) link.0) more in
    subst (Happens (value_of f) (Repeat link round)) (sym (ap value_of repeats.others))
    (flights_happen f (Repeat link round) g.flights
    (slice_set (copies_in f.flights) link.0 (repeated round (flight_at s link.0))) g.journal.items going copies
    (ap is_some found) refl repeats.told)

pub repeat_keeps_bus : (f g : BusFields) (link : LinkNo) (round : ℕ) (copy : FlightCopy) → IsBusInvariant f
    → link.0 < length (arc_value f.design).links → Repeats f g link round copy
    → Happens (value_of f) (Repeat link round) (value_of g)
    → 2 ≤ (slice_index_or f.flights link.0 no_flight).spare
    → PORTS + 1 ≤ (slice_index_or f.queues (slice_index_or (arc_value f.design).links link.0 no_link).target.0
    no_queue).spare
    → length f.journal.items + sum_by owed f.nodes + 1 ≤ vec_capacity g.journal → IsBusInvariant g
repeat_keeps_bus f g link round copy keeps within repeats happens two wide room =
    let links = (arc_value f.design).links in
    let t = (slice_index_or links link.0 no_link).target.0 in
    let flights = slice_set f.flights link.0 (with_copy (slice_index_or f.flights link.0 no_flight) copy) in
    let queues = slice_set f.queues t (with_due (slice_index_or f.queues t no_queue) copy.due link copy.round) in
    let h : BusFields = record f { flights = flights; queues = queues; journal = g.journal } in
    let is : g ≡ h =
    repeats.others
    ∙ ap (λ (fs : List FlightState). let u : BusFields =
    record f { flights = fs; queues = g.queues; journal = g.journal } in u) repeats.flights
    ∙ ap (λ (qs : List QueueState). let u : BusFields =
    record f { flights = flights; queues = qs; journal = g.journal } in
    u) repeats.queues in
    let step : Happens (value_of f) (Repeat link round) (value_of h) =
    subst (λ (k : BusFields). Happens (value_of f) (Repeat link round) (value_of k)) is happens in
    let size = longer g.journal.items f.journal.items (entry.Repeat link round) repeats.told in
    let flight_count = keeps.flight_count in
    let flies : link.0 < length f.flights = omega (arith, flight_count, within) in
    let many = keeps.queues.count in
    let count = keeps.nodes.count in
    let there = target_within (arc_value f.design) link.0 keeps.design within in
    let target : t < length f.queues = omega (arith, many, count, there) in
    let all : IsBusInvariant h = record {
      design = keeps.design;
      outgoing = keeps.outgoing;
      rounds = keeps.rounds;
      delays = keeps.delays;
      values = keeps.values;
      nodes = keeps.nodes;
      flight_count =
          length-set f.flights link.0 (with_copy (slice_index_or f.flights link.0 no_flight) copy) ∙ keeps.flight_count;
      rooms = rooms_repeated links f.nodes f.flights link.0 copy keeps.rooms flies two;
      queues =
          queues_repeated links f.nodes f.flights f.queues link copy keeps.queues
          (few_into (arc_value f.design) keeps.design) flies target wide;
      replays =
          subst (λ j. Replays (run_of f) j (state_of h)) (sym step.journal)
          (goes_on (Repeat link round) keeps.replays step.step);
      place = omega (arith, size, room);
    } in
    subst IsBusInvariant (sym is) all

-- the oldest copy stays with more room, and its own copy is like it
pub oldest_kept : (f g : BusFields) (at round : ℕ) (n : FlightState) (first copy : FlightCopy) → IsBusInvariant f
    → at < length (arc_value f.design).links → copies_in g.flights ≡ copies_in f.flights
    → n ≡ slice_index_or f.flights at n → Some first ≡ oldest round n.copies → copy ≡ first
    → oldest round (slice_index_or g.flights at no_flight).copies ≡ Some copy
oldest_kept f g at round n first copy keeps within same is found like =
    let count = keeps.flight_count in
    ap (oldest round) (sym (flight_is g.flights at) ∙ ap (λ (cs : List (List FlightCopy)). slice_index_or cs at []) same
    ∙ flight_here f.flights at n (omega (arith, count, within)) is)
    ∙ sym found
    ∙ ap (λ (k : FlightCopy). Some k) (sym like)
