-- The queues of due messages before the first event, and where a message is sent.
use Rattle.std.proofs.Common.{◌≡◌, ◌∙◌, inl, inr, ℕ, ◌+◌, ◌<◌, ◌≤◌, nat_eq, Bool, true, false, cond, List, [], ◌∷◌}
use Rattle.std.proofs.Common.{◌++◌, length, map, Option, Some, None, refl, sym, ap, arith}
use Rattle.std.specs.Prelude.{count_by, slice_set, slice_index_or, not, if◌then◌else◌}
use Rattle.std.proofs.lemmas.Bool.{cases_eq, and_from, eq-eqb, and_right}
use Rattle.std.proofs.lemmas.List.{length-map, length-set, get_or-set_other}
use Rattle.std.proofs.lemmas.List.Sums.{sum_by-drop_more}
use Rattle.std.proofs.lemmas.Grind.{get_or-set_at}
use Rattle.list_lemmas.proofs.ElementPositions.{get_or-map_constant}
use Rattle.pals_base.specs.declared.basic_types.LinkNo.{LinkNo}
use Rattle.pals_model.specs.declared.design.Link.{Link}
use Rattle.pals_model.specs.declared.flight_copy.FlightCopy.{FlightCopy}
use Rattle.link_buffers.specs.proof.Flights.{FlightState}
use Rattle.link_buffers.specs.proof.DueQueues.{QueueState, is_entry}
use Rattle.bus_machine.specs.Plans.{no_link}
use Rattle.pals_node.specs.proof.NodeAndJobValues.{NodeValue}
use Rattle.pals_bus.specs.proof.OutOfRangeDefaults.{no_node_value, no_flight, no_queue}
use Rattle.pals_bus.specs.proof.DueQueues.{AreQueues, AreQueuesAmid, is_awaited, is_between, is_copy_of, with_due}
use Rattle.pals_bus.proofs.QueueFlightAgreement.{copy_added, count_none}

-- ---- one message
pub with_due_spare : (queue : QueueState) (due : Option ℕ) (link : LinkNo) (round : ℕ)
    → queue.spare ≤ (with_due queue due link round).spare + 1
with_due_spare queue None link round = omega arith
with_due_spare queue (Some due) link round = omega arith

-- the next link is the node's, and its message joins its flight and the queue of its target
pub amid_one : (source : ℕ) (links : List Link) (nodes : List NodeValue) (flights : List FlightState)
    (queues : List QueueState) (link : LinkNo) (copy : FlightCopy) (flight : FlightState) (queue : QueueState)
    → AreQueuesAmid source link.0 links nodes flights queues
    → link.0 < length links → link.0 < length flights → (slice_index_or links link.0 no_link).source.0 ≡ source
    → (slice_index_or links link.0 no_link).target.0 < length queues
    → flight.copies ≡ (slice_index_or flights link.0 no_flight).copies ++ copy ∷ []
    → queue ≡ with_due (slice_index_or queues (slice_index_or links link.0 no_link).target.0 no_queue) copy.due
    link copy.round
    → AreQueuesAmid source (link.0 + 1) links nodes (slice_set flights link.0 flight)
    (slice_set queues (slice_index_or links link.0 no_link).target.0 queue)
amid_one source links nodes flights queues link copy flight queue are within flies from target is queue_is =
    let here = slice_index_or links link.0 no_link in
    let t = here.target.0 in
    record {
      count = length-set queues t queue ∙ are.count;
      entries = copy_added links flights queues link copy flight queue are.entries flies target is queue_is;
      room = λ node.
          let room = are.room node in
          let more = sum_by-drop_more (λ l. cond (is_between source node l) 1 0) links link.0 no_link within in
          elim (cases_eq node t) [
            | inl at ↦
                let one : cond {A = ℕ} (is_between source node here) 1 0
                ≡ 1 = ap (λ b. cond {A = ℕ} b 1 0)
                (and_from (nat_eq here.source.0 source) (nat_eq here.target.0 node) (eq-eqb here.source.0 source from)
                (eq-eqb here.target.0 node (sym at))) in
                let new : (slice_index_or (slice_set queues t queue) node no_queue).spare
                ≡ (with_due (slice_index_or queues t no_queue) copy.due link copy.round).spare =
                ap (λ (q : QueueState). q.spare) (get_or-set_at queues t node queue no_queue at target ∙ queue_is) in
                let old : (slice_index_or queues node no_queue).spare ≡ (slice_index_or queues t no_queue).spare =
                ap (λ k. (slice_index_or queues k no_queue).spare) at in
                let less = with_due_spare (slice_index_or queues t no_queue) copy.due link copy.round in
                omega (arith, room, more, one, new, old, less)
            | inr away ↦
                let same : (slice_index_or (slice_set queues t queue) node no_queue).spare
                ≡ (slice_index_or queues node no_queue).spare =
                ap (λ (q : QueueState). q.spare) (get_or-set_other queues t node queue no_queue away) in
                omega (arith, room, more, same)
          ];
    }

-- ---- before the first event
none_either : (b : Bool) → ◌≡◌ {A = ℕ} (if b then 0 else 0) 0
none_either true = refl
none_either false = refl

pub queues_open : (links : List Link) (nodes : List NodeValue)
    → ((k : ℕ) → (slice_index_or nodes k no_node_value).state.sent ≡ true)
    → AreQueues links nodes (map (λ (_ : Link). no_flight) links) (map (λ (_ : NodeValue). no_queue) nodes)
queues_open links nodes sent = record {
  count = length-map nodes (λ (_ : NodeValue). no_queue);
  entries = λ node e.
      ap (λ (q : QueueState). count_by (is_entry e) q.entries) (get_or-map_constant no_queue nodes node)
      ∙ sym (ap (λ (f : FlightState).
      if nat_eq (slice_index_or links e.link.0 no_link).target.0 node then count_by (is_copy_of e) f.copies else 0)
      (get_or-map_constant no_flight links e.link.0)
      ∙ none_either (nat_eq (slice_index_or links e.link.0 no_link).target.0 node));
  room = λ node.
      let none =
      count_none (is_awaited nodes node) links
      (λ i d lt. let link = slice_index_or links i d in
      and_right (nat_eq link.target.0 node) _ (ap not (sent link.source.0))) in
      omega (arith, none);
}
