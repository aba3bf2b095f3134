-- For the loop of `send_messages`: the bus when the first links have their messages, and one more link.
use Rattle.std.proofs.Common.{◌≡◌, ◌∙◌, ℕ, suc, ◌+◌, ◌<◌, ◌≤◌, true, false, cond, List, [], ◌∷◌, length, drop, Option}
use Rattle.std.proofs.Common.{sym, ap, subst, arith, drop-cons, length-drop}
use Rattle.std.specs.Prelude.{◌-◌, filter, min, slice_set, slice_index_or}
use Rattle.std.specs.Arc.{arc_value}
use Rattle.std.proofs.lemmas.Bool.{eqb-true, false≢true, eq-eqb}
use Rattle.std.proofs.lemmas.Option.{slice_get-get_or}
use Rattle.pals_base.specs.declared.limits.TheConstants.{HOUR}
use Rattle.pals_base.specs.declared.basic_types.PortValue.{PortValue}
use Rattle.pals_base.specs.declared.basic_types.LinkNo.{LinkNo}
use Rattle.pals_model.specs.declared.flight_copy.FlightCopy.{FlightCopy}
use Rattle.pals_model.specs.Delays.{AreDelays, delay_of}
use Rattle.pals_model.specs.DesignRules.{IsDesign}
use Rattle.link_buffers.specs.proof.Flights.{FlightState}
use Rattle.link_buffers.specs.proof.DueQueues.{QueueState}
use Rattle.bus_machine.specs.LinkEvents.{sent_copy}
use Rattle.bus_machine.specs.Plans.{link_at, no_link}
use Rattle.pals_bus.specs.declared.bus_fields.BusFields.{BusFields}
use Rattle.pals_bus.specs.proof.RoundMessages.{is_from, place_of, HasRoomFor, with_copy, AreSent}
use Rattle.pals_bus.specs.proof.DueQueues.{AreQueuesAmid, with_due}
use Rattle.pals_bus.specs.proof.LinksFromNodes.{no_numbers}
use Rattle.pals_bus.specs.proof.OutOfRangeDefaults.{no_flight, no_queue, no_link_no}
use Rattle.pals_bus.proofs.NextOutgoingLink.{IsAt, Reaches, reaches_all, reaches_next}
use Rattle.pals_bus.proofs.QueueChanges.{amid_other, amid_room}
use Rattle.pals_bus.proofs.QueueOpeningsAndSends.{amid_one}
use Rattle.pals_bus.proofs.RoundMessages.{place_next, place_within, sent_other, sent_one}
use Rattle.pals_bus.proofs.OldestCopyRemoval.{target_within}

-- the first links have their messages, and the others remain
pub record Sending (first now : BusFields) (node round : ℕ) (reading : Option ℕ) (messages left : List (List PortValue))
    (number : ℕ) : Type 0 where
  pub sent : AreSent node (arc_value first.design).links first.delays round reading messages number
      first.flights now.flights
  pub left_are : left ≡ drop (place_of node (arc_value first.design).links number) messages
  pub queues : AreQueuesAmid node number (arc_value first.design).links first.nodes now.flights now.queues
  pub others : now ≡ record first { flights = now.flights; queues = now.queues }

-- what a send begins with
pub record CanSend (f : BusFields) (node : ℕ) (messages : List (List PortValue)) : Type 0 where
  pub design : IsDesign (arc_value f.design)
  pub flights : length f.flights ≡ length (arc_value f.design).links
  pub nodes : length f.nodes ≡ length (arc_value f.design).components
  pub count : length messages ≡ length (filter (is_from node) (arc_value f.design).links)

-- the next link is not the node's
pub sending_other : (first now : BusFields) (node round : ℕ) (reading : Option ℕ)
    (messages left : List (List PortValue))
    (number : ℕ) → Sending first now node round reading messages left number
    → number < length (arc_value first.design).links
    → is_from node (slice_index_or (arc_value first.design).links number no_link) ≡ false
    → Sending first now node round reading messages left (number + 1)
sending_other first now node round reading messages left number so_far within other =
    let links = (arc_value first.design).links in
    let next = place_next node number links within in
    let none : cond {A = ℕ} (is_from node (slice_index_or links number no_link)) 1 0
    ≡ 0 = ap (λ b. cond {A = ℕ} b 1 0) other in
    let place : place_of node links number ≡ place_of node links (number + 1) = omega (arith, next, none) in
    record {
      sent =
          sent_other node number links first.delays round reading messages first.flights now.flights so_far.sent other;
      left_are = so_far.left_are ∙ ap (λ (k : ℕ). drop k messages) place;
      queues =
          amid_other node number links first.nodes now.flights now.queues so_far.queues within
          (λ same. false≢true (sym other ∙ eq-eqb (slice_index_or links number no_link).source.0 node same));
      others = so_far.others;
    }

same_head : {X : Type 0} (x y : X) (xs ys : List X) → ◌≡◌ {A = List X} (x ∷ xs) (y ∷ ys) → (x ≡ y) × (xs ≡ ys)
same_head x y xs ys is = (cc, cc)

-- the next link is the node's, and its message goes into flight
pub sending_one : (first now : BusFields) (node round : ℕ) (reading : Option ℕ)
    (messages left rest : List (List PortValue))
    (link : LinkNo) (tuple : List PortValue) (flight : FlightState) (queue : QueueState) → CanSend first node messages
    → Sending first now node round reading messages left link.0 → link.0 < length (arc_value first.design).links
    → is_from node (slice_index_or (arc_value first.design).links link.0 no_link) ≡ true → left ≡ tuple ∷ rest
    → flight ≡ with_copy (slice_index_or now.flights link.0 no_flight)
    (sent_copy round reading (delay_of first.delays link.0 round) tuple)
    → queue ≡ with_due (slice_index_or now.queues
    (slice_index_or (arc_value first.design).links link.0 no_link).target.0 no_queue)
    (sent_copy round reading (delay_of first.delays link.0 round) tuple).due link round
    → Sending first (record now {
      flights = slice_set now.flights link.0 flight;
      queues = slice_set now.queues (slice_index_or (arc_value first.design).links link.0 no_link).target.0
          queue;
    }) node round reading messages rest (link.0 + 1)
sending_one first now node round reading messages left rest link tuple flight queue can so_far within from next
    flight_is queue_is =
    let links = (arc_value first.design).links in
    let here = slice_index_or links link.0 no_link in
    let at = place_of node links link.0 in
    let count = can.count in
    let placed = place_within node link.0 links within from in
    let inside : at < length messages = omega (arith, count, placed) in
    let tail : drop at messages ≡ slice_index_or messages at [] ∷ drop (suc at) messages =
    drop-cons messages at [] inside in
    let both =
    same_head tuple (slice_index_or messages at []) rest (drop (suc at) messages)
    (sym next ∙ so_far.left_are ∙ tail) in
    let step = place_next node link.0 links within in
    let one : cond {A = ℕ} (is_from node here) 1 0 ≡ 1 = ap (λ b. cond {A = ℕ} b 1 0) from in
    let place : suc at ≡ place_of node links (link.0 + 1) = omega (arith, step, one) in
    let copy = sent_copy round reading (delay_of first.delays link.0 round) tuple in
    let same = so_far.sent.count in
    let many = can.flights in
    let flies : link.0 < length now.flights = omega (arith, same, many, within) in
    let queues_count = so_far.queues.count in
    let nodes = can.nodes in
    let there = target_within (arc_value first.design) link.0 can.design within in
    let target : here.target.0 < length now.queues = omega (arith, queues_count, nodes, there) in
    record {
      sent =
          sent_one node link.0 links first.delays round reading messages first.flights now.flights flight so_far.sent
          flies from (flight_is ∙ ap
          (λ (t : List PortValue). with_copy (slice_index_or now.flights link.0 no_flight)
          (sent_copy round reading (delay_of first.delays link.0 round) t)) both.0);
      left_are = both.1 ∙ ap (λ (k : ℕ). drop k messages) place;
      queues =
          amid_one node links first.nodes now.flights now.queues link copy flight queue so_far.queues within flies
          (eqb-true here.source.0 node from) target (ap (λ (f : FlightState). f.copies) flight_is) queue_is;
      others =
          ap (λ (k : BusFields). let u : BusFields =
          record k {
            flights = slice_set now.flights link.0 flight;
            queues = slice_set now.queues here.target.0 queue;
          } in u) so_far.others;
    }

-- ---- the loop
pub sending_more : (first now next : BusFields) (node round : ℕ) (reading : Option ℕ)
    (messages left rest : List (List PortValue)) (link : LinkNo) (tuple : List PortValue) (copy : FlightCopy)
    → CanSend first node messages → Sending first now node round reading messages left link.0
    → link.0 < length (arc_value first.design).links
    → is_from node (slice_index_or (arc_value first.design).links link.0 no_link) ≡ true → left ≡ tuple ∷ rest
    → copy ≡ sent_copy round reading (delay_of first.delays link.0 round) tuple
    → next.flights ≡ slice_set now.flights link.0 (with_copy (slice_index_or now.flights link.0 no_flight) copy)
    → next.queues ≡ slice_set now.queues (slice_index_or (arc_value first.design).links link.0 no_link).target.0
    (with_due (slice_index_or now.queues (slice_index_or (arc_value first.design).links link.0 no_link).target.0
    no_queue) copy.due link copy.round)
    → next ≡ record now { flights = next.flights; queues = next.queues }
    → Sending first next node round reading messages rest (link.0 + 1)
sending_more first now next node round reading messages left rest link tuple copy can so_far within from head is flights
    queues others =
    let t = (slice_index_or (arc_value first.design).links link.0 no_link).target.0 in
    let flight = with_copy (slice_index_or now.flights link.0 no_flight) copy in
    let queue = with_due (slice_index_or now.queues t no_queue) copy.due link copy.round in
    let h : BusFields = record now
    { flights = slice_set now.flights link.0 flight; queues = slice_set now.queues t queue } in
    let same : next ≡ h =
    others
    ∙ ap (λ (fs : List FlightState). let u : BusFields = record now { flights = fs; queues = next.queues } in u) flights
    ∙ ap (λ (qs : List QueueState). let u : BusFields =
    record now { flights = slice_set now.flights link.0 flight; queues = qs } in u) queues in
    let all : Sending first h node round reading messages rest (link.0 + 1) =
    sending_one first now node round reading messages left rest link tuple flight queue can so_far within from head
    (ap (with_copy (slice_index_or now.flights link.0 no_flight)) is)
    (ap (λ (k : FlightCopy). with_due (slice_index_or now.queues t no_queue) k.due link k.round) is) in
    subst (λ (k : BusFields). Sending first k node round reading messages rest (link.0 + 1)) (sym same) all

-- the link has room for its message
pub sending_room : (first now : BusFields) (node round : ℕ) (reading : Option ℕ) (messages left : List (List PortValue))
    (number : ℕ) → Sending first now node round reading messages left number
    → HasRoomFor node (length (arc_value first.design).links) (arc_value first.design).links first.flights
    → number < length (arc_value first.design).links
    → is_from node (slice_index_or (arc_value first.design).links number no_link) ≡ true
    → 1 ≤ (slice_index_or now.flights number no_flight).spare
sending_room first now node round reading messages left number so_far room within from =
    let link = slice_index_or (arc_value first.design).links number no_link in
    let here =
    room number link within (slice_get-get_or (arc_value first.design).links number no_link within)
    (eqb-true link.source.0 node from) in
    let same : (slice_index_or now.flights number no_flight).spare
    ≡ (slice_index_or first.flights number no_flight).spare =
    ap (λ (f : FlightState). f.spare) (so_far.sent.others number (omega arith)) in
    omega (arith, here, same)

pub sending_queue_room : (first now : BusFields) (node round : ℕ) (reading : Option ℕ)
    (messages left : List (List PortValue))
    (number : ℕ) → Sending first now node round reading messages left number
    → number < length (arc_value first.design).links
    → is_from node (slice_index_or (arc_value first.design).links number no_link) ≡ true
    → 1 ≤ (slice_index_or now.queues (slice_index_or (arc_value first.design).links number no_link).target.0
    no_queue).spare
sending_queue_room first now node round reading messages left number so_far within from =
    amid_room node number (arc_value first.design).links first.nodes now.flights now.queues so_far.queues within
    (eqb-true (slice_index_or (arc_value first.design).links number no_link).source.0 node from)

-- a message remains for the link
pub message_left : (first now : BusFields) (node round : ℕ) (reading : Option ℕ) (messages left : List (List PortValue))
    (number : ℕ) → CanSend first node messages → Sending first now node round reading messages left number
    → number < length (arc_value first.design).links
    → is_from node (slice_index_or (arc_value first.design).links number no_link) ≡ true → 1 ≤ length left
message_left first now node round reading messages left number can so_far within from =
    let links = (arc_value first.design).links in
    let count = can.count in
    let placed = place_within node number links within from in
    let size = ap length so_far.left_are in
    let all = length-drop (place_of node links number) messages in
    omega (arith, count, placed, size, all)

-- ---- the next link from the node
-- the numbers that the code reads are the numbers of the unchanged fields
pub own_links : (first now : BusFields) (node round : ℕ) (reading : Option ℕ)
    (messages left : List (List PortValue)) (at : ℕ)
    (ns all : List LinkNo)
    → Reaches (Sending first now node round reading messages left) node at (arc_value first.design).links
    (slice_index_or first.outgoing node no_numbers) → all ≡ slice_index_or first.outgoing node no_numbers
    → at < length all → ns ≡ slice_index_or now.outgoing node no_numbers
    → IsAt (Sending first now node round reading messages left) node at (arc_value first.design).links
    (slice_index_or first.outgoing node no_numbers) (slice_index_or ns at no_link_no)
own_links first now node round reading messages left at ns all so_far all_are lt are =
    let links = (arc_value first.design).links in
    let numbers = slice_index_or first.outgoing node no_numbers in
    let going = Sending first now node round reading messages left in
    let same : ns ≡ numbers = are
    ∙ ap (λ (k : BusFields). slice_index_or k.outgoing node no_numbers) so_far.holds.others in
    subst (λ (k : List LinkNo). IsAt going node at links numbers (slice_index_or k at no_link_no)) (sym same)
    (reaches_next going node at links numbers
    (λ k within other so_far. sending_other first now node round reading messages left k so_far within other) so_far
    (subst (λ (k : List LinkNo). at < length k) all_are lt))

-- it has a delay of at most an hour
pub sending_delay : (first now : BusFields) (node round : ℕ) (reading : Option ℕ)
    (messages left : List (List PortValue))
    (number : ℕ) → Sending first now node round reading messages left number
    → AreDelays (length (arc_value first.design).links) first.delays → number < length (arc_value first.design).links
    → (number < length now.delays.lists) × (delay_of now.delays number round ≤ HOUR)
sending_delay first now node round reading messages left number so_far are within =
    subst (λ (k : BusFields). (number < length k.delays.lists) × (delay_of k.delays number round ≤ HOUR))
    (sym so_far.others)
    (let each = are.each in
    let inside : number < length first.delays.lists = omega (arith, each, within) in
    let list = slice_index_or first.delays.lists number [] in
    let is = are.lists number [] inside in
    let some = is.some' in
    (inside, is.within (min round (length list - 1)) 0 (omega (arith, some))))

-- its flight, itself and the queue of its target are there
pub sending_places : (first now : BusFields) (node round : ℕ) (reading : Option ℕ)
    (messages left : List (List PortValue))
    (number : ℕ) → CanSend first node messages → Sending first now node round reading messages left number
    → number < length (arc_value first.design).links
    → (number < length now.flights)
    × ((number < length (arc_value now.design).links)
    × ((link_at (arc_value now.design) number).target.0 < length now.queues))
sending_places first now node round reading messages left number can so_far within =
    let same = so_far.sent.count in
    let many = can.flights in
    let queues_count = so_far.queues.count in
    let nodes = can.nodes in
    let there = target_within (arc_value first.design) number can.design within in (
      omega (arith, same, many, within),
      subst (λ (k : BusFields). (number < length (arc_value k.design).links)
          × ((link_at (arc_value k.design) number).target.0 < length now.queues)) (sym so_far.others)
          (within, omega (arith, queues_count, nodes, there)),
    )

-- once all links of the node are done
pub sending_all : (first now : BusFields) (node round : ℕ) (reading : Option ℕ)
    (messages left : List (List PortValue)) (at : ℕ)
    (all : List LinkNo)
    → Reaches (Sending first now node round reading messages left) node at (arc_value first.design).links
    (slice_index_or first.outgoing node no_numbers) → all ≡ slice_index_or first.outgoing node no_numbers
    → length all ≤ at
    → Sending first now node round reading messages left (length (arc_value first.design).links)
sending_all first now node round reading messages left at all so_far are past =
    let size = ap length are in
    reaches_all (Sending first now node round reading messages left) node at (arc_value first.design).links
    (slice_index_or first.outgoing node no_numbers)
    (λ k within other so_far. sending_other first now node round reading messages left k so_far within other) so_far
    (omega (arith, size, past))
