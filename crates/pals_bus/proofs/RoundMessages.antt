-- What the messages of a node's round leave in the flights, link by link, and the room that they need.
use Rattle.std.proofs.Common.{◌≡◌, ◌≢◌, ◌∙◌, inl, inr, ℕ, zero, suc, ◌+◌, ◌<◌, ◌≤◌, nat_eq, Bool, true, false, cond}
use Rattle.std.proofs.Common.{List, [], ◌∷◌, ◌++◌, length, map, take, drop, slice_get, Option, Some, refl, sym, ap, ap₂}
use Rattle.std.proofs.Common.{arith, length-append}
use Rattle.std.specs.Prelude.{filter, slice_set, slice_index_or, if◌then◌else◌}
use Rattle.std.specs.List.{enumerate_from}
use Rattle.std.proofs.lemmas.Bool.{cases_eq, cases_lt, eqb-true, false≢true, false_from_ne_true}
use Rattle.std.proofs.lemmas.List.{length-set, length-map, get_or-map, get_or-set_other, ext_get_or, take-append-drop}
use Rattle.std.proofs.lemmas.List.Elements.{filter-append}
use Rattle.std.proofs.lemmas.List.Filters.{length-filter_more}
use Rattle.std.proofs.lemmas.Grind.{get_or-set_at}
use Rattle.std.proofs.lemmas.Option.{slice_get_within, slice_get-get_or, get_or_from_slice_get}
use Rattle.std.proofs.Math.Seq.{map-set_same}
use Rattle.list_lemmas.proofs.ListOperations.{length-map_enumerate_from}
use Rattle.pals_base.specs.declared.basic_types.PortValue.{PortValue}
use Rattle.pals_base.specs.declared.basic_types.LinkNo.{LinkNo}
use Rattle.pals_base.specs.declared.basic_types.NodeNo.{NodeNo}
use Rattle.pals_model.specs.declared.design.Link.{Link}
use Rattle.pals_model.specs.declared.delays.Delays.{Delays}
use Rattle.pals_model.specs.declared.flight_copy.FlightCopy.{FlightCopy}
use Rattle.pals_model.specs.Delays.{delay_of}
use Rattle.link_buffers.specs.proof.Flights.{FlightState}
use Rattle.bus_machine.specs.declared.plan.Plan.{Plan}
use Rattle.bus_machine.specs.Plans.{plan_of, no_link}
use Rattle.bus_machine.specs.Nodes.{NodeState, round_of}
use Rattle.bus_machine.specs.NodeEvents.{message_from, messages_from}
use Rattle.bus_machine.specs.LinkEvents.{sent_copy}
use Rattle.bus_machine.specs.BusStates.{BusState, node_at, flight_at}
use Rattle.bus_machine.specs.RunParameters.{Run}
use Rattle.bus_machine.specs.Machine.{flight_after_send}
use Rattle.bus_machine.proofs.ListsAndOldestCopies.{numbered_at}
use Rattle.pals_bus.specs.proof.BusInvariant.{copies_in}
use Rattle.pals_bus.specs.proof.OutOfRangeDefaults.{no_flight, no_link_no}
use Rattle.pals_bus.specs.proof.RoundMessages.{is_from, place_of, NoLessRoom, with_copy, sent_flight, AreSent}
use Rattle.pals_bus.proofs.FlightRooms.{flight_is, no_less-set, NoLessElsewhere}

-- ---- room on the first of some links
pub record IsReserved (first : ℕ) (numbers : List LinkNo) (old new : List FlightState) : Type 0 where
  pub count : length new ≡ length old
  pub copies : copies_in new ≡ copies_in old
  pub less : NoLessRoom old new
  pub room : (k : ℕ) → k < first → 1 ≤ (slice_index_or new (slice_index_or numbers k no_link_no).0 no_flight).spare

-- the next link has a flight with as many copies, no less room, and room for one more
pub reserved_one : (k : ℕ) (numbers : List LinkNo) (old new : List FlightState) (link : LinkNo) (flight : FlightState)
    → IsReserved k numbers old new → link ≡ slice_index_or numbers k no_link_no → link.0 < length new
    → flight.copies ≡ (slice_index_or new link.0 no_flight).copies
    → (slice_index_or new link.0 no_flight).spare ≤ flight.spare → 1 ≤ flight.spare
    → IsReserved (k + 1) numbers old (slice_set new link.0 flight)
reserved_one k numbers old new link flight are is within same more some = record {
  count = length-set new link.0 flight ∙ are.count;
  copies = map-set_same (λ (f : FlightState). f.copies) new link.0 flight no_flight same ∙ are.copies;
  less = λ number. let a = are.less number in let b = no_less-set new link.0 flight within more number in
      omega (arith, a, b);
  room = λ j lt. elim (cases_lt j k) [
    | inl before ↦
        let a = are.room j before in
        let b = no_less-set new link.0 flight within more (slice_index_or numbers j no_link_no).0 in
        omega (arith, a, b)
    | inr at ↦
        let now : j ≡ k = omega (arith, lt, at) in
        let here : (slice_index_or numbers j no_link_no).0 ≡ link.0 =
        ap (λ (n : ℕ). (slice_index_or numbers n no_link_no).0) now ∙ ap (λ (l : LinkNo). l.0) (sym is) in
        let spare : (slice_index_or (slice_set new link.0 flight) (slice_index_or numbers j no_link_no).0
        no_flight).spare ≡ flight.spare =
        ap (λ (f : FlightState). f.spare)
        (get_or-set_at new link.0 (slice_index_or numbers j no_link_no).0 flight no_flight here within) in
        omega (arith, spare, some)
  ];
}

-- ---- places among the links from a node
pub place_next : (node k : ℕ) (links : List Link) → k < length links
    → place_of node links (k + 1) ≡ place_of node links k + cond (is_from node (slice_index_or links k no_link)) 1 0
place_next node k links within = length-filter_more (is_from node) links k no_link within

first_found : {X : Type 0} (b : Bool) (y d : X) (zs : List X) → b ≡ true → slice_index_or (cond b (y ∷ zs) zs) 0 d ≡ y
first_found true y d zs is = refl
first_found false y d zs is = absurd (false≢true is)

later_found : {X : Type 0} (b : Bool) (y d : X) (zs ws : List X)
    → slice_index_or (cond b (y ∷ zs) zs) (length (cond b (y ∷ ws) ws)) d ≡ slice_index_or zs (length ws) d
later_found true y d zs ws = refl
later_found false y d zs ws = refl

filtered_at : {X : Type 0} (p : X → Bool) (xs : List X) (k : ℕ) (x d : X) → slice_get xs k ≡ Some x → p x ≡ true
    → slice_index_or (filter p xs) (length (filter p (take k xs))) d ≡ x
filtered_at p [] k x d is passes = absurd (cc)
filtered_at p (y ∷ ys) zero x d is passes =
    let same : y ≡ x = cc in
    first_found (p y) y d (filter p ys) (ap p same ∙ passes) ∙ same
filtered_at p (y ∷ ys) (suc k) x d is passes =
    later_found (p y) y d (filter p ys) (filter p (take k ys)) ∙ filtered_at p ys k x d is passes

filtered_within : {X : Type 0} (p : X → Bool) (xs : List X) (k : ℕ) (d : X) → k < length xs
    → p (slice_index_or xs k d) ≡ true → length (filter p (take k xs)) < length (filter p xs)
filtered_within p xs k d within passes =
    let next : length (filter p (take (k + 1) xs)) ≡ length (filter p (take k xs)) + 1 =
    length-filter_more p xs k d within ∙ ap (λ b. length (filter p (take k xs)) + cond b 1 0) passes in
    let all : length (filter p xs) ≡ length (filter p (take (k + 1) xs) ++ filter p (drop (k + 1) xs)) =
    ap (λ ls. length (filter p ls)) (sym (take-append-drop (k + 1) xs))
    ∙ ap length (filter-append p (take (k + 1) xs) (drop (k + 1) xs)) in
    omega (arith, next, all, length-append (filter p (take (k + 1) xs)) (filter p (drop (k + 1) xs)))

pub place_within : (node k : ℕ) (links : List Link) → k < length links
    → is_from node (slice_index_or links k no_link) ≡ true
    → place_of node links k < length (filter (is_from node) links)
place_within node k links within from = filtered_within (is_from node) links k no_link within from

-- ---- sending
-- the next link is not the node's
pub sent_other : (node k : ℕ) (links : List Link) (delays : Delays) (round : ℕ) (reading : Option ℕ)
    (messages : List (List PortValue)) (old new : List FlightState)
    → AreSent node links delays round reading messages k old new → is_from node (slice_index_or links k no_link) ≡ false
    → AreSent node links delays round reading messages (k + 1) old new
sent_other node k links delays round reading messages old new are other = record {
  count = are.count;
  sent = λ number lt. elim (cases_lt number k) [
    | inl before ↦ are.sent number before
    | inr at ↦
        let here : number ≡ k = omega (arith, lt, at) in
        let flight = slice_index_or old number no_flight in
        are.others number at
        ∙ sym (ap (λ b. if b then with_copy flight
        (sent_copy round reading (delay_of delays number round)
        (slice_index_or messages (place_of node links number) [])) else flight)
        (ap (λ m. is_from node (slice_index_or links m no_link)) here ∙ other))
  ];
  others = λ number lt. are.others number (omega (arith, lt));
}

-- the next link is the node's
pub sent_one : (node k : ℕ) (links : List Link) (delays : Delays) (round : ℕ) (reading : Option ℕ)
    (messages : List (List PortValue)) (old new : List FlightState) (flight : FlightState)
    → AreSent node links delays round reading messages k old new → k < length new
    → is_from node (slice_index_or links k no_link) ≡ true
    → flight ≡ with_copy (slice_index_or new k no_flight)
    (sent_copy round reading (delay_of delays k round) (slice_index_or messages (place_of node links k) []))
    → AreSent node links delays round reading messages (k + 1) old (slice_set new k flight)
sent_one node k links delays round reading messages old new flight are within from is = record {
  count = length-set new k flight ∙ are.count;
  sent = λ number lt. elim (cases_eq number k) [
    | inl here ↦
        get_or-set_at new k number flight no_flight here within
        ∙ is
        ∙ ap (λ f. with_copy f (sent_copy round reading (delay_of delays k round)
        (slice_index_or messages (place_of node links k) []))) (are.others k (omega arith))
        ∙ sym (ap (λ b. if b then with_copy (slice_index_or old k no_flight)
        (sent_copy round reading (delay_of delays k round) (slice_index_or messages (place_of node links k) []))
        else slice_index_or old k no_flight) from)
        ∙ ap (λ m. sent_flight node links delays round reading messages m (slice_index_or old m no_flight)) (sym here)
    | inr other ↦ get_or-set_other new k number flight no_flight other
        ∙ are.sent number (let a : number ≢ k = other in
        elim (cases_lt number k) [ inl b ↦ b | inr c ↦ absurd (other (omega (arith, lt, c))) ])
  ];
  others =
      λ number lt. get_or-set_other new k number flight no_flight (λ here. absurd (omega (arith, here, lt)))
      ∙ are.others number (omega (arith, lt));
}

-- ---- the machine's result
message_at : (plan : Plan) (n : NodeState) (node number : ℕ) (links : List Link) (link : Link)
    → plan.out_links ≡ map (λ (l : Link). l.out_port) (filter (is_from node) links) → slice_get links number ≡ Some link
    → is_from node link ≡ true
    → slice_index_or (messages_from plan n) (place_of node links number) [] ≡ message_from plan n link.out_port
message_at plan n node number links link outs is from =
    let p = is_from node in
    let at = place_of node links number in
    let here : slice_index_or links number no_link ≡ link = get_or_from_slice_get links number link no_link is in
    let lt : at < length (filter p links) =
    place_within node number links (slice_get_within links number link is) (ap p here ∙ from) in
    let found : slice_index_or (filter p links) at no_link ≡ link = filtered_at p links number link no_link is from in
    let ports : length plan.out_links ≡ length (filter p links) = ap length outs
    ∙ length-map (filter p links) (λ (l : Link). l.out_port) in
    get_or-map (message_from plan n) plan.out_links at 0 [] (omega (arith, ports, lt))
    ∙ ap (message_from plan n)
    (ap (λ os. slice_index_or os at 0) outs ∙ get_or-map (λ (l : Link). l.out_port) (filter p links) at no_link 0 lt
    ∙ ap (λ (l : Link). l.out_port) found)

after_at : (run : Run) (s : BusState) (node : NodeNo) (reading : Option ℕ) (number : ℕ) (link : Link)
    (flight : FlightState) (b : Bool) (messages : List (List PortValue)) → slice_get run.design.links number ≡ Some link
    → is_from node.0 link ≡ b
    → flight_at s number ≡ flight.copies → messages ≡ messages_from (plan_of run.design node.0) (node_at s node.0)
    → (if b then with_copy flight
    (sent_copy (round_of (node_at s node.0)) reading (delay_of run.delays number (round_of (node_at s node.0)))
    (slice_index_or messages (place_of node.0 run.design.links number) [])) else flight).copies
    ≡ (if b then flight_at s number
    ++ sent_copy (round_of (node_at s node.0)) reading (delay_of run.delays number (round_of (node_at s node.0)))
    (message_from (plan_of run.design node.0) (node_at s node.0) link.out_port) ∷ [] else flight_at s number)
after_at run s node reading number link flight true messages is from copies told =
    let n = node_at s node.0 in
    let plan = plan_of run.design node.0 in
    ap₂ (λ (cs : List FlightCopy) (t : List PortValue). cs
    ++ sent_copy (round_of n) reading (delay_of run.delays number (round_of n)) t ∷ []) (sym copies)
    (ap (λ ms. slice_index_or ms (place_of node.0 run.design.links number) []) told
    ∙ message_at plan n node.0 number run.design.links link refl is from)
after_at run s node reading number link flight false messages is from copies told = sym copies

-- all flights after a send
pub sends_all : (run : Run) (s : BusState) (node : NodeNo) (reading : Option ℕ) (messages : List (List PortValue))
    (old new : List FlightState) → length old ≡ length run.design.links → s.flights ≡ copies_in old
    → messages ≡ messages_from (plan_of run.design node.0) (node_at s node.0)
    → AreSent node.0 run.design.links run.delays (round_of (node_at s node.0)) reading messages
    (length run.design.links) old new
    → copies_in new ≡ map (λ numbered. flight_after_send run s node reading numbered.0 numbered.1)
    (enumerate_from 0 run.design.links)
sends_all run s node reading messages old new count flights told are =
    let links = run.design.links in
    let f : ℕ × Link → List FlightCopy = λ numbered. flight_after_send run s node reading numbered.0 numbered.1 in
    let size : length (copies_in new) ≡ length links = length-map new (λ (k : FlightState). k.copies)
    ∙ are.count ∙ count in
    ext_get_or [] (copies_in new) (map f (enumerate_from 0 links)) (size ∙ sym (length-map_enumerate_from f 0 links))
    (λ number lt.
    let within : number < length links = omega (arith, size, lt) in
    let link = slice_index_or links number no_link in
    let is : slice_get links number ≡ Some link = slice_get-get_or links number no_link within in
    flight_is new number
    ∙ ap (λ (k : FlightState). k.copies) (are.sent number within)
    ∙ after_at run s node reading number link (slice_index_or old number no_flight) (is_from node.0 link) messages is
    refl (ap (λ fs. slice_index_or fs number []) flights ∙ flight_is old number) told
    ∙ sym (numbered_at f links number link [] is))

-- the other links keep their room
pub sent_elsewhere : (node : ℕ) (links : List Link) (delays : Delays) (round : ℕ) (reading : Option ℕ)
    (messages : List (List PortValue)) (old new : List FlightState)
    → AreSent node links delays round reading messages (length links) old new → NoLessElsewhere node links old new
sent_elsewhere node links delays round reading messages old new are number link is other =
    let here : slice_index_or links number no_link ≡ link = get_or_from_slice_get links number link no_link is in
    let not_from : is_from node (slice_index_or links number no_link) ≡ false = ap (is_from node) here
    ∙ false_from_ne_true (nat_eq link.source.0 node) (λ e. other (eqb-true link.source.0 node e)) in
    let flight = slice_index_or old number no_flight in
    let same =
    are.sent number (slice_get_within links number link is)
    ∙ ap (λ b. if b then with_copy flight
    (sent_copy round reading (delay_of delays number round)
    (slice_index_or messages (place_of node links number) [])) else flight) not_from in
    let spare : (slice_index_or new number no_flight).spare ≡ flight.spare = ap (λ (k : FlightState). k.spare) same in
    omega (arith, spare)
