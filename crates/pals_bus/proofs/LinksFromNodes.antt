-- For `Outgoing::new`: the links from each node of a design, by their numbers.
use Rattle.std.proofs.Common.{◌≡◌, ◌∙◌, inl, inr, ℕ, zero, suc, ◌+◌, ◌<◌, ◌≤◌, Bool, true, false, cond, List, [], ◌∷◌}
use Rattle.std.proofs.Common.{◌++◌, length, map, take, slice_get, Some, All, refl, sym, ap, subst, arith}
use Rattle.std.specs.Prelude.{filter, slice_set, slice_index_or}
use Rattle.std.specs.List.{enumerate_from}
use Rattle.std.proofs.lemmas.Bool.{cases_eq, eqb-true, false≢true, false_from_ne_true, eq-eqb}
use Rattle.std.proofs.lemmas.List.{append-nil, length-map, length-set, map-append, get_or-set_other, take_more}
use Rattle.std.proofs.lemmas.List.Elements.{All-nil, All-cons, All-head, All-tail, filter-append}
use Rattle.std.proofs.lemmas.Grind.{get_or-set_at}
use Rattle.std.proofs.lemmas.Option.{slice_get_within, get_or_from_slice_get}
use Rattle.list_lemmas.proofs.ListOperations.{enumerate_from-append, length-take_within}
use Rattle.list_lemmas.proofs.ElementPositions.{get_or-map_constant}
use Rattle.pals_base.specs.declared.limits.TheConstants.{PORTS}
use Rattle.pals_base.specs.declared.basic_types.LinkNo.{LinkNo}
use Rattle.pals_model.specs.declared.design.Link.{Link}
use Rattle.pals_model.specs.declared.design.DesignParts.{DesignParts}
use Rattle.pals_model.specs.DesignRules.{IsDesign}
use Rattle.link_buffers.specs.proof.Flights.{FlightState}
use Rattle.link_buffers.specs.proof.DueQueues.{QueueState}
use Rattle.bus_machine.specs.Plans.{no_link}
use Rattle.pals_bus.specs.proof.OutOfRangeDefaults.{no_flight, no_queue}
use Rattle.pals_bus.specs.proof.RoundMessages.{is_from, HasRoomFor, HasRoomOn}
use Rattle.pals_bus.specs.proof.DueQueues.{HasQueueRoomFor, HasQueueRoomOn}
use Rattle.pals_bus.specs.proof.LinksFromNodes.{AreOutgoing, links_from, no_numbers, number_of}

-- the numbers of the links from a node, if the first has this number
abbrev pub numbers_from : ℕ → ℕ → List Link → List LinkNo
numbers_from node first links =
    map number_of (filter (λ (numbered : ℕ × Link). is_from node numbered.1) (enumerate_from first links))

abbrev pub numbered : ℕ → LinkNo
numbered number = record { 0 = number }

-- ---- one more link

from_push : (node : ℕ) (links : List Link) (link : Link)
    → links_from node (links ++ link ∷ []) ≡ links_from node links ++ numbers_from node (length links) (link ∷ [])
from_push node links link =
    let own = λ (numbered : ℕ × Link). is_from node numbered.1 in
    let first = enumerate_from 0 links in
    let last = enumerate_from (0 + length links) (link ∷ []) in
    let e : 0 + length links ≡ length links = omega arith in
    ap (λ es. map number_of (filter own es)) (enumerate_from-append 0 links (link ∷ []))
    ∙ ap (map number_of) (filter-append own first last)
    ∙ map-append number_of (filter own first) (filter own last)
    ∙ ap (λ n. links_from node links ++ numbers_from node n (link ∷ [])) e

from_more : (node k : ℕ) (links : List Link) → k < length links
    → links_from node (take (k + 1) links)
    ≡ links_from node (take k links) ++ numbers_from node k (slice_index_or links k no_link ∷ [])
from_more node k links within =
    let link = slice_index_or links k no_link in
    ap (links_from node) (take_more links k no_link within)
    ∙ from_push node (take k links) link
    ∙ ap (λ n. links_from node (take k links) ++ numbers_from node n (link ∷ [])) (length-take_within links k within)

own_more : (node k : ℕ) (links : List Link) → k < length links → is_from node (slice_index_or links k no_link) ≡ true
    → links_from node (take (k + 1) links) ≡ links_from node (take k links) ++ numbered k ∷ []
own_more node k links within own =
    let link = slice_index_or links k no_link in
    from_more node k links within
    ∙ ap (λ b. links_from node (take k links) ++ map number_of (cond b ((k, link) ∷ []) [])) own

other_more : (node k : ℕ) (links : List Link) → k < length links → is_from node (slice_index_or links k no_link) ≡ false
    → links_from node (take (k + 1) links) ≡ links_from node (take k links)
other_more node k links within other =
    let link = slice_index_or links k no_link in
    from_more node k links within
    ∙ ap (λ b. links_from node (take k links) ++ map number_of (cond b ((k, link) ∷ []) [])) other
    ∙ append-nil (links_from node (take k links))

pub outgoing_none : {X : Type 0} (xs : List X) (links : List Link) (lists : List (List LinkNo))
    → lists ≡ map (λ (_ : X). no_numbers) xs → AreOutgoing (length xs) (take 0 links) lists
outgoing_none {X = X} xs links lists is = record {
  count = ap length is ∙ length-map xs (λ (_ : X). no_numbers);
  each = λ node lt. ap (λ ls. slice_index_or ls node no_numbers) is ∙ get_or-map_constant no_numbers xs node;
}

pub outgoing_more : (nodes k source : ℕ) (links : List Link) (lists : List (List LinkNo)) (list : List LinkNo)
    → AreOutgoing nodes (take k links) lists → k < length links → source ≡ (slice_index_or links k no_link).source.0
    → source < nodes
    → list ≡ slice_index_or lists source no_numbers ++ numbered k ∷ []
    → AreOutgoing nodes (take (k + 1) links) (slice_set lists source list)
outgoing_more nodes k source links lists list are within is_source inside is =
    let link = slice_index_or links k no_link in
    let count = are.count in
    record {
      count = length-set lists source list ∙ are.count;
      each = λ node lt. elim (cases_eq node source) [
        | inl here ↦
            get_or-set_at lists source node list no_numbers here (omega (arith, count, inside))
            ∙ is
            ∙ ap (λ n. slice_index_or lists n no_numbers ++ numbered k ∷ []) (sym here)
            ∙ ap (λ ns. ns ++ numbered k ∷ []) (are.each node lt)
            ∙ sym (own_more node k links within (eq-eqb link.source.0 node (sym is_source ∙ sym here)))
        | inr other ↦
            get_or-set_other lists source node list no_numbers other
            ∙ are.each node lt
            ∙ sym (other_more node k links within
            (false_from_ne_true (is_from node link) (λ own. other (sym (is_source ∙ eqb-true link.source.0 node own)))))
      ];
    }

-- ---- the links of a design
pub source_within : (design : DesignParts) (link : ℕ) → IsDesign design → link < length design.links
    → (slice_index_or design.links link no_link).source.0 < length design.components
source_within design link is within = (is.links.each link no_link within).source.node_is

-- ---- properties of the links from a node
all_if : (P : LinkNo → Type 0) (b : Bool) (e : ℕ × Link) (es : List (ℕ × Link)) → (b ≡ true → P (number_of e))
    → All P (map number_of es) → All P (map number_of (cond b (e ∷ es) es))
all_if P true e es holds all = All-cons P (number_of e) (map number_of es) (holds refl) all
all_if P false e es holds all = all

all_later : (P : LinkNo → Type 0) (b : Bool) (e : ℕ × Link) (es : List (ℕ × Link))
    → All P (map number_of (cond b (e ∷ es) es)) → All P (map number_of es)
all_later P true e es all = All-tail P (number_of e) (map number_of es) all
all_later P false e es all = all

all_first : (P : LinkNo → Type 0) (b : Bool) (e : ℕ × Link) (es : List (ℕ × Link)) → b ≡ true
    → All P (map number_of (cond b (e ∷ es) es)) → P (number_of e)
all_first P true e es is all = All-head P (number_of e) (map number_of es) all
all_first P false e es is all = absurd (false≢true is)

all_numbers : (P : LinkNo → Type 0) (node from : ℕ) (links : List Link)
    → ((k n : ℕ) (link : Link) → n ≡ from + k → slice_get links k ≡ Some link → is_from node link ≡ true
    → P (numbered n)) → All P (numbers_from node from links)
all_numbers P node from [] each = All-nil P
all_numbers P node from (x ∷ xs) each =
    let own = λ (e : ℕ × Link). is_from node e.1 in
    all_if P (is_from node x) (from, x) (filter own (enumerate_from (from + 1) xs))
    (λ is. each 0 from x (omega arith) refl is)
    (all_numbers P node (from + 1) xs (λ k n link at is_link is. each (suc k) n link (omega (arith, at)) is_link is))

-- it holds for each number if it holds for each link from the node
pub all_from : (P : LinkNo → Type 0) (node : ℕ) (links : List Link)
    → ((k : ℕ) (link : Link) → slice_get links k ≡ Some link → is_from node link ≡ true → P (numbered k))
    → All P (links_from node links)
all_from P node links each =
    all_numbers P node 0 links
    (λ k n link at is_link is.
    subst (λ m. P (numbered m)) (let e : k ≡ n = omega (arith, at) in e) (each k link is_link is))

of_number : (P : LinkNo → Type 0) (node from k n : ℕ) (links : List Link) (link : Link)
    → All P (numbers_from node from links) → n ≡ from + k → slice_get links k ≡ Some link → is_from node link ≡ true
    → P (numbered n)
of_number P node from k n [] link all at is_link is = absurd (cc)
of_number P node from zero n (x ∷ xs) link all at is_link is =
    let own = λ (e : ℕ × Link). is_from node e.1 in
    let same : x ≡ link = cc in
    subst (λ m. P (numbered m)) (let e : from ≡ n = omega (arith, at) in e)
    (all_first P (is_from node x) (from, x) (filter own (enumerate_from (from + 1) xs))
    (ap (is_from node) same ∙ is) all)
of_number P node from (suc k) n (x ∷ xs) link all at is_link is =
    let own = λ (e : ℕ × Link). is_from node e.1 in
    of_number P node (from + 1) k n xs link
    (all_later P (is_from node x) (from, x) (filter own (enumerate_from (from + 1) xs)) all)
    (omega (arith, at)) is_link is

-- it holds for a link from the node if it holds for each number
pub of_one : (P : LinkNo → Type 0) (node k : ℕ) (links : List Link) (link : Link) → All P (links_from node links)
    → slice_get links k ≡ Some link → link.source.0 ≡ node → P (numbered k)
of_one P node k links link all is_link is =
    of_number P node 0 k k links link all (omega arith) is_link (eq-eqb link.source.0 node is)

pub numbers_within : (node : ℕ) (links : List Link)
    → All (λ (link : LinkNo). link.0 < length links) (links_from node links)
numbers_within node links =
    all_from (λ (link : LinkNo). link.0 < length links) node links
    (λ k link is_link is. slice_get_within links k link is_link)

-- room on the links of these numbers is room on each link from the node
pub room_for : (node : ℕ) (links : List Link) (flights : List FlightState) → HasRoomOn (links_from node links) flights
    → HasRoomFor node (length links) links flights
room_for node links flights room =
    λ number link lt is from.
    of_one (λ (l : LinkNo). 1 ≤ (slice_index_or flights l.0 no_flight).spare) node number links link room is from

pub queue_room_for : (node : ℕ) (links : List Link) (queues : List QueueState)
    → HasQueueRoomOn (links_from node links) links queues → HasQueueRoomFor node links queues
queue_room_for node links queues room = λ number link is from.
    let here =
    of_one (λ (l : LinkNo). PORTS
    ≤ (slice_index_or queues (slice_index_or links l.0 no_link).target.0 no_queue).spare) node number links link
    room is from in
    let same : (slice_index_or queues (slice_index_or links number no_link).target.0 no_queue).spare
    ≡ (slice_index_or queues link.target.0 no_queue).spare =
    ap (λ (l : Link). (slice_index_or queues l.target.0 no_queue).spare)
    (get_or_from_slice_get links number link no_link is) in
    omega (arith, here, same)
