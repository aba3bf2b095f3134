-- What the queues of due messages keep, and how much room they have, where queues, flights or nodes change.
use Rattle.std.proofs.Common.{◌≡◌, ◌≢◌, ◌∙◌, inl, inr, ◌⊎◌, ℕ, zero, suc, ◌+◌, ◌*◌, ◌<◌, ◌≤◌, nat_eq, Bool, true, false}
use Rattle.std.proofs.Common.{cond, List, [], ◌∷◌, length, Option, Some, None, refl, sym, ap, subst, arith}
use Rattle.std.specs.Prelude.{count_by, slice_set, slice_index_or, slice_get, not, ◌&&◌, if◌then◌else◌}
use Rattle.std.proofs.Math.Seq.{map-set_same}
use Rattle.std.proofs.lemmas.Bool.{cases_eq, cases_lt, eqb-true, and_parts, false≢true, cases_Bool, and_from, eq-eqb}
use Rattle.std.proofs.lemmas.Bool.{not-true, and_right}
use Rattle.std.proofs.lemmas.List.{length-map, length-set, get_or-map, get_or-set_other, get_or_past}
use Rattle.std.proofs.lemmas.List.Sums.{sum_by-cons, sum_by-drop_more}
use Rattle.std.proofs.lemmas.Grind.{get_or-set_at}
use Rattle.std.proofs.lemmas.Option.{get_or_from_slice_get}
use Rattle.pals_base.specs.declared.limits.TheConstants.{PORTS}
use Rattle.pals_base.specs.declared.basic_types.LinkNo.{LinkNo}
use Rattle.pals_model.specs.declared.design.Component.{Component}
use Rattle.pals_model.specs.declared.design.DesignParts.{DesignParts}
use Rattle.pals_model.specs.declared.design.Link.{Link}
use Rattle.pals_model.specs.PortKindsAndRates.{ins_in}
use Rattle.pals_model.specs.DesignRules.{IsComponent, IsDesign, port_place}
use Rattle.link_buffers.specs.proof.Flights.{FlightState}
use Rattle.link_buffers.specs.proof.DueQueues.{QueueState, is_entry}
use Rattle.bus_machine.specs.Plans.{no_link}
use Rattle.pals_node.specs.proof.NodeAndJobValues.{NodeValue}
use Rattle.pals_bus.specs.proof.OutOfRangeDefaults.{no_node_value, no_queue, no_link_no}
use Rattle.pals_bus.specs.proof.BusInvariant.{copies_in}
use Rattle.pals_bus.specs.proof.DueQueues.{AreQueues, AreQueuesAmid, HasQueueRoomFor, NoLessQueueRoom, entries_in}
use Rattle.pals_bus.specs.proof.DueQueues.{is_awaited, is_copy_of, is_between}
use Rattle.pals_bus.proofs.FlightRooms.{flight_is}

-- ---- counts

one-less : (a b : Bool) → (a ≡ true → b ≡ true) → cond a 1 0 ≤ cond b 1 0
one-less true true implies = omega arith
one-less true false implies = absurd (false≢true (implies refl))
one-less false true implies = omega arith
one-less false false implies = omega arith

module _ {X : Type 0} where
  -- a test that passes wherever another does passes as often at least
  pub count-less : (p q : X → Bool) (xs : List X)
      → ((i : ℕ) (d : X) → i < length xs → p (slice_index_or xs i d) ≡ true → q (slice_index_or xs i d) ≡ true)
      → count_by p xs ≤ count_by q xs
  count-less p q [] implies = omega arith
  count-less p q (x ∷ xs) implies =
      let rest = count-less p q xs (λ i d lt. implies (suc i) d (omega (arith, lt))) in
      let here = one-less (p x) (q x) (implies 0 x (omega arith)) in
      omega (arith, sum_by-cons (λ y. cond (p y) 1 0) x xs, sum_by-cons (λ y. cond (q y) 1 0) x xs, rest, here)

  -- in a list that rises, few have a number within a range
  pub rising_few : (p : X → Bool) (f : X → ℕ) (xs : List X) (low high : ℕ) → low ≤ high
      → ((i j : ℕ) (d : X) → i < j → j < length xs → f (slice_index_or xs i d) < f (slice_index_or xs j d))
      → ((i : ℕ) (d : X) → i < length xs → p (slice_index_or xs i d) ≡ true
      → (low ≤ f (slice_index_or xs i d)) × (f (slice_index_or xs i d) < high)) → count_by p xs + low ≤ high
  rising_few p f [] low high le rises within = omega (arith, le)
  rising_few p f (x ∷ xs) low high le rises within = elim (cases_Bool (p x)) [
    | inl holds ↦
        let here = within 0 x (omega arith) holds in
        let least = here.0 in
        let most = here.1 in
        let rest =
        rising_few p f xs (f x + 1) high (omega (arith, most))
        (λ i j d lt to. rises (suc i) (suc j) d (omega (arith, lt)) (omega (arith, to)))
        (λ i d lt passes. let later = rises 0 (suc i) d (omega arith) (omega (arith, lt)) in
        (omega (arith, later), (within (suc i) d (omega (arith, lt)) passes).1)) in
        let one : cond {A = ℕ} (p x) 1 0 ≡ 1 = ap (λ b. cond {A = ℕ} b 1 0) holds in
        omega (arith, sum_by-cons (λ y. cond (p y) 1 0) x xs, one, rest, least)
    | inr fails ↦
        let rest =
        rising_few p f xs low high le
        (λ i j d lt to. rises (suc i) (suc j) d (omega (arith, lt)) (omega (arith, to)))
        (λ i d lt. within (suc i) d (omega (arith, lt))) in
        let none : cond {A = ℕ} (p x) 1 0 ≡ 0 = ap (λ b. cond {A = ℕ} b 1 0) fails in
        omega (arith, sum_by-cons (λ y. cond (p y) 1 0) x xs, none, rest)
  ]

  none_here : (p : X → Bool) (x : X) (xs : List X) → p x ≡ false
      → ((i : ℕ) (d : X) → i < length xs → p (slice_index_or xs i d) ≡ false) → (i : ℕ) (d : X) → i < length (x ∷ xs)
      → p (slice_index_or (x ∷ xs) i d) ≡ false
  none_here p x xs fails none zero d lt = fails
  none_here p x xs fails none (suc i) d lt = none i d (omega (arith, lt))

  -- one of a list passes, or none does
  pub one_or_none : (p : X → Bool) (xs : List X)
      → ((i : ℕ) × (x : X) × (slice_get xs i ≡ Some x) × (p x ≡ true))
      ⊎ ((i : ℕ) (d : X) → i < length xs → p (slice_index_or xs i d) ≡ false)
  one_or_none p [] = inr (λ i d lt. absurd (omega (arith, lt)))
  one_or_none p (x ∷ xs) = elim (cases_Bool (p x)) [
    | inl holds ↦ inl (0, x, refl, holds)
    | inr fails ↦ elim (one_or_none p xs) [
      | inl found ↦ inl (suc found.0, found.1, found.2, found.3)
      | inr none ↦ inr (none_here p x xs fails none)
    ]
  ]

-- ---- queues
pub entries_at : (queues : List QueueState) (node : ℕ)
    → slice_index_or (entries_in queues) node [] ≡ (slice_index_or queues node no_queue).entries
entries_at queues node = elim (cases_lt node (length queues)) [
  | inl within ↦ get_or-map (λ (k : QueueState). k.entries) queues node no_queue [] within
  | inr past ↦
      get_or_past (entries_in queues) node []
      (let size = length-map queues (λ (k : QueueState). k.entries) in omega (arith, size, past))
      ∙ sym (ap (λ (k : QueueState). k.entries) (get_or_past queues node no_queue past))
]

-- the same entries, with no less room
pub queues_more : (links : List Link) (nodes : List NodeValue) (flights : List FlightState) (old new : List QueueState)
    → AreQueues links nodes flights old → entries_in new ≡ entries_in old → NoLessQueueRoom old new
    → AreQueues links nodes flights new
queues_more links nodes flights old new are same more = record {
  count =
      sym (length-map new (λ (k : QueueState). k.entries)) ∙ ap length same
      ∙ length-map old (λ (k : QueueState). k.entries) ∙ are.count;
  entries =
      λ node e. ap (count_by (is_entry e))
      (sym (entries_at new node) ∙ ap (λ es. slice_index_or es node []) same ∙ entries_at old node)
      ∙ are.entries node e;
  room = λ node. let before = are.room node in let less = more node in omega (arith, before, less);
}

-- flights with the same copies
pub queues_copies : (links : List Link) (nodes : List NodeValue) (old new : List FlightState) (queues : List QueueState)
    → AreQueues links nodes old queues → copies_in new ≡ copies_in old → AreQueues links nodes new queues
queues_copies links nodes old new queues are same = record {
  count = are.count;
  entries = λ node e.
      are.entries node e
      ∙ ap (λ cs. if nat_eq (slice_index_or links e.link.0 no_link).target.0 node then count_by
      (is_copy_of e) cs else 0)
      (sym (flight_is old e.link.0) ∙ ap (λ cs. slice_index_or cs e.link.0 []) (sym same) ∙ flight_is new e.link.0);
  room = are.room;
}

-- ---- one node changes
is_unsent_at : (nodes : List NodeValue) (at k : ℕ) (m : NodeValue) → at < length nodes
    → (m.state.sent ≡ false → (slice_index_or nodes at no_node_value).state.sent ≡ false)
    → (slice_index_or (slice_set nodes at m) k no_node_value).state.sent ≡ false
    → (slice_index_or nodes k no_node_value).state.sent ≡ false
is_unsent_at nodes at k m within before unsent = elim (cases_eq k at) [
  | inl e ↦
      ap (λ j. (slice_index_or nodes j no_node_value).state.sent) e
      ∙ before (sym (ap (λ (n : NodeValue). n.state.sent) (get_or-set_at nodes at k m no_node_value e within)) ∙ unsent)
  | inr other ↦ sym (ap (λ (n : NodeValue). n.state.sent) (get_or-set_other nodes at k m no_node_value other)) ∙ unsent
]

-- a node that had sent still has
pub queues-set : (links : List Link) (nodes : List NodeValue) (flights : List FlightState) (queues : List QueueState)
    (at : ℕ) (m : NodeValue) → AreQueues links nodes flights queues → at < length nodes
    → (m.state.sent ≡ false → (slice_index_or nodes at no_node_value).state.sent ≡ false)
    → AreQueues links (slice_set nodes at m) flights queues
queues-set links nodes flights queues at m are within before = record {
  count = are.count ∙ sym (length-set nodes at m);
  entries = are.entries;
  room = λ node.
      let room = are.room node in
      let less =
      count-less (is_awaited (slice_set nodes at m) node) (is_awaited nodes node) links
      (λ i d lt passes.
      let link = slice_index_or links i d in
      let parts = and_parts (nat_eq link.target.0 node) _ passes in
      and_from (nat_eq link.target.0 node) _ parts.0
      (ap not (is_unsent_at nodes at link.source.0 m within before (not-true _ parts.1)))) in
      omega (arith, room, less);
}

-- the links into a node are few
abbrev pub IsFewInto : List Link → Type 0
IsFewInto links = (node : ℕ) → count_by (λ (link : Link). nat_eq link.target.0 node) links ≤ PORTS

-- a node that starts a round: each reader of the node has room for a message on each in port
pub queues_started : (links : List Link) (nodes : List NodeValue) (flights : List FlightState)
    (queues : List QueueState) (at : ℕ) (m : NodeValue) → AreQueues links nodes flights queues → IsFewInto links
    → HasQueueRoomFor at links queues
    → AreQueues links (slice_set nodes at m) flights queues
queues_started links nodes flights queues at m are few rooms = record {
  count = are.count ∙ sym (length-set nodes at m);
  entries = are.entries;
  room = λ node. elim (one_or_none (λ (link : Link). nat_eq link.target.0 node && nat_eq link.source.0 at) links) [
    | inl found ↦
        let link = found.1 in
        let parts = and_parts (nat_eq link.target.0 node) _ found.3 in
        let all = few node in
        let less =
        count-less (is_awaited (slice_set nodes at m) node) (λ (l : Link). nat_eq l.target.0 node) links
        (λ i d lt passes. (and_parts (nat_eq (slice_index_or links i d).target.0 node) _ passes).0) in
        let room = rooms found.0 link found.2 (eqb-true link.source.0 at parts.1) in
        let here : (slice_index_or queues link.target.0 no_queue).spare ≡ (slice_index_or queues node no_queue).spare =
        ap (λ k. (slice_index_or queues k no_queue).spare) (eqb-true link.target.0 node parts.0) in
        omega (arith, all, less, room, here)
    | inr none ↦
        let room = are.room node in
        let less =
        count-less (is_awaited (slice_set nodes at m) node) (is_awaited nodes node) links
        (λ i d lt passes.
        let link = slice_index_or links i d in
        let parts = and_parts (nat_eq link.target.0 node) _ passes in
        and_from (nat_eq link.target.0 node) _ parts.0
        (elim (cases_eq link.source.0 at) [
          | inl e ↦ absurd (false≢true
              (sym (none i d lt) ∙ and_from (nat_eq link.target.0 node) _ parts.0 (eq-eqb link.source.0 at e)))
          | inr other ↦ sym (ap (λ (n : NodeValue). not n.state.sent)
              (get_or-set_other nodes at link.source.0 m no_node_value other)) ∙ parts.1
        ])) in
        omega (arith, room, less)
  ];
}

-- ---- the messages of a round
two-less : (a b c : Bool) → (a ≡ true → b ≡ false) → (a ≡ true → c ≡ true) → (b ≡ true → c ≡ true)
    → cond a 1 0 + cond b 1 0 ≤ cond c 1 0
two-less true true c apart left right = absurd (false≢true (sym (apart refl)))
two-less true false true apart left right = omega arith
two-less true false false apart left right = absurd (false≢true (left refl))
two-less false true true apart left right = omega arith
two-less false true false apart left right = absurd (false≢true (right refl))
two-less false false true apart left right = omega arith
two-less false false false apart left right = omega arith

-- two tests that never pass together pass as often as a third at most
count-two : {X : Type 0} (p q r : X → Bool) (xs : List X)
    → ((i : ℕ) (d : X) → i < length xs
    → cond (p (slice_index_or xs i d)) 1 0 + cond (q (slice_index_or xs i d)) 1 0
    ≤ cond (r (slice_index_or xs i d)) 1 0) → count_by p xs + count_by q xs ≤ count_by r xs
count-two p q r [] each = omega arith
count-two p q r (x ∷ xs) each =
    let rest = count-two p q r xs (λ i d lt. each (suc i) d (omega (arith, lt))) in
    let here = each 0 x (omega arith) in
    omega (
      arith,
      sum_by-cons (λ y. cond (p y) 1 0) x xs,
      sum_by-cons (λ y. cond (q y) 1 0) x xs,
      sum_by-cons (λ y. cond (r y) 1 0) x xs,
      rest,
      here,
    )

-- before the first message of a round, where the round counts as sent
pub queues_amid : (links : List Link) (nodes : List NodeValue) (flights : List FlightState) (queues : List QueueState)
    (source : ℕ) (m : NodeValue) → AreQueues links nodes flights queues → source < length nodes
    → (slice_index_or nodes source no_node_value).state.sent ≡ false → m.state.sent ≡ true
    → AreQueuesAmid source 0 links (slice_set nodes source m) flights queues
queues_amid links nodes flights queues source m are within unsent sent = record {
  count = are.count ∙ sym (length-set nodes source m);
  entries = are.entries;
  room = λ node.
      let room = are.room node in
      let less =
      count-two (is_between source node) (is_awaited (slice_set nodes source m) node) (is_awaited nodes node) links
      (λ i d lt.
      let link = slice_index_or links i d in
      let now = (slice_index_or (slice_set nodes source m) link.source.0 no_node_value).state.sent in
      two-less (is_between source node link) (is_awaited (slice_set nodes source m) node link)
      (is_awaited nodes node link)
      (λ from.
      let e = eqb-true link.source.0 source (and_parts (nat_eq link.source.0 source) _ from).0 in
      and_right (nat_eq link.target.0 node) (not now)
      (ap (λ (n : NodeValue). not n.state.sent) (get_or-set_at nodes source link.source.0 m no_node_value e within)
      ∙ ap not sent))
      (λ from.
      let parts = and_parts (nat_eq link.source.0 source) _ from in
      let e = eqb-true link.source.0 source parts.0 in
      and_from (nat_eq link.target.0 node) _ parts.1
      (ap (λ k. not (slice_index_or nodes k no_node_value).state.sent) e ∙ ap not unsent))
      (λ awaited.
      let parts = and_parts (nat_eq link.target.0 node) _ awaited in
      and_from (nat_eq link.target.0 node) _ parts.0
      (ap not (is_unsent_at nodes source link.source.0 m within (λ _. unsent) (not-true _ parts.1))))) in
      omega (arith, room, less);
}

-- the next link is not the node's
pub amid_other : (source k : ℕ) (links : List Link) (nodes : List NodeValue) (flights : List FlightState)
    (queues : List QueueState) → AreQueuesAmid source k links nodes flights queues → k < length links
    → (slice_index_or links k no_link).source.0 ≢ source
    → AreQueuesAmid source (k + 1) links nodes flights queues
amid_other source k links nodes flights queues are within other = record {
  count = are.count;
  entries = are.entries;
  room = λ node. let room = are.room node in
      let more = sum_by-drop_more (λ l. cond (is_between source node l) 1 0) links k no_link within in
      omega (arith, room, more);
}

-- a queue has room for the message of the next link
pub amid_room : (source k : ℕ) (links : List Link) (nodes : List NodeValue) (flights : List FlightState)
    (queues : List QueueState) → AreQueuesAmid source k links nodes flights queues → k < length links
    → (slice_index_or links k no_link).source.0 ≡ source
    → 1 ≤ (slice_index_or queues (slice_index_or links k no_link).target.0 no_queue).spare
amid_room source k links nodes flights queues are within from =
    let link = slice_index_or links k no_link in
    let room = are.room link.target.0 in
    let more = sum_by-drop_more (λ l. cond (is_between source link.target.0 l) 1 0) links k no_link within in
    let one : cond {A = ℕ} (is_between source link.target.0 link) 1 0 ≡ 1 =
    ap (λ b. cond {A = ℕ} b 1 0)
    (and_from (nat_eq link.source.0 source) (nat_eq link.target.0 link.target.0) (eq-eqb link.source.0 source from)
    (eq-eqb link.target.0 link.target.0 refl)) in
    omega (arith, room, more, one)

-- ---- the links into a node
few_into_from : (design : DesignParts) → IsDesign design
    → ((i : ℕ) (d : Link) → i < length design.links → (slice_index_or design.links i d).in_port < PORTS)
    → IsFewInto design.links
few_into_from design is low node =
    let all =
    rising_few (λ (link : Link). nat_eq link.target.0 node) (λ link. port_place link.target.0 link.in_port) design.links
    (PORTS * node) (PORTS * node + PORTS) (omega arith) is.links.order
    (λ i d lt here.
    let link = slice_index_or design.links i d in
    let port = low i d lt in
    let same = ap (λ k. PORTS * k) (eqb-true link.target.0 node here) in
    (omega (arith, same), omega (arith, same, port))) in
    omega (arith, all)

ports_few : (o : Option Component) (port : ℕ)
    → ((c : Component) → o ≡ Some c → length c.behaviour.ins + length c.behaviour.outs ≤ PORTS) → port < ins_in o
    → port < PORTS
ports_few None port small lt = absurd (omega (arith, lt))
ports_few (Some c) port small lt = let few = small c refl in omega (arith, few, lt)

pub few_into : (design : DesignParts) → IsDesign design → IsFewInto design.links
few_into design is =
    few_into_from design is
    (λ i d lt.
    let link = slice_index_or design.links i d in
    let target = (is.links.each i d lt).target in
    ports_few (slice_get design.components link.target.0) link.in_port
    (λ c is_c. (subst (IsComponent design.period) (get_or_from_slice_get design.components link.target.0 c c is_c)
    (is.components.each link.target.0 c target.node_is)).small.ports) target.port_is)

-- ---- room in the queues that the first of some links go to
pub record IsQueuesReserved (first : ℕ) (numbers : List LinkNo) (links : List Link)
    (old new : List QueueState) : Type 0 where
  pub count : length new ≡ length old
  pub entries : entries_in new ≡ entries_in old
  pub less : NoLessQueueRoom old new
  pub room : (k : ℕ) → k < first
      → PORTS ≤ (slice_index_or new (slice_index_or links (slice_index_or numbers k no_link_no).0 no_link).target.0
      no_queue).spare

pub queue_more : (queues : List QueueState) (at k : ℕ) (queue : QueueState) → at < length queues
    → (slice_index_or queues at no_queue).spare ≤ queue.spare
    → (slice_index_or queues k no_queue).spare ≤ (slice_index_or (slice_set queues at queue) k no_queue).spare
queue_more queues at k queue within more = elim (cases_eq k at) [
  | inl e ↦
      let new : (slice_index_or (slice_set queues at queue) k no_queue).spare ≡ queue.spare =
      ap (λ (q : QueueState). q.spare) (get_or-set_at queues at k queue no_queue e within) in
      let old : (slice_index_or queues k no_queue).spare ≡ (slice_index_or queues at no_queue).spare =
      ap (λ j. (slice_index_or queues j no_queue).spare) e in
      omega (arith, new, old, more)
  | inr other ↦
      let new : (slice_index_or (slice_set queues at queue) k no_queue).spare
      ≡ (slice_index_or queues k no_queue).spare =
      ap (λ (q : QueueState). q.spare) (get_or-set_other queues at k queue no_queue other) in
      omega (arith, new)
]

-- the next link goes to a queue with the same entries, no less room, and room for a message on each in port
pub queues_reserved_one : (k : ℕ) (numbers : List LinkNo) (links : List Link) (old new : List QueueState)
    (link : LinkNo) (target : ℕ) (queue : QueueState) → IsQueuesReserved k numbers links old new
    → link ≡ slice_index_or numbers k no_link_no → target ≡ (slice_index_or links link.0 no_link).target.0
    → target < length new → queue.entries ≡ (slice_index_or new target no_queue).entries
    → (slice_index_or new target no_queue).spare ≤ queue.spare → PORTS ≤ queue.spare
    → IsQueuesReserved (k + 1) numbers links old (slice_set new target queue)
queues_reserved_one k numbers links old new link target queue are is is_target within same more some =
    let target_of = λ (n : ℕ). (slice_index_or links (slice_index_or numbers n no_link_no).0 no_link).target.0 in
    record {
      count = length-set new target queue ∙ are.count;
      entries = map-set_same (λ (q : QueueState). q.entries) new target queue no_queue same ∙ are.entries;
      less = λ j. let a = are.less j in let b = queue_more new target j queue within more in omega (arith, a, b);
      room = λ j lt. elim (cases_lt j k) [
        | inl before ↦
            let a = are.room j before in
            let b = queue_more new target (target_of j) queue within more in
            omega (arith, a, b)
        | inr at ↦
            let now : j ≡ k = omega (arith, lt, at) in
            let here : target_of j ≡ target = ap target_of now
            ∙ ap (λ (l : LinkNo). (slice_index_or links l.0 no_link).target.0) (sym is) ∙ sym is_target in
            let spare : (slice_index_or (slice_set new target queue) (target_of j) no_queue).spare ≡ queue.spare =
            ap (λ (q : QueueState). q.spare) (get_or-set_at new target (target_of j) queue no_queue here within) in
            omega (arith, spare, some)
      ];
    }
