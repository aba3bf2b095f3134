-- The queue of a node: all copies in flight to it that have a due reading, in rising order.
use Rattle.std.specs.Prelude.{◌≡◌, ℕ, ◌+◌, ◌-◌, ◌≤◌, nat_eq, nat_lt, Bool, false, ◌&&◌, ◌||◌, not, if◌then◌else◌, List}
use Rattle.std.specs.Prelude.{length, map, drop, filter, count_by, All, AllPairs, IsPermutation, Option, Some, None}
use Rattle.std.specs.Prelude.{slice_get, slice_index_or}
use Rattle.std.specs.Option.{option_map_or}
use Rattle.pals_base.specs.declared.limits.TheConstants.{PORTS}
use Rattle.pals_base.specs.declared.basic_types.LinkNo.{LinkNo}
use Rattle.pals_model.specs.declared.design.Link.{Link}
use Rattle.pals_model.specs.declared.flight_copy.FlightCopy.{FlightCopy}
use Rattle.link_buffers.specs.declared.due_queue.DueEntry.{DueEntry}
use Rattle.link_buffers.specs.proof.DueQueues.{QueueState, queue_of, is_entry, with_entry, without_entry, is_due_at}
use Rattle.link_buffers.specs.proof.Flights.{FlightState}
use Rattle.bus_machine.specs.Plans.{no_link, link_at}
use Rattle.pals_node.specs.proof.NodeAndJobValues.{NodeValue}
use Rattle.pals_bus.specs.proof.OutOfRangeDefaults.{no_node_value, no_flight, no_queue}
use Rattle.bus_machine.specs.BusStates.{flight_at}
use Rattle.pals_bus.specs.BusValues.{BusValue}

-- a copy with this round and this due reading
abbrev pub is_copy_of : DueEntry → FlightCopy → Bool
is_copy_of e copy = nat_eq copy.round e.round && option_map_or (nat_eq e.due) copy.due false

-- how often an entry's copy is in flight to a node
abbrev pub copies_to : List Link → List FlightState → ℕ → DueEntry → ℕ
copies_to links flights node e =
    if nat_eq (slice_index_or links e.link.0 no_link).target.0 node
    then count_by (is_copy_of e) (slice_index_or flights e.link.0 no_flight).copies
    else 0

-- a link into a node whose source has a round in hand that is not sent
abbrev pub is_awaited : List NodeValue → ℕ → Link → Bool
is_awaited nodes node link =
    nat_eq link.target.0 node && not (slice_index_or nodes link.source.0 no_node_value).state.sent

-- each queue has those copies, and room for the messages that are still to be sent to its node
pub record AreQueues (links : List Link) (nodes : List NodeValue) (flights : List FlightState)
    (queues : List QueueState) : Type 0 where
  pub count : length queues ≡ length nodes
  pub entries : (node : ℕ) (e : DueEntry)
      → count_by (is_entry e) (slice_index_or queues node no_queue).entries ≡ copies_to links flights node e
  pub room : (node : ℕ) → count_by (is_awaited nodes node) links ≤ (slice_index_or queues node no_queue).spare

-- ---- room
abbrev pub entries_in : List QueueState → List (List DueEntry)
entries_in queues = map (λ queue. queue.entries) queues

abbrev pub NoLessQueueRoom : List QueueState → List QueueState → Type 0
NoLessQueueRoom old new =
    (node : ℕ) → (slice_index_or old node no_queue).spare ≤ (slice_index_or new node no_queue).spare

-- a node that reads from this one has room for a message on each of its in ports
abbrev pub HasQueueRoomFor : ℕ → List Link → List QueueState → Type 0
HasQueueRoomFor node links queues =
    (number : ℕ) (link : Link) → slice_get links number ≡ Some link → link.source.0 ≡ node
    → PORTS ≤ (slice_index_or queues link.target.0 no_queue).spare

-- the target of each of these links has it
abbrev pub HasQueueRoomOn : List LinkNo → List Link → List QueueState → Type 0
HasQueueRoomOn numbers links queues =
    All (λ link. PORTS ≤ (slice_index_or queues (slice_index_or links link.0 no_link).target.0 no_queue).spare) numbers

-- ---- one message
abbrev pub with_due : QueueState → Option ℕ → LinkNo → ℕ → QueueState
with_due queue None link round = queue
with_due queue (Some due) link round =
    queue_of (with_entry (record { due = due; link = link; round = round }) queue.entries) (queue.spare - 1)

abbrev pub without_due : List DueEntry → Option ℕ → LinkNo → ℕ → List DueEntry
without_due entries None link round = entries
without_due entries (Some due) link round = without_entry (record { due = due; link = link; round = round }) entries

-- ---- the messages of a round
-- a link from one node to another
abbrev pub is_between : ℕ → ℕ → Link → Bool
is_between source node link = nat_eq link.source.0 source && nat_eq link.target.0 node

-- the messages of the first links from a node are sent: each queue also has room for the messages of its other links
pub record AreQueuesAmid (source first : ℕ) (links : List Link) (nodes : List NodeValue) (flights : List FlightState)
    (queues : List QueueState) : Type 0 where
  pub count : length queues ≡ length nodes
  pub entries : (node : ℕ) (e : DueEntry)
      → count_by (is_entry e) (slice_index_or queues node no_queue).entries ≡ copies_to links flights node e
  pub room : (node : ℕ) → count_by (is_between source node) (drop first links) + count_by (is_awaited nodes node) links
      ≤ (slice_index_or queues node no_queue).spare

-- ---- the due messages, by link and then by round
abbrev pub comes_first : DueEntry → DueEntry → Bool
comes_first a b = nat_lt a.link.0 b.link.0 || nat_eq a.link.0 b.link.0 && nat_lt a.round b.round

pub record AreDueEntries (queue : QueueState) (reading : ℕ) (due : List DueEntry) : Type 0 where
  pub are : IsPermutation (filter (is_due_at reading) queue.entries) due
  pub order : AllPairs (λ earlier later. comes_first later earlier ≡ false) due

-- how often an entry's copy is in flight to a node
abbrev pub copies_in_flight : BusValue → ℕ → DueEntry → ℕ
copies_in_flight b node e =
    if nat_eq (link_at b.run.design e.link.0).target.0 node then count_by (is_copy_of e)
    (flight_at b.state e.link.0) else 0
