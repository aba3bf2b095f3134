-- For `BusFields::arrive`: a message that arrives at its target, and the bus invariant after it.
use Rattle.std.proofs.Common.{◌≡◌, ◌∙◌, ℕ, suc, ◌+◌, ◌<◌, ◌≤◌, false, List, [], ◌∷◌, ◌++◌, length, Option, Some, None}
use Rattle.std.proofs.Common.{is_some, refl, sym, ap, ap₂, subst, arith, append_assoc, length-append}
use Rattle.std.specs.Prelude.{option_map, slice_set, slice_index_or, slice_get, sum_by, if◌then◌else◌, vec_capacity}
use Rattle.std.specs.Arc.{arc_value}
use Rattle.std.proofs.lemmas.List.Sums.{sum_by-set}
use Rattle.pals_base.specs.declared.basic_types.PortValue.{PortValue}
use Rattle.pals_base.specs.declared.basic_types.LinkNo.{LinkNo}
use Rattle.pals_model.specs.declared.design.Component.{Component}
use Rattle.pals_model.specs.declared.flight_copy.FlightCopy.{FlightCopy}
use Rattle.pals_model.specs.Flights.{oldest, without_oldest}
use Rattle.pals_model.specs.PortKindsAndRates.{ins_in}
use Rattle.pals_runs.specs.declared.journal.Arrived.{Arrived}
use Rattle.pals_runs.specs.declared.journal.Arrived.TheVariants.{Kept, Ignored, Early}
use Rattle.pals_runs.specs.declared.journal.JournalEntry.{JournalEntry}
use Rattle.pals_runs.specs.declared.journal.JournalEntry.TheVariants as entry
use Rattle.pals_runs.specs.declared.journal.Stop.{Stop}
use Rattle.bus_machine.specs.Nodes.{NodeState}
use Rattle.bus_machine.specs.NodeEvents.{running_step, with_message, arrived, received}
use Rattle.bus_machine.specs.LinkEvents.{tuple_in, arriving}
use Rattle.bus_machine.specs.BusStates.{BusState, node_at, flight_at}
use Rattle.bus_machine.specs.Plans.{no_link}
use Rattle.bus_machine.specs.Machine.{Arrive, arrival, early_stop}
use Rattle.bus_machine.specs.Replay.{Replays, goes_on, stop_entry}
use Rattle.pals_node.specs.proof.NodeAndJobValues.{NodeValue, with_state}
use Rattle.pals_bus.specs.declared.bus_fields.BusFields.{BusFields}
use Rattle.pals_bus.specs.proof.NodeLists.{node_value, node_of}
use Rattle.pals_bus.specs.BusValues.{Happens}
use Rattle.pals_bus.specs.proof.BusInvariant.{IsBusInvariant, owed, run_of, state_of, value_of, copies_in}
use Rattle.pals_bus.specs.proof.OutOfRangeDefaults.{no_flight, no_node_value}
use Rattle.pals_bus.proofs.NodeChanges.{nodes-set, node_is, same_node}
use Rattle.pals_bus.proofs.FlightRooms.{flight_is, rooms-set}
use Rattle.pals_bus.proofs.QueueChanges.{queues-set}
use Rattle.pals_bus.proofs.EventInvariants.{node_happens}
use Rattle.pals_bus.proofs.StartsStepsAndFinishes.{unsent_before}
use Rattle.pals_bus.proofs.OldestCopyRemoval.{Takes, same_count, target_within}
use Rattle.pals_bus.proofs.MessageLosses.{some_in_flight, copies_left}
use Rattle.pals_bus.proofs.InvariantConsequences.{agrees}

-- ---- the slot
wide_slots : (o : Option Component) (port n : ℕ) → ((c : Component) → o ≡ Some c → n ≡ length c.behaviour.ins)
    → port < ins_in o → port < n
wide_slots None port n count within = absurd (omega (arith, within))
wide_slots (Some c) port n count within = let is = count c refl in omega (arith, is, within)

-- the target of a link has a slot for it
pub has_slot : (f : BusFields) (link : ℕ) → IsBusInvariant f → link < length (arc_value f.design).links
    → (slice_index_or (arc_value f.design).links link no_link).in_port
    < length (node_at (state_of f) (slice_index_or (arc_value f.design).links link no_link).target.0).slots
has_slot f link keeps within =
    let the_link = slice_index_or (arc_value f.design).links link no_link in
    wide_slots (slice_get (arc_value f.design).components the_link.target.0) the_link.in_port
    (length (node_at (state_of f) the_link.target.0).slots)
    (λ c is. ((agrees f keeps).nodes the_link.target.0 c is).slots)
    (keeps.design.links.each link no_link within).target.port_is

-- ---- what an arrival leaves of a node
message_kept : (n : NodeState) (port : ℕ) (tuple : List PortValue) (a : Arrived)
    → ((with_message n port tuple a).sent ≡ n.sent) × ((with_message n port tuple a).phase ≡ n.phase)
message_kept n port tuple Kept = (refl, refl)
message_kept n port tuple Ignored = (refl, refl)
message_kept n port tuple Early = (refl, refl)

received_sent : (n : NodeState) (port round : ℕ) (tuple : List PortValue) → (received n port round tuple).sent ≡ n.sent
received_sent n port round tuple = (message_kept n port tuple (arrived n port round)).0

owed_same : (n m : NodeValue) (port round : ℕ) (tuple : List PortValue) → m.state ≡ received n.state port round tuple
    → owed m ≡ owed n
owed_same n m port round tuple is =
    let kept = message_kept n.state port tuple (arrived n.state port round) in
    ap₂ (λ p b. (if is_some (running_step p) then 1 else 0) + (if b then 0 else 1))
    (ap (λ (s : NodeState). s.phase) is ∙ kept.1) (ap (λ (s : NodeState). s.sent) is ∙ kept.0)

pub owed_arrived : (f : BusFields) (node : ℕ) (m : NodeValue) (port round : ℕ) (tuple : List PortValue)
    → IsBusInvariant f
    → node < length f.nodes
    → m ≡ with_state (node_value (value_of f) node) (received (node_at (state_of f) node) port round tuple)
    → sum_by owed (slice_set f.nodes node m) ≡ sum_by owed f.nodes
owed_arrived f node m port round tuple keeps within is =
    let all = sum_by-set owed f.nodes node m no_node_value within in
    let same =
    owed_same (node_value (value_of f) node) m port round tuple (ap (λ (k : NodeValue). k.state) is)
    ∙ ap owed (sym (node_is f node keeps within)) in
    omega (arith, all, same)

-- ---- Arrive
tuple_there : (o : Option FlightCopy) (tuple : List PortValue)
    → Some tuple ≡ option_map (λ (copy : FlightCopy). copy.tuple) o → tuple ≡ tuple_in o
tuple_there None tuple is = absurd (cc)
tuple_there (Some copy) tuple is = cc

tuple_is : (f t : BusFields) (link : LinkNo) (round : ℕ) (tuple : List PortValue) → Takes f t link round (Some tuple)
    → tuple ≡ arriving round (flight_at (state_of f) link.0)
tuple_is f t link round tuple takes =
    tuple_there (oldest round (slice_index_or f.flights link.0 no_flight).copies) tuple takes.taken
    ∙ ap (λ (copies : List FlightCopy). arriving round copies) (sym (flight_is f.flights link.0))

-- a message was taken, and reached its target
pub record Comes (f t g : BusFields) (link : LinkNo) (round : ℕ) (reading : Option ℕ) (tuple : List PortValue)
    (m : NodeValue) : Type 0 where
  pub takes : Takes f t link round (Some tuple)
  pub node :
      m ≡ with_state (node_value (value_of f) (slice_index_or (arc_value f.design).links link.0 no_link).target.0)
      (received (node_at (state_of f) (slice_index_or (arc_value f.design).links link.0 no_link).target.0)
      (slice_index_or (arc_value f.design).links link.0 no_link).in_port round tuple)
  pub others : g ≡ record t {
    nodes = slice_set t.nodes (slice_index_or (arc_value f.design).links link.0 no_link).target.0 m;
    stop = g.stop;
    journal = g.journal;
  }
  pub stop : g.stop ≡ early_stop link round reading (arrival (run_of f) (state_of f) link round)
  pub told : g.journal.items
      ≡ f.journal.items ++ (entry.Arrive link round reading (arrival (run_of f) (state_of f) link round)
      ∷ stop_entry (early_stop link round reading (arrival (run_of f) (state_of f) link round)))

abbrev come : BusFields → BusFields → BusFields → ℕ → NodeValue → BusFields
come f t g target m =
    record f {
      nodes = slice_set f.nodes target m;
      flights = t.flights;
      queues = t.queues;
      stop = g.stop;
      journal = g.journal;
    }

come_is : (f t g : BusFields) (link : LinkNo) (round : ℕ) (reading : Option ℕ) (tuple : List PortValue) (m : NodeValue)
    → Comes f t g link round reading tuple m
    → g ≡ come f t g (slice_index_or (arc_value f.design).links link.0 no_link).target.0 m
come_is f t g link round reading tuple m comes =
    let target = (slice_index_or (arc_value f.design).links link.0 no_link).target.0 in
    comes.others ∙ ap (λ (k : BusFields). let u : BusFields =
    record k { nodes = slice_set k.nodes target m; stop = g.stop; journal = g.journal } in u) comes.takes.others

pub arrive_happens : (f t g : BusFields) (link : LinkNo) (round : ℕ) (reading : Option ℕ) (tuple : List PortValue)
    (m : NodeValue) → IsBusInvariant f → f.stop ≡ None → link.0 < length (arc_value f.design).links
    → Comes f t g link round reading tuple m
    → Happens (value_of f) (Arrive link round reading) (value_of g)
arrive_happens f t g link round reading tuple m keeps going within comes =
    let run = run_of f in
    let s = state_of f in
    let the_link = slice_index_or (arc_value f.design).links link.0 no_link in
    let target = the_link.target.0 in
    let flight = flight_at s link.0 in
    let n = received (node_at s target) the_link.in_port round (arriving round flight) in
    let count = keeps.nodes.count in
    let there = target_within (arc_value f.design) link.0 keeps.design within in
    let node : m ≡ with_state (node_value (value_of f) target) n =
    comes.node ∙ ap (λ (ports : List PortValue).
    with_state (node_value (value_of f) target) (received (node_at s target) the_link.in_port round ports))
    (tuple_is f t link round tuple comes.takes) in
    let copies = slice_set (copies_in f.flights) link.0 (without_oldest round flight) in
    subst (Happens (value_of f) (Arrive link round reading))
    (sym (ap value_of (come_is f t g link round reading tuple m comes)))
    (node_happens f (Arrive link round reading) target m n t.flights copies g.stop g.journal.items keeps going
    (omega (arith, count, there)) node (copies_left f t link round (Some tuple) comes.takes)
    (some_in_flight f t link round tuple comes.takes)
    (ap (λ (o : Option Stop). let u : BusState =
    record { nodes = slice_set s.nodes target n; flights = copies; stop = o } in u) (sym comes.stop)) comes.told)

one_stop : (o : Option Stop) → length (stop_entry o) ≤ 1
one_stop None = omega arith
one_stop (Some why) = omega arith

pub arrive_keeps_bus : (f t g : BusFields) (link : LinkNo) (round : ℕ) (reading : Option ℕ) (tuple : List PortValue)
    (m : NodeValue) → IsBusInvariant f → link.0 < length (arc_value f.design).links
    → Comes f t g link round reading tuple m
    → Happens (value_of f) (Arrive link round reading) (value_of g)
    → length f.journal.items + sum_by owed f.nodes + 2 ≤ vec_capacity g.journal → IsBusInvariant g
arrive_keeps_bus f t g link round reading tuple m keeps within comes happens room =
    let links = (arc_value f.design).links in
    let s = state_of f in
    let the_link = slice_index_or links link.0 no_link in
    let target = the_link.target.0 in
    let count = keeps.nodes.count in
    let there = target_within (arc_value f.design) link.0 keeps.design within in
    let inside : target < length f.nodes = omega (arith, count, there) in
    let is = come_is f t g link round reading tuple m comes in
    let step : Happens (value_of f) (Arrive link round reading) (value_of (come f t g target m)) =
    subst (λ (k : BusFields). Happens (value_of f) (Arrive link round reading) (value_of k)) is happens in
    let sent : m.state.sent ≡ (node_at s target).sent = ap (λ (k : NodeValue). k.state.sent) comes.node
    ∙ received_sent (node_at s target) the_link.in_port round tuple in
    let less = owed_arrived f target m the_link.in_port round tuple keeps inside comes.node in
    let why = early_stop link round reading (arrival (run_of f) s link round) in
    let size : length g.journal.items ≡ length f.journal.items + suc (length (stop_entry why)) = ap length comes.told
    ∙ length-append f.journal.items
    (entry.Arrive link round reading (arrival (run_of f) s link round) ∷ stop_entry why) in
    let one = one_stop why in
    let all : IsBusInvariant (come f t g target m) = record {
      design = keeps.design;
      outgoing = keeps.outgoing;
      rounds = keeps.rounds;
      delays = keeps.delays;
      values = keeps.values;
      nodes =
          nodes-set (arc_value f.design) f.rounds f.nodes target m keeps.nodes inside
          (same_node f target m (received (node_at s target) the_link.in_port round tuple) keeps inside comes.node);
      flight_count = same_count f t link round (Some tuple) comes.takes ∙ keeps.flight_count;
      rooms =
          rooms-set links f.nodes f.flights t.flights target m inside keeps.rooms
          (λ number l is_l other. comes.takes.room number)
          (λ unsent number l lt is_l from.
          let before =
          keeps.rooms number l is_l
          (subst (λ k. (slice_index_or f.nodes k no_node_value).state.sent ≡ false) (sym from)
          (unsent_before f target m keeps inside sent unsent)) in
          let more = comes.takes.room number in
          omega (arith, before, more));
      queues =
          queues-set links f.nodes t.flights t.queues target m comes.takes.queues inside
          (unsent_before f target m keeps inside sent);
      replays =
          subst (λ j. Replays (run_of f) j (state_of (come f t g target m))) (sym step.journal)
          (goes_on (Arrive link round reading) keeps.replays step.step);
      place = omega (arith, size, one, less, room);
    } in
    subst IsBusInvariant (sym is) all

-- ---- the calls of an arrival
abbrev pub node_after : List NodeValue → ℕ → ℕ → ℕ → List PortValue → NodeValue
node_after nodes target port round tuple =
    with_state (node_of nodes target) (received (node_of nodes target).state port round tuple)

-- the node that a message comes to is there
pub reached_within : (f t : BusFields) (link : LinkNo) (round : ℕ) (tuple : Option (List PortValue)) (target : ℕ)
    → IsBusInvariant f
    → link.0 < length (arc_value f.design).links → Takes f t link round tuple
    → target ≡ (slice_index_or (arc_value f.design).links link.0 no_link).target.0 → target < length t.nodes
reached_within f t link round tuple target keeps within takes target_is =
    let count = keeps.nodes.count in
    let there = target_within (arc_value f.design) link.0 keeps.design within in
    let nodes : length t.nodes ≡ length f.nodes = ap (λ (k : BusFields). length k.nodes) takes.others in
    omega (arith, nodes, count, there, target_is)

-- the node in its new state
node_reached : (f t : BusFields) (link : LinkNo) (round : ℕ) (tuple : Option (List PortValue)) (target : ℕ)
    → IsBusInvariant f
    → link.0 < length (arc_value f.design).links → Takes f t link round tuple
    → target ≡ (slice_index_or (arc_value f.design).links link.0 no_link).target.0
    → node_of t.nodes target
    ≡ node_value (value_of f) (slice_index_or (arc_value f.design).links link.0 no_link).target.0
node_reached f t link round tuple target keeps within takes target_is =
    let goal = (slice_index_or (arc_value f.design).links link.0 no_link).target.0 in
    let count = keeps.nodes.count in
    let there = target_within (arc_value f.design) link.0 keeps.design within in
    let nodes : t.nodes ≡ f.nodes = ap (λ (k : BusFields). k.nodes) takes.others in
    ap₂ (λ (ns : List NodeValue) (k : ℕ). node_of ns k) nodes target_is
    ∙ node_is f goal keeps (omega (arith, count, there))

pub slot_reached : (f t : BusFields) (link : LinkNo) (round : ℕ) (tuple : Option (List PortValue))
    (target port : ℕ) → IsBusInvariant f
    → link.0 < length (arc_value f.design).links → Takes f t link round tuple
    → target ≡ (slice_index_or (arc_value f.design).links link.0 no_link).target.0
    → port ≡ (slice_index_or (arc_value f.design).links link.0 no_link).in_port
    → port < length (node_of t.nodes target).state.slots
slot_reached f t link round tuple target port keeps within takes target_is port_is =
    let here = node_reached f t link round tuple target keeps within takes target_is in
    let slots : length (node_of t.nodes target).state.slots
    ≡ length (node_at (state_of f) (slice_index_or (arc_value f.design).links link.0 no_link).target.0).slots =
    ap (λ (k : NodeValue). length k.state.slots) here in
    let room = has_slot f link.0 keeps within in
    omega (arith, slots, room, port_is)

-- the node's result is the machine's
pub arrival_is : (f t : BusFields) (link : LinkNo) (round : ℕ) (tuple : Option (List PortValue)) (target port : ℕ)
    (result : Arrived) → IsBusInvariant f → link.0 < length (arc_value f.design).links → Takes f t link round tuple
    → target ≡ (slice_index_or (arc_value f.design).links link.0 no_link).target.0
    → port ≡ (slice_index_or (arc_value f.design).links link.0 no_link).in_port
    → result ≡ arrived (node_of t.nodes target).state port round
    → result ≡ arrival (run_of f) (state_of f) link round
arrival_is f t link round tuple target port result keeps within takes target_is port_is answers =
    answers ∙ ap₂ (λ (k : NodeValue) (p : ℕ). arrived k.state p round)
    (node_reached f t link round tuple target keeps within takes target_is) port_is

pub comes_by : (f t g : BusFields) (link : LinkNo) (round : ℕ) (reading : Option ℕ) (tuple : List PortValue)
    (target port : ℕ)
    (result : Arrived) (first : List JournalEntry) → IsBusInvariant f → link.0 < length (arc_value f.design).links
    → Takes f t link round (Some tuple) → target ≡ (slice_index_or (arc_value f.design).links link.0 no_link).target.0
    → port ≡ (slice_index_or (arc_value f.design).links link.0 no_link).in_port
    → result ≡ arrived (node_of t.nodes target).state port round
    → g ≡ record t {
      nodes = slice_set t.nodes target (node_after t.nodes target port round tuple);
      stop = g.stop;
      journal = g.journal;
    } → g.stop ≡ early_stop link round reading result
    → first ≡ t.journal.items ++ entry.Arrive link round reading result ∷ []
    → g.journal.items ≡ first ++ stop_entry g.stop
    → Comes f t g link round reading tuple (node_after t.nodes target port round tuple)
comes_by f t g link round reading tuple target port result first keeps within takes target_is port_is answers same
    stop told all =
    let here = node_reached f t link round (Some tuple) target keeps within takes target_is in
    let said = arrival_is f t link round (Some tuple) target port result keeps within takes target_is port_is answers in
    let m = node_after t.nodes target port round tuple in
    let stops : g.stop ≡ early_stop link round reading (arrival (run_of f) (state_of f) link round) = stop
    ∙ ap (early_stop link round reading) said in
    let before : List JournalEntry → Arrived → Option Stop → List JournalEntry = λ js a o. js
    ++ (entry.Arrive link round reading a ∷ stop_entry o) in
    let journal : t.journal.items ≡ f.journal.items = ap (λ (k : BusFields). k.journal.items) takes.others in
    record {
      takes = takes;
      node = ap₂ (λ (k : NodeValue) (p : ℕ). with_state k (received k.state p round tuple)) here port_is;
      others =
          same ∙ ap (λ (k : ℕ). let u : BusFields =
          record t { nodes = slice_set t.nodes k m; stop = g.stop; journal = g.journal } in u) target_is;
      stop = stops;
      told =
          all
          ∙ ap (λ (js : List JournalEntry). js ++ stop_entry g.stop) told
          ∙ append_assoc t.journal.items (entry.Arrive link round reading result ∷ []) (stop_entry g.stop)
          ∙ ap (λ (js : List JournalEntry). before js result g.stop) journal
          ∙ ap₂ (λ (a : Arrived) (o : Option Stop). before f.journal.items a o) said stops;
    }
