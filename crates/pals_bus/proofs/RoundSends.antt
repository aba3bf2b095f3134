-- For `Bus::send`: the event of sending a node's round happens, and maintains the bus invariant.
use Rattle.std.proofs.Common.{◌≡◌, ◌∙◌, ℕ, ◌+◌, ◌<◌, true, false, List, [], ◌∷◌, ◌++◌, length, map, Option, None, refl}
use Rattle.std.proofs.Common.{sym, ap, subst, arith}
use Rattle.std.specs.Prelude.{filter, sum_by, slice_set, slice_index_or, vec_capacity}
use Rattle.std.specs.List.{enumerate_from}
use Rattle.std.specs.Arc.{arc_value}
use Rattle.std.proofs.lemmas.Bool.{false≢true}
use Rattle.std.proofs.lemmas.List.{length-map}
use Rattle.pals_base.specs.declared.basic_types.PortValue.{PortValue}
use Rattle.pals_base.specs.declared.basic_types.NodeNo.{NodeNo}
use Rattle.pals_model.specs.declared.design.Link.{Link}
use Rattle.pals_model.specs.declared.flight_copy.FlightCopy.{FlightCopy}
use Rattle.pals_runs.specs.declared.journal.JournalEntry.TheVariants as entry
use Rattle.bus_machine.specs.Plans.{plan_of}
use Rattle.bus_machine.specs.Nodes.{round_of}
use Rattle.bus_machine.specs.NodeEvents.{message_from, sent_from}
use Rattle.bus_machine.specs.BusStates.{node_at}
use Rattle.bus_machine.specs.Machine.{Send, flight_after_send}
use Rattle.bus_machine.specs.Replay.{Replays, goes_on}
use Rattle.pals_node.specs.proof.NodeAndJobValues.{NodeValue}
use Rattle.pals_node.specs.proof.Answers.{Sends}
use Rattle.pals_bus.specs.declared.bus_fields.BusFields.{BusFields}
use Rattle.pals_bus.specs.proof.NodeLists.{node_value}
use Rattle.pals_bus.specs.BusValues.{Happens}
use Rattle.pals_bus.specs.proof.BusInvariant.{IsBusInvariant, owed, run_of, state_of, value_of}
use Rattle.pals_bus.specs.proof.RoundMessages.{is_from, HasRoomFor, AreSent}
use Rattle.pals_bus.specs.proof.DueQueues.{AreQueues, AreQueuesAmid}
use Rattle.pals_bus.specs.proof.OutOfRangeDefaults.{no_node_value}
use Rattle.pals_bus.proofs.NodeChanges.{nodes-set, node_is, same_node}
use Rattle.pals_bus.proofs.OwedEntries.{is_unsent, owed_less, owed_sent}
use Rattle.pals_bus.proofs.FlightRooms.{room_of, rooms-set}
use Rattle.pals_bus.proofs.QueueChanges.{queues_amid}
use Rattle.pals_bus.proofs.RoundMessages.{sends_all, sent_elsewhere}
use Rattle.pals_bus.proofs.EventInvariants.{node_happens}
use Rattle.pals_bus.proofs.StartsStepsAndFinishes.{longer}

-- the round was not sent before
unsent_node : (f : BusFields) (node : ℕ) (reading : Option ℕ) (m : NodeValue) (messages : List (List PortValue))
    → IsBusInvariant f
    → node < length f.nodes → Sends (node_value (value_of f) node) reading m messages
    → (slice_index_or f.nodes node no_node_value).state.sent ≡ false
unsent_node f node reading m messages keeps within sends =
    ap (λ (k : NodeValue). k.state.sent) (node_is f node keeps within)
    ∙ is_unsent (plan_of (arc_value f.design) node) (node_at (state_of f) node) sends.may

-- what the messages need
pub send_room : (f : BusFields) (node : ℕ) (reading : Option ℕ) (m : NodeValue)
    (messages : List (List PortValue)) → IsBusInvariant f
    → node < length f.nodes → Sends (node_value (value_of f) node) reading m messages
    → HasRoomFor node (length (arc_value f.design).links) (arc_value f.design).links f.flights
send_room f node reading m messages keeps within sends =
    room_of (arc_value f.design).links f.nodes f.flights node (length (arc_value f.design).links) keeps.rooms
    (unsent_node f node reading m messages keeps within sends)

pub send_queues : (f : BusFields) (node : ℕ) (reading : Option ℕ) (m : NodeValue)
    (messages : List (List PortValue)) → IsBusInvariant f
    → node < length f.nodes → Sends (node_value (value_of f) node) reading m messages
    → AreQueuesAmid node 0 (arc_value f.design).links (slice_set f.nodes node m) f.flights f.queues
send_queues f node reading m messages keeps within sends =
    queues_amid (arc_value f.design).links f.nodes f.flights f.queues node m keeps.queues within
    (unsent_node f node reading m messages keeps within sends) (ap (λ (k : NodeValue). k.state.sent) sends.state)

pub send_count : (f : BusFields) (node : ℕ) (reading : Option ℕ) (m : NodeValue) (messages : List (List PortValue))
    → Sends (node_value (value_of f) node) reading m messages
    → length messages ≡ length (filter (is_from node) (arc_value f.design).links)
send_count f node reading m messages sends =
    let plan = plan_of (arc_value f.design) node in
    ap length sends.messages_are ∙ length-map plan.out_links (message_from plan (node_at (state_of f) node))
    ∙ length-map (filter (is_from node) (arc_value f.design).links) (λ (l : Link). l.out_port)

-- the node owes one entry less
pub send_owes : (f : BusFields) (node : ℕ) (reading : Option ℕ) (m : NodeValue)
    (messages : List (List PortValue)) → IsBusInvariant f
    → node < length f.nodes → Sends (node_value (value_of f) node) reading m messages
    → sum_by owed (slice_set f.nodes node m) + 1 ≡ sum_by owed f.nodes
send_owes f node reading m messages keeps within sends =
    let n = node_value (value_of f) node in
    owed_less f.nodes node m within
    (owed_sent n f.rounds m (is_unsent (plan_of (arc_value f.design) node) n.state sends.may)
    (ap (λ (k : NodeValue). k.state) sends.state) ∙ ap owed (sym (node_is f node keeps within)))

pub send_happens : (f g : BusFields) (node : NodeNo) (reading : Option ℕ) (m : NodeValue)
    (messages : List (List PortValue))
    (round : ℕ) → IsBusInvariant f → f.stop ≡ None → node.0 < length f.nodes
    → Sends (node_value (value_of f) node.0) reading m messages
    → round ≡ round_of (node_at (state_of f) node.0)
    → AreSent node.0 (arc_value f.design).links f.delays round reading messages (length (arc_value f.design).links)
    f.flights g.flights
    → g ≡ record f { nodes = slice_set f.nodes node.0 m; flights = g.flights; queues = g.queues; journal = g.journal }
    → g.journal.items ≡ f.journal.items ++ entry.Send node round reading ∷ []
    → Happens (value_of f) (Send node reading) (value_of g)
send_happens f g node reading m messages round keeps going within sends round_is are same told =
    let run = run_of f in
    let s = state_of f in
    let n = node_at s node.0 in
    let copies : List (List FlightCopy) =
    map (λ numbered. flight_after_send run s node reading numbered.0 numbered.1)
    (enumerate_from 0 run.design.links) in
    let all =
    subst (λ r. AreSent node.0 run.design.links run.delays r reading messages (length run.design.links) f.flights
    g.flights) round_is are in
    subst (Happens (value_of f) (Send node reading)) (sym (ap value_of same))
    (node_happens f (Send node reading) node.0 m (sent_from f.rounds n) g.flights copies f.stop g.journal.items keeps
    going within sends.state
    (sends_all run s node reading messages f.flights g.flights keeps.flight_count refl sends.messages_are all)
    sends.may refl
    (told ∙ ap (λ r. f.journal.items ++ entry.Send node r reading ∷ []) round_is))

pub send_keeps_bus : (f g : BusFields) (node : NodeNo) (reading : Option ℕ) (m : NodeValue)
    (messages : List (List PortValue))
    (round : ℕ) → IsBusInvariant f → node.0 < length f.nodes → Sends (node_value (value_of f) node.0) reading m messages
    → AreSent node.0 (arc_value f.design).links f.delays round reading messages (length (arc_value f.design).links)
    f.flights g.flights → AreQueues (arc_value f.design).links (slice_set f.nodes node.0 m) g.flights g.queues
    → g ≡ record f { nodes = slice_set f.nodes node.0 m; flights = g.flights; queues = g.queues; journal = g.journal }
    → g.journal.items ≡ f.journal.items ++ entry.Send node round reading ∷ []
    → Happens (value_of f) (Send node reading) (value_of g)
    → vec_capacity g.journal ≡ vec_capacity f.journal → IsBusInvariant g
send_keeps_bus f g node reading m messages round keeps within sends are queues same told happens capacity =
    let links = (arc_value f.design).links in
    let n = node_value (value_of f) node.0 in
    let h : BusFields = record f
    { nodes = slice_set f.nodes node.0 m; flights = g.flights; queues = g.queues; journal = g.journal } in
    let step : Happens (value_of f) (Send node reading) (value_of h) =
    subst (λ (k : BusFields). Happens (value_of f) (Send node reading) (value_of k)) same happens in
    let sent : m.state.sent ≡ true = ap (λ (k : NodeValue). k.state.sent) sends.state in
    let less = send_owes f node.0 reading m messages keeps within sends in
    let size = longer g.journal.items f.journal.items (entry.Send node round reading) told in
    let place = keeps.place in
    let all : IsBusInvariant h = record {
      design = keeps.design;
      outgoing = keeps.outgoing;
      rounds = keeps.rounds;
      delays = keeps.delays;
      values = keeps.values;
      nodes =
          nodes-set (arc_value f.design) f.rounds f.nodes node.0 m keeps.nodes within
          (same_node f node.0 m (sent_from f.rounds n.state) keeps within sends.state);
      flight_count = are.count ∙ keeps.flight_count;
      rooms =
          rooms-set links f.nodes f.flights g.flights node.0 m within keeps.rooms
          (sent_elsewhere node.0 links f.delays round reading messages f.flights g.flights are)
          (λ unsent. absurd (false≢true (sym unsent ∙ sent)));
      queues = queues;
      replays =
          subst (λ j. Replays (run_of f) j (state_of h)) (sym step.journal)
          (goes_on (Send node reading) keeps.replays step.step);
      place = omega (arith, less, size, place, capacity);
    } in
    subst IsBusInvariant (sym same) all
