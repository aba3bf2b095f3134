-- The model of a bus after an event that changes one node or some flights, and that the event maintains the bus
-- invariant.
use Rattle.std.proofs.Common.{◌≡◌, ◌∙◌, ℕ, ◌+◌, ◌<◌, ◌≤◌, true, List, ◌++◌, length, Option, None, refl, sym, ap, ap₂}
use Rattle.std.proofs.Common.{subst, arith}
use Rattle.std.specs.Prelude.{sum_by, slice_set, vec_capacity}
use Rattle.std.specs.Arc.{arc_value}
use Rattle.pals_model.specs.declared.flight_copy.FlightCopy.{FlightCopy}
use Rattle.pals_runs.specs.declared.journal.Stop.{Stop}
use Rattle.pals_runs.specs.declared.journal.JournalEntry.{JournalEntry}
use Rattle.link_buffers.specs.proof.Flights.{FlightState}
use Rattle.bus_machine.specs.Nodes.{NodeState}
use Rattle.bus_machine.specs.BusStates.{BusState}
use Rattle.bus_machine.specs.Machine.{BusEvent, is_allowed, after}
use Rattle.bus_machine.specs.Replay.{Replays, goes_on, entries}
use Rattle.pals_node.specs.proof.NodeAndJobValues.{NodeValue, with_state}
use Rattle.pals_bus.specs.declared.bus_fields.BusFields.{BusFields}
use Rattle.pals_bus.specs.BusValues.{BusValue, Happens}
use Rattle.pals_bus.specs.proof.StepCodesOfNodes.{codes_in}
use Rattle.pals_bus.specs.proof.NodeLists.{node_value}
use Rattle.pals_bus.specs.proof.BusInvariant.{AreNodes, HasRooms, IsBusInvariant, copies_in, owed, run_of, state_of}
use Rattle.pals_bus.specs.proof.BusInvariant.{value_of}
use Rattle.pals_bus.specs.proof.RoundMessages.{NoLessRoom}
use Rattle.pals_bus.specs.proof.DueQueues.{AreQueues}
use Rattle.pals_bus.proofs.NodeChanges.{states, states-set, codes-set, same_node}
use Rattle.pals_bus.proofs.FlightRooms.{rooms_kept}

-- the model of a bus after one node, the flights, the stop and the journal have changed
abbrev pub changed : BusFields → ℕ → NodeValue → List FlightState → Option Stop → List JournalEntry → BusValue
changed f node m flights stop journal = record (value_of f) {
  codes = codes_in (slice_set f.nodes node m);
  state = record { nodes = states (slice_set f.nodes node m); flights = copies_in flights; stop = stop };
  journal = journal;
}

-- an event that changes one node
pub node_happens : (f : BusFields) (e : BusEvent) (node : ℕ) (m : NodeValue) (s : NodeState)
    (flights : List FlightState)
    (copies : List (List FlightCopy)) (stop : Option Stop) (journal : List JournalEntry)
    → IsBusInvariant f → f.stop ≡ None → node < length f.nodes → m ≡ with_state (node_value (value_of f) node) s
    → copies_in flights ≡ copies → is_allowed (run_of f) (state_of f) e ≡ true
    → after (run_of f) (state_of f) e
    ≡ record { nodes = slice_set (states f.nodes) node s; flights = copies; stop = stop }
    → journal ≡ f.journal.items ++ entries (run_of f) (state_of f) e
    → Happens (value_of f) e (changed f node m flights stop journal)
node_happens f e node m s flights copies stop journal keeps going within is same allowed after_is told = record {
  step = record {
    going = going;
    allowed = allowed;
    state =
        ap₂ (λ (ns : List NodeState) (cs : List (List FlightCopy)).
        (let t : BusState = record { nodes = ns; flights = cs; stop = stop } in t))
        (states-set f.nodes node m ∙ ap (λ (n : NodeValue). slice_set (states f.nodes) node n.state) is) same
        ∙ sym after_is;
  };
  journal = told;
  others =
      ap (λ cs. record (changed f node m flights stop journal) { codes = cs })
      (codes-set f.nodes node m (same_node f node m s keeps within is));
}

-- an event that changes only flights
pub flights_happen : (f : BusFields) (e : BusEvent) (flights : List FlightState) (copies : List (List FlightCopy))
    (journal : List JournalEntry)
    → f.stop ≡ None → copies_in flights ≡ copies → is_allowed (run_of f) (state_of f) e ≡ true
    → after (run_of f) (state_of f) e ≡ record (state_of f) { flights = copies }
    → journal ≡ f.journal.items ++ entries (run_of f) (state_of f) e
    → Happens (value_of f) e
    (record (value_of f) { state = record (state_of f) { flights = copies_in flights }; journal = journal })
flights_happen f e flights copies journal going same allowed after_is told = record {
  step =
      record {
        going = going;
        allowed = allowed;
        state = ap (λ cs. record (state_of f) { flights = cs }) same ∙ sym after_is;
      };
  journal = told;
  others = refl;
}

-- what a bus keeps after an event
pub keeps_event : (f g : BusFields) (e : BusEvent) → IsBusInvariant f
    → g ≡ record f {
      nodes = g.nodes;
      flights = g.flights;
      queues = g.queues;
      stop = g.stop;
      journal = g.journal;
      values = g.values;
    }
    → length g.values.items ≡ length f.env.lists → AreNodes (arc_value f.design) f.rounds g.nodes
    → length g.flights ≡ length f.flights → HasRooms (arc_value f.design).links g.nodes g.flights
    → AreQueues (arc_value f.design).links g.nodes g.flights g.queues
    → Happens (value_of f) e (value_of g)
    → length g.journal.items + sum_by owed g.nodes ≤ vec_capacity g.journal → IsBusInvariant g
keeps_event f g e keeps same values nodes flights rooms queues happens place =
    let all : IsBusInvariant (record f {
      nodes = g.nodes;
      flights = g.flights;
      queues = g.queues;
      stop = g.stop;
      journal = g.journal;
      values = g.values;
    }) = record {
      design = keeps.design;
      outgoing = keeps.outgoing;
      rounds = keeps.rounds;
      delays = keeps.delays;
      values = values;
      nodes = nodes;
      flight_count = flights ∙ keeps.flight_count;
      rooms = rooms;
      queues = queues;
      replays =
          subst (λ j. Replays (run_of f) j (state_of g)) (sym happens.journal) (goes_on e keeps.replays happens.step);
      place = place;
    } in
    subst IsBusInvariant (sym same) all

-- what a bus keeps with more room, and with other values read
pub keeps_room : (f g : BusFields) → IsBusInvariant f
    → g ≡ record f { flights = g.flights; queues = g.queues; journal = g.journal; values = g.values }
    → length g.values.items ≡ length f.values.items → length g.flights ≡ length f.flights
    → copies_in g.flights ≡ copies_in f.flights
    → NoLessRoom f.flights g.flights → AreQueues (arc_value f.design).links f.nodes g.flights g.queues
    → g.journal.items ≡ f.journal.items → vec_capacity f.journal ≤ vec_capacity g.journal → IsBusInvariant g
keeps_room f g keeps same values flights copies less queues items more =
    let t : BusState = record (state_of f) { flights = copies_in g.flights } in
    let all : IsBusInvariant (record f {
      flights = g.flights;
      queues = g.queues;
      journal = g.journal;
      values = g.values;
    }) = record {
      design = keeps.design;
      outgoing = keeps.outgoing;
      rounds = keeps.rounds;
      delays = keeps.delays;
      values = values ∙ keeps.values;
      nodes = keeps.nodes;
      flight_count = flights ∙ keeps.flight_count;
      rooms = rooms_kept (arc_value f.design).links f.nodes f.flights g.flights keeps.rooms less;
      queues = queues;
      replays =
          subst (λ j. Replays (run_of f) j t) (sym items)
          (subst (λ cs. Replays (run_of f) f.journal.items (record (state_of f) { flights = cs })) (sym copies)
          keeps.replays);
      place = (let count = ap length items in let before = keeps.place in omega (arith, count, before, more));
    } in
    subst IsBusInvariant (sym same) all

-- and its value is as before
pub value_room : (f g : BusFields)
    → g ≡ record f { flights = g.flights; queues = g.queues; journal = g.journal; values = g.values }
    → copies_in g.flights ≡ copies_in f.flights → g.journal.items ≡ f.journal.items → value_of g ≡ value_of f
value_room f g same copies items =
    ap value_of same
    ∙ ap₂ (λ (cs : List (List FlightCopy)) (j : List JournalEntry).
    record (value_of f) { state = record (state_of f) { flights = cs }; journal = j }) copies items
