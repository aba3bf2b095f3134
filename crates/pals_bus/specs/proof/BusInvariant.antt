-- What a bus keeps.
use Rattle.std.specs.Prelude.{◌≡◌, ℕ, ◌+◌, ◌<◌, ◌≤◌, false, List, [], length, map, sum_by, Option, Some, None, is_some}
use Rattle.std.specs.Prelude.{if◌then◌else◌, slice_get, slice_index_or, vec_capacity}
use Rattle.std.specs.Arc.{arc_value}
use Rattle.pals_base.specs.declared.limits.TheConstants.{ROUNDS}
use Rattle.pals_model.specs.declared.design.Link.{Link}
use Rattle.pals_model.specs.declared.design.DesignParts.{DesignParts}
use Rattle.pals_model.specs.declared.flight_copy.FlightCopy.{FlightCopy}
use Rattle.pals_model.specs.Delays.{AreDelays}
use Rattle.pals_model.specs.DesignRules.{IsDesign}
use Rattle.link_buffers.specs.proof.Flights.{FlightState}
use Rattle.step_code.specs.proof.CodeMatchesBehaviour.{Means}
use Rattle.bus_machine.specs.Plans.{component_at, plan_of}
use Rattle.bus_machine.specs.NodeEvents.{running_step}
use Rattle.bus_machine.specs.BusStates.{BusState}
use Rattle.bus_machine.specs.RunParameters.{Run}
use Rattle.bus_machine.specs.Replay.{Replays}
use Rattle.pals_node.specs.proof.NodeAndJobValues.{NodeValue}
use Rattle.pals_bus.specs.declared.bus_fields.BusFields.{BusFields}
use Rattle.pals_bus.specs.BusValues.{BusValue}
use Rattle.pals_bus.specs.proof.StepCodesOfNodes.{codes_in}
use Rattle.pals_bus.specs.proof.OutOfRangeDefaults.{no_node_value, no_flight}
use Rattle.pals_bus.specs.proof.LinksFromNodes.{AreOutgoing}
use Rattle.pals_bus.specs.proof.DueQueues.{AreQueues}

-- ---- what contracts see of a bus's fields
abbrev pub copies_in : List FlightState → List (List FlightCopy)
copies_in flights = map (λ flight. flight.copies) flights

-- the copies of a flight, [] if it does not exist
abbrev pub copies_in_option : Option FlightState → List FlightCopy
copies_in_option None = []
copies_in_option (Some flight) = flight.copies

abbrev pub state_of : BusFields → BusState
state_of f = record { nodes = map (λ n. n.state) f.nodes; flights = copies_in f.flights; stop = f.stop }

abbrev pub run_of : BusFields → Run
run_of f = record { design = arc_value f.design; env = f.env; rounds = f.rounds; delays = f.delays }

abbrev pub value_of : BusFields → BusValue
value_of f = record {
  run = run_of f;
  codes = codes_in f.nodes;
  meeting = f.meeting;
  closed = f.closed;
  state = state_of f;
  journal = f.journal.items;
}

-- ---- its nodes
abbrev pub node_in : BusFields → ℕ → NodeValue
node_in f node = slice_index_or f.nodes node no_node_value

-- a node belongs to the design, has as many rounds, and its code means its component's behaviour
pub record IsNodeOf (design : DesignParts) (rounds node : ℕ) (n : NodeValue) : Type 0 where
  pub plan : n.program.plan ≡ plan_of design node
  pub rounds_are : n.rounds ≡ rounds
  pub means : Means n.program.code (component_at design node).behaviour

pub record AreNodes (design : DesignParts) (rounds : ℕ) (nodes : List NodeValue) : Type 0 where
  pub count : length nodes ≡ length design.components
  pub each : (node : ℕ) → node < length nodes → IsNodeOf design rounds node (slice_index_or nodes node no_node_value)

-- ---- room
-- a link whose source has a round in hand that is not sent has room for its message
abbrev pub HasRooms : List Link → List NodeValue → List FlightState → Type 0
HasRooms links nodes flights =
    (number : ℕ) (link : Link) → slice_get links number ≡ Some link
    → (slice_index_or nodes link.source.0 no_node_value).state.sent ≡ false
    → 1 ≤ (slice_index_or flights number no_flight).spare

-- the entries that a node still owes to the journal in this round: the finish of the job that is out, and the send
abbrev pub owed : NodeValue → ℕ
owed n = (if is_some (running_step n.state.phase) then 1 else 0) + (if n.state.sent then 0 else 1)

-- ---- the whole
pub record IsBusInvariant (f : BusFields) : Type 0 where
  pub design : IsDesign (arc_value f.design)
  pub outgoing : AreOutgoing (length (arc_value f.design).components) (arc_value f.design).links f.outgoing
  pub rounds : (1 ≤ f.rounds) × (f.rounds ≤ ROUNDS)
  pub delays : AreDelays (length (arc_value f.design).links) f.delays
  pub values : length f.values.items ≡ length f.env.lists
  pub nodes : AreNodes (arc_value f.design) f.rounds f.nodes
  pub flight_count : length f.flights ≡ length (arc_value f.design).links
  pub rooms : HasRooms (arc_value f.design).links f.nodes f.flights
  pub replays : Replays (run_of f) f.journal.items (state_of f)
  pub queues : AreQueues (arc_value f.design).links f.nodes f.flights f.queues
  pub place : length f.journal.items + sum_by owed f.nodes ≤ vec_capacity f.journal
