-- The bus as a transition system: which events are allowed, and their effects.
use Rattle.std.specs.Prelude.{◌≡◌, ℕ, nat_eq, Bool, true, if◌then◌else◌, List, [], ◌∷◌, ◌++◌, map, Option, Some, None}
use Rattle.std.specs.Prelude.{is_some}
use Rattle.std.specs.List.{enumerate_from}
use Rattle.pals_base.specs.declared.basic_types.NodeNo.{NodeNo}
use Rattle.pals_base.specs.declared.basic_types.LinkNo.{LinkNo}
use Rattle.pals_model.specs.declared.design.Link.{Link}
use Rattle.pals_model.specs.declared.flight_copy.FlightCopy.{FlightCopy}
use Rattle.pals_model.specs.ComponentInputs.{values_at}
use Rattle.pals_model.specs.Delays.{delay_of}
use Rattle.pals_model.specs.Flights.{without_oldest}
use Rattle.pals_runs.specs.declared.journal.Arrived.{Arrived}
use Rattle.pals_runs.specs.declared.journal.Arrived.TheVariants.{Kept, Ignored, Early}
use Rattle.pals_runs.specs.declared.journal.Stop.{Stop}
use Rattle.bus_machine.specs.Plans.{plan_of, link_at}
use Rattle.bus_machine.specs.Nodes.{round_of}
use Rattle.bus_machine.specs.NodeEvents.{is_waiting, started, next_step, stepped, running_step, finished, may_send}
use Rattle.bus_machine.specs.NodeEvents.{sent_from, message_from, arrived, received}
use Rattle.bus_machine.specs.LinkEvents.{sent_copy, is_in_flight, arriving, repeated}
use Rattle.bus_machine.specs.BusStates.{BusState, node_at, flight_at, with_node, with_flight}
use Rattle.bus_machine.specs.RunParameters.{Run}
use Rattle.bus_machine.specs.MissedMessages.{missing_link, cause_of}
use Rattle.pals_runs.specs.declared.journal.Stop.TheVariants as stop

-- the events; an event of a node's clock carries its reading, or `None`
pub data BusEvent : Type 0 where
  Start : NodeNo → Option ℕ → BusEvent
  Step : NodeNo → Option ℕ → BusEvent
  Finish : NodeNo → BusEvent
  Send : NodeNo → Option ℕ → BusEvent
  Arrive : LinkNo → ℕ → Option ℕ → BusEvent
  Drop : LinkNo → ℕ → BusEvent
  Repeat : LinkNo → ℕ → BusEvent

-- ---- which events are allowed in a run without a stop
abbrev pub is_allowed : Run → BusState → BusEvent → Bool
is_allowed run s (Start node reading) = is_waiting (node_at s node.0).phase
is_allowed run s (Step node reading) = is_some (next_step (node_at s node.0).phase)
is_allowed run s (Finish node) = is_some (running_step (node_at s node.0).phase)
is_allowed run s (Send node reading) = may_send (plan_of run.design node.0) (node_at s node.0)
is_allowed run s (Arrive link round reading) = is_in_flight round (flight_at s link.0)
is_allowed run s (Drop link round) = is_in_flight round (flight_at s link.0)
is_allowed run s (Repeat link round) = is_in_flight round (flight_at s link.0)

-- ---- the effect of each event
-- a start begins the round, or misses the message of a link, and then the run stops
abbrev pub missed_stop : Run → BusState → NodeNo → Option ℕ → ℕ → Stop
missed_stop run s node reading link =
    let round = round_of (node_at s node.0) in
    stop.Missed (record { 0 = link }) round reading (cause_of run s link round)

abbrev pub after_start : Run → BusState → NodeNo → Option ℕ → Option ℕ → BusState
after_start run s node reading None =
    with_node s node.0 (started (plan_of run.design node.0) (values_at run.env (node_at s node.0).count)
    (node_at s node.0))
after_start run s node reading (Some link) = record s { stop = Some (missed_stop run s node reading link) }

-- the effect if the step exists
abbrev pub on_step : Option ℕ → BusState → (ℕ → BusState) → BusState
on_step None s go = s
on_step (Some step) s go = go step

-- a send puts a message into flight on each link from the node
abbrev pub flight_after_send : Run → BusState → NodeNo → Option ℕ → ℕ → Link → List FlightCopy
flight_after_send run s node reading number link =
    let n = node_at s node.0 in
    if nat_eq link.source.0 node.0
    then flight_at s number ++ sent_copy (round_of n) reading (delay_of run.delays number (round_of n))
    (message_from (plan_of run.design node.0) n link.out_port) ∷ []
    else flight_at s number

abbrev pub after_send : Run → BusState → NodeNo → Option ℕ → BusState
after_send run s node reading =
    let sent = with_node s node.0 (sent_from run.rounds (node_at s node.0)) in
    record sent {
      flights = map (λ numbered. flight_after_send run s node reading numbered.0 numbered.1)
          (enumerate_from 0 run.design.links);
    }

-- a message that arrives leaves the flight, and goes into its slot, is not used, or arrives too early, and then the run
-- stops
abbrev pub arrival : Run → BusState → LinkNo → ℕ → Arrived
arrival run s link round =
    arrived (node_at s (link_at run.design link.0).target.0) (link_at run.design link.0).in_port round

abbrev pub early_stop : LinkNo → ℕ → Option ℕ → Arrived → Option Stop
early_stop link round reading Kept = None
early_stop link round reading Ignored = None
early_stop link round reading Early = Some (stop.Early link round reading)

abbrev pub after_arrive : Run → BusState → LinkNo → ℕ → Option ℕ → BusState
after_arrive run s link round reading =
    let flight = flight_at s link.0 in
    let target = (link_at run.design link.0).target.0 in
    let n = received (node_at s target) (link_at run.design link.0).in_port round (arriving round flight) in
    let taken = with_flight (with_node s target n) link.0 (without_oldest round flight) in
    record taken { stop = early_stop link round reading (arrival run s link round) }

abbrev pub after : Run → BusState → BusEvent → BusState
after run s (Start node reading) = after_start run s node reading (missing_link run s node.0)
after run s (Step node reading) =
    on_step (next_step (node_at s node.0).phase) s (λ step. with_node s node.0 (stepped step (node_at s node.0)))
after run s (Finish node) =
    on_step (running_step (node_at s node.0).phase) s
    (λ step. with_node s node.0 (finished (plan_of run.design node.0) run.rounds step (node_at s node.0)))
after run s (Send node reading) = after_send run s node reading
after run s (Arrive link round reading) = after_arrive run s link round reading
after run s (Drop link round) = with_flight s link.0 (without_oldest round (flight_at s link.0))
after run s (Repeat link round) = with_flight s link.0 (repeated round (flight_at s link.0))

-- ---- a step of the machine
pub record IsStep (run : Run) (s : BusState) (e : BusEvent) (t : BusState) : Type 0 where
  pub going : s.stop ≡ None
  pub allowed : is_allowed run s e ≡ true
  pub state : t ≡ after run s e
