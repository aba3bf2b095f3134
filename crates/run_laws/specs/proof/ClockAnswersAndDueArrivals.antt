-- Laws for a thread that holds the lock: what the answer of a list clock means, and that a message that is due can
-- arrive.
use Rattle.std.specs.Prelude.{◌≡◌, ℕ, ◌<◌, true, List, length, All, Some, slice_get, slice_set}
use Rattle.pals_base.specs.declared.basic_types.NodeNo.{NodeNo}
use Rattle.pals_base.specs.declared.basic_types.LinkNo.{LinkNo}
use Rattle.pals_clock.specs.ClockStates.{ClockState, standing_at}
use Rattle.pals_model.specs.declared.design.Link.{Link}
use Rattle.pals_model.specs.declared.flight_copy.FlightCopy.{FlightCopy}
use Rattle.bus_machine.specs.declared.node_action.NodeAction.{NodeAction}
use Rattle.bus_machine.specs.Plans.{plan_of}
use Rattle.bus_machine.specs.NodeEvents.{is_waiting}
use Rattle.bus_machine.specs.BusStates.{BusState, node_at, flight_at}
use Rattle.bus_machine.specs.RunParameters.{Run}
use Rattle.bus_machine.specs.Machine.{BusEvent, Arrive, IsStep}
use Rattle.bus_machine.specs.ActionsAndTargets.{target}
use Rattle.run_laws.specs.TraceRules.{is_due}
use Rattle.run_laws.specs.NodeActions.{upcoming}
use Rattle.pals_clock.specs.declared.clock.Clocks.{Clocks}
use Rattle.pals_clock.specs.declared.clock.Clocks.TheVariants.{Lists}
use Rattle.run_laws.specs.Runs.{clock_at, Does, HasEnded, IsAwaited, Picks, KeepsTo, left_for, next_start}
use Rattle.run_laws.specs.proof.RunQuantifiers.{InRuns}

-- ---- clocks
-- a list that answers has picked for its node's next action
abbrev pub ListPicks : Type 0
ListPicks =
    (run : Run) (clocks : List ClockState) (s : BusState) (node : ℕ) (action : NodeAction)
    → node < length run.design.components
    → upcoming (plan_of run.design node) (node_at s node) ≡ Some action
    → Picks run clocks s node
    (slice_set clocks node (standing_at (clock_at clocks node) (left_for run clocks node action)))

-- one all of whose readings are below that action's target has ended
abbrev pub ListEnds : Type 0
ListEnds =
    (run : Run) (clocks : List ClockState) (s : BusState) (node : ℕ) (action : NodeAction)
    → upcoming (plan_of run.design node) (node_at s node) ≡ Some action
    → All (λ reading. reading < target (plan_of run.design node) action) (clock_at clocks node).left
    → HasEnded run clocks s node

-- and so it stays, whatever the nodes do
abbrev pub EndsStay : Type 0
EndsStay =
    (run : Run) (clocks : List ClockState) (s t : BusState) (e : BusEvent) (node : ℕ) → HasEnded run clocks s node
    → KeepsTo run (Lists clocks) s e → IsStep run s e t → HasEnded run clocks t node

-- ---- messages that are due
-- a node is to start its next round at this reading
pub record IsToStart (run : Run) (clocks : Clocks) (s : BusState) (node : NodeNo) (reading : ℕ) : Type 0 where
  pub does : Does run clocks s node (Some reading) (next_start s node)
  pub waits : is_waiting (node_at s node.0).phase ≡ true

-- a copy of a message that is in flight to a node and due at a reading
pub record IsDueAt (run : Run) (s : BusState) (node : ℕ) (link : LinkNo) (round reading : ℕ) : Type 0 where
  pub the_link : Link
  pub is_link : slice_get run.design.links link.0 ≡ Some the_link
  pub to_node : the_link.target.0 ≡ node
  pub place : ℕ
  pub copy : FlightCopy
  pub is_copy : slice_get (flight_at s link.0) place ≡ Some copy
  pub of_round : copy.round ≡ round
  pub due : is_due (Some reading) copy ≡ true

-- if a message that is due to a node arrives, the event respects the clocks, the node is still to start at that
-- reading, and the awaited rounds are still sent
abbrev pub DueArrives : Type 0
DueArrives = InRuns (λ run clocks journal s.
    (t : BusState) (node : NodeNo) (reading : ℕ) (link : LinkNo) (round : ℕ) →
    IsToStart run clocks s node reading → IsDueAt run s node.0 link round reading
    → IsStep run s (Arrive link round (Some reading)) t
    → KeepsTo run clocks s (Arrive link round (Some reading)) × IsToStart run clocks t node reading
    × (IsAwaited run clocks s node.0 → IsAwaited run clocks t node.0))
