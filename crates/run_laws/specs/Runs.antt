-- Runs whose nodes respect their clocks: each node does its next action, at a reading that its clock shows, in any
-- order of the nodes.
use Rattle.std.specs.Prelude.{◌≡◌, ◌⊎◌, ℕ, ◌<◌, ◌≤◌, true, false, List, [], ◌++◌, length, map, All, Option, Some, None}
use Rattle.std.specs.Prelude.{option_map, slice_get, slice_index_or, slice_set}
use Rattle.std.specs.List.Sorted.{IsNonDecreasing}
use Rattle.pals_base.specs.declared.basic_types.NodeNo.{NodeNo}
use Rattle.pals_base.specs.declared.basic_types.LinkNo.{LinkNo}
use Rattle.pals_base.specs.ClockPicks.{remaining_from}
use Rattle.pals_clock.specs.declared.clock.Clocks.{Clocks}
use Rattle.pals_clock.specs.declared.clock.Clocks.TheVariants.{Meet, Lists}
use Rattle.pals_clock.specs.ClockStates.{ClockState, standing_at}
use Rattle.pals_model.specs.declared.design.Link.{Link}
use Rattle.pals_model.specs.declared.flight_copy.FlightCopy.{FlightCopy}
use Rattle.pals_model.specs.Flights.{oldest}
use Rattle.pals_runs.specs.declared.journal.JournalEntry.{JournalEntry}
use Rattle.bus_machine.specs.Plans.{plan_of, link_at}
use Rattle.bus_machine.specs.NodeEvents.{is_waiting}
use Rattle.bus_machine.specs.BusStates.{BusState, opening, node_at, flight_at}
use Rattle.bus_machine.specs.RunParameters.{Run}
use Rattle.bus_machine.specs.Nodes.{sent_rounds}
use Rattle.bus_machine.specs.Machine.{BusEvent, Start, Step, Finish, Send, Arrive, Drop, Repeat, IsStep}
use Rattle.bus_machine.specs.Replay.{entries}
use Rattle.bus_machine.specs.declared.node_action.NodeAction.{NodeAction}
use Rattle.bus_machine.specs.ActionsAndTargets.{target, action_of}
use Rattle.run_laws.specs.TraceRules.{is_due}
use Rattle.run_laws.specs.NodeActions.{upcoming}
use Rattle.bus_machine.specs.declared.node_action.NodeAction.TheVariants as action

-- ---- clocks
abbrev pub no_clock : ClockState
no_clock = record { readings = []; left = [] }

abbrev pub clock_at : List ClockState → ℕ → ClockState
clock_at clocks node = slice_index_or clocks node no_clock

-- the readings of all lists; `None` in virtual time
abbrev pub lists_in : Clocks → Option (List (List ℕ))
lists_in Meet = None
lists_in (Lists lists) = Some (map (λ (clock : ClockState). clock.readings) lists)

-- the rest of a node's list at the target of an action
abbrev pub left_for : Run → List ClockState → ℕ → NodeAction → List ℕ
left_for run clocks node action = remaining_from (clock_at clocks node).left (target (plan_of run.design node) action)

-- the reading that a node waits for, or works at; `None` if it is done
abbrev pub target_of : Run → BusState → ℕ → Option ℕ
target_of run s node =
    option_map (target (plan_of run.design node)) (action_of (plan_of run.design node) (node_at s node))

-- no node that is not done has a lesser target
abbrev pub IsLeast : Run → BusState → ℕ → Type 0
IsLeast run s at =
    (other least : ℕ) → other < length run.design.components → target_of run s other ≡ Some least → at ≤ least

-- a node's clock shows this reading for a target: in virtual time the reading is the target, and the smallest target of
-- all; a list's current reading is at least the target
abbrev pub Shows : Run → Clocks → BusState → ℕ → ℕ → ℕ → Type 0
Shows run Meet s node target at = (at ≡ target) × IsLeast run s at
Shows run (Lists clocks) s node target at = (slice_get (clock_at clocks node).left 0 ≡ Some at) × (target ≤ at)

-- a node's list holds no reading for its next target
abbrev pub HasEnded : Run → List ClockState → BusState → ℕ → Type 0
HasEnded run clocks s node =
    (action : NodeAction) × (upcoming (plan_of run.design node) (node_at s node) ≡ Some action)
    × (left_for run clocks node action ≡ [])

-- a node's list picks for its next action
pub record Picks (run : Run) (clocks : List ClockState) (s : BusState) (node : ℕ)
    (later : List ClockState) : Type 0 where
  pub within : node < length run.design.components
  pub action : NodeAction
  pub next : upcoming (plan_of run.design node) (node_at s node) ≡ Some action
  pub clocks_are : later ≡ slice_set clocks node (standing_at (clock_at clocks node) (left_for run clocks node action))

-- ---- events
-- a node does its next action
pub record Does (run : Run) (clocks : Clocks) (s : BusState) (node : NodeNo) (reading : Option ℕ)
    (action : NodeAction) : Type 0 where
  pub within : node.0 < length run.design.components
  pub next : upcoming (plan_of run.design node.0) (node_at s node.0) ≡ Some action
  pub at : ℕ
  pub reading_is : reading ≡ Some at
  pub shows : Shows run clocks s node.0 (target (plan_of run.design node.0) action) at

-- the start of the next round of a node
abbrev pub next_start : BusState → NodeNo → NodeAction
next_start s node = action.Start (node_at s node.0).count

-- all messages that are due to a node have arrived
abbrev pub NoneDue : Run → BusState → ℕ → Option ℕ → Type 0
NoneDue run s node reading =
    (number : ℕ) (link : Link) → slice_get run.design.links number ≡ Some link → link.target.0 ≡ node
    → All (λ copy. is_due reading copy ≡ false) (flight_at s number)

-- with list clocks, each source of a node has sent the round before, or has reached its list's end
abbrev pub IsAwaited : Run → Clocks → BusState → ℕ → Type 0
IsAwaited run Meet s node = Unit {0}
IsAwaited run (Lists clocks) s node =
    (number : ℕ) (link : Link) → slice_get run.design.links number ≡ Some link → link.target.0 ≡ node
    → ((node_at s node).count ≤ sent_rounds (node_at s link.source.0)) ⊎ HasEnded run clocks s link.source.0

-- a node starts its next round
pub record Begins (run : Run) (clocks : Clocks) (s : BusState) (node : NodeNo) (reading : Option ℕ) : Type 0 where
  pub does : Does run clocks s node reading (next_start s node)
  pub taken : NoneDue run s node.0 reading
  pub awaited : IsAwaited run clocks s node.0

-- a message that is due to a node that is to start arrives
pub record Takes (run : Run) (clocks : Clocks) (s : BusState) (link : LinkNo) (round : ℕ)
    (reading : Option ℕ) : Type 0 where
  pub within : link.0 < length run.design.links
  pub does : let node = (link_at run.design link.0).target in Does run clocks s node reading (next_start s node)
  pub waits : is_waiting (node_at s (link_at run.design link.0).target.0).phase ≡ true
  pub copy : FlightCopy
  pub is_copy : oldest round (flight_at s link.0) ≡ Some copy
  pub due : is_due reading copy ≡ true

-- an event respects the clocks; no message is lost or repeated
abbrev pub KeepsTo : Run → Clocks → BusState → BusEvent → Type 0
KeepsTo run clocks s (Start node reading) = Begins run clocks s node reading
KeepsTo run clocks s (Step node reading) = (round step : ℕ) × Does run clocks s node reading (action.Step round step)
KeepsTo run clocks s (Finish node) = node.0 < length run.design.components
KeepsTo run clocks s (Send node reading) = (round : ℕ) × Does run clocks s node reading (action.Send round)
KeepsTo run clocks s (Arrive link round reading) = Takes run clocks s link round reading
KeepsTo run clocks s (Drop link round) = ⊥
KeepsTo run clocks s (Repeat link round) = ⊥

-- ---- runs
-- one list for each node, whose readings don't fall, and none has picked
pub record AreFresh (run : Run) (clocks : List ClockState) : Type 0 where
  pub count : length clocks ≡ length run.design.components
  pub each : (node : ℕ) → node < length clocks → (clock_at clocks node).left ≡ (clock_at clocks node).readings
  pub order : (node : ℕ) → node < length clocks → IsNonDecreasing (clock_at clocks node).readings

abbrev pub HaveFreshClocks : Run → Clocks → Type 0
HaveFreshClocks run Meet = Unit {0}
HaveFreshClocks run (Lists clocks) = AreFresh run clocks

-- the clocks, the journal and the state that steps leave, one after another: a pick of a list, or an event
pub data Runs (run : Run) : Clocks → List JournalEntry → BusState → Type 0 where
  opens : (clocks : Clocks) → HaveFreshClocks run clocks → Runs run clocks [] (opening run)
  picks_for : {clocks later : List ClockState} {journal : List JournalEntry} {s : BusState} (node : ℕ)
      → Runs run (Lists clocks) journal s → Picks run clocks s node later → Runs run (Lists later) journal s
  goes_on : {clocks : Clocks} {journal : List JournalEntry} {s t : BusState} (e : BusEvent)
      → Runs run clocks journal s → KeepsTo run clocks s e → IsStep run s e t
      → Runs run clocks (journal ++ entries run s e) t
