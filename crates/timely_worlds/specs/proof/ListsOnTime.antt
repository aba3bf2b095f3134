-- Lists of timed events, each of which happens at its time.
use Rattle.std.specs.Prelude.{◌≡◌, ℕ, ◌<◌, ◌≤◌, Bool, true, List, [], ◌∷◌, length, Some, slice_get}
use Rattle.pals_base.specs.declared.basic_types.NodeNo.{NodeNo}
use Rattle.pals_base.specs.declared.basic_types.LinkNo.{LinkNo}
use Rattle.pals_model.specs.declared.flight_copy.FlightCopy.{FlightCopy}
use Rattle.pals_runs.specs.declared.events_and_faults.Event.{Event}
use Rattle.pals_runs.specs.declared.events_and_faults.Event.TheVariants as event
use Rattle.pals_runs.specs.declared.phase.Phase.{Phase}
use Rattle.pals_runs.specs.declared.phase.Phase.TheVariants.{Waiting, Running, Between, Holding, Done}
use Rattle.bound_checker.specs.proof.MessageTimes.{IsNear}
use Rattle.bus_machine.specs.Plans.{plan_of}
use Rattle.bus_machine.specs.Nodes.{NodeState, round_of}
use Rattle.bus_machine.specs.NodeEvents.{may_send}
use Rattle.bus_machine.specs.LinkEvents.{is_in_flight}
use Rattle.bus_machine.specs.AlarmsAndReleases.{start_alarm, step_alarm, release_reading}
use Rattle.bus_machine.specs.BusStates.{node_at, flight_at}
use Rattle.bus_machine.specs.RunParameters.{Run}
use Rattle.run_laws.specs.Worlds.{World, reading_at, world_after}
use Rattle.timely_worlds.specs.proof.EventTimes.{EventTimes}

-- ---- a node's events, each once its clock reads its alarm
pub record StartsOnTime (run : Run) (times : EventTimes) (w : World) (node : ℕ) : Type 0 where
  pub within : node < length run.design.components
  pub waits : (node_at w.bus node).phase ≡ Waiting
  pub due : start_alarm (plan_of run.design node) (node_at w.bus node) ≤ reading_at w node
  pub now : w.time ≡ times.starts node (node_at w.bus node).count 0

pub record StepsOnTime (run : Run) (times : EventTimes) (w : World) (node : ℕ) : Type 0 where
  pub within : node < length run.design.components
  pub step : ℕ
  pub waits : (node_at w.bus node).phase ≡ Between step
  pub due : step_alarm (plan_of run.design node) (node_at w.bus node) step ≤ reading_at w node
  pub now : w.time ≡ times.starts node (round_of (node_at w.bus node)) step

pub record FinishesOnTime (run : Run) (times : EventTimes) (w : World) (node : ℕ) : Type 0 where
  pub within : node < length run.design.components
  pub step : ℕ
  pub runs : (node_at w.bus node).phase ≡ Running step
  pub now : w.time ≡ times.finishes node (round_of (node_at w.bus node)) step

pub record SendsOnTime (run : Run) (times : EventTimes) (w : World) (node : ℕ) : Type 0 where
  pub within : node < length run.design.components
  pub may : may_send (plan_of run.design node) (node_at w.bus node) ≡ true
  pub due : release_reading (plan_of run.design node) (node_at w.bus node) ≤ reading_at w node
  pub now : w.time ≡ times.sends node (round_of (node_at w.bus node))

pub record ArrivesOnTime (run : Run) (times : EventTimes) (w : World) (link round : ℕ) : Type 0 where
  pub within : link < length run.design.links
  pub flies : is_in_flight round (flight_at w.bus link) ≡ true
  pub now : w.time ≡ times.arrives link round

-- ---- time passes up to the next event, and not past it
abbrev pub NextIsLater : EventTimes → ℕ → NodeState → ℕ → Phase → Type 0
NextIsLater times node n time Waiting = time ≤ times.starts node n.count 0
NextIsLater times node n time (Running step) = time ≤ times.finishes node (round_of n) step
NextIsLater times node n time (Between steps) = time ≤ times.starts node (round_of n) steps
NextIsLater times node n time Holding = Unit {0}
NextIsLater times node n time Done = Unit {0}

pub record NodeIsLater (run : Run) (times : EventTimes) (w : World) (time node : ℕ) : Type 0 where
  pub next : NextIsLater times node (node_at w.bus node) time (node_at w.bus node).phase
  pub send : may_send (plan_of run.design node) (node_at w.bus node) ≡ true
      → time ≤ times.sends node (round_of (node_at w.bus node))

pub record PassesOnTime (run : Run) (times : EventTimes) (w : World) (time : ℕ) (readings : List ℕ) : Type 0 where
  pub forward : w.time ≤ time
  -- a reading for each clock: it does not go back, and differs from the time by less than the skew
  pub many : length readings ≡ length run.design.components
  pub clocks_forward : (node reading : ℕ) → slice_get readings node ≡ Some reading → reading_at w node ≤ reading
  pub clocks_near : (node reading : ℕ) → slice_get readings node ≡ Some reading
      → IsNear run.design.gamma time reading
  pub nodes : (node : ℕ) → node < length run.design.components → NodeIsLater run times w time node
  pub messages : (link k : ℕ) (copy : FlightCopy) → link < length run.design.links
      → slice_get (flight_at w.bus link) k ≡ Some copy
      → time ≤ times.arrives link copy.round

-- ---- each event of a list in its turn; no message is lost or repeated
abbrev pub IsOnTime : Run → EventTimes → World → Event → Type 0
IsOnTime run times w (event.Pass time readings) = PassesOnTime run times w time readings
IsOnTime run times w (event.Start node) = StartsOnTime run times w node.0
IsOnTime run times w (event.Step node) = StepsOnTime run times w node.0
IsOnTime run times w (event.Finish node) = FinishesOnTime run times w node.0
IsOnTime run times w (event.Send node) = SendsOnTime run times w node.0
IsOnTime run times w (event.Arrive link round) = ArrivesOnTime run times w link.0 round
IsOnTime run times w (event.Drop link round) = ⊥
IsOnTime run times w (event.Repeat link round) = ⊥

abbrev pub AreOnTime : Run → EventTimes → World → List Event → Type 0
AreOnTime run times w [] = Unit {0}
AreOnTime run times w (e ∷ events) =
    IsOnTime run times w e × AreOnTime run times (world_after run w e) events
