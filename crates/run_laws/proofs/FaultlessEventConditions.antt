-- Consequences of an event without a fault in a world: its node or link exists, the node or link may do the event, and
-- the event is in time.
use Rattle.std.proofs.Common.{◌≡◌, ℕ, ◌+◌, ◌<◌, ◌≤◌, Bool, true, false, length, Option, Some, None, refl}
use Rattle.std.specs.Prelude.{not, nat_lt, is_some, if◌then◌else◌}
use Rattle.std.specs.Option.{unwrap_or}
use Rattle.std.proofs.lemmas.Bool.{ltb-true, ltb-false, not-false}
use Rattle.pals_base.specs.declared.basic_types.NodeNo.{NodeNo}
use Rattle.pals_base.specs.declared.basic_types.LinkNo.{LinkNo}
use Rattle.pals_runs.specs.declared.events_and_faults.Event.{Event}
use Rattle.pals_runs.specs.declared.events_and_faults.Event.TheVariants as event
use Rattle.pals_runs.specs.declared.events_and_faults.EventFault.{EventFault}
use Rattle.pals_runs.specs.declared.events_and_faults.EventFault.TheVariants as fault
use Rattle.pals_runs.specs.declared.events_and_faults.EventSubject.TheVariants as which
use Rattle.bus_machine.specs.Plans.{plan_of}
use Rattle.bus_machine.specs.NodeEvents.{is_waiting, next_step, running_step, may_send}
use Rattle.bus_machine.specs.LinkEvents.{is_in_flight}
use Rattle.bus_machine.specs.AlarmsAndReleases.{start_alarm, step_alarm, release_reading}
use Rattle.bus_machine.specs.BusStates.{node_at, flight_at}
use Rattle.bus_machine.specs.RunParameters.{Run}
use Rattle.bus_machine.specs.Machine.{Start, Step, Finish, Send}
use Rattle.run_laws.specs.Worlds.{World, reading_at, since_at, flight_since}
use Rattle.run_laws.specs.EventFaults.{fault_of, event_fault, is_named, found_if, wrong_phase, no_message, not_due}
use Rattle.run_laws.specs.EventFaults.{too_soon}
use Rattle.run_laws.proofs.Lists.{both_none}

pub none_if : (b : Bool) (why : EventFault) → found_if b why ≡ None → b ≡ false
none_if true why none = absurd (cc)
none_if false why none = refl

named_by : (b : Bool) (o : Option EventFault) (why : EventFault) → (if b then o else Some why) ≡ None
    → (b ≡ true) × (o ≡ None)
named_by true o why none = (refl, none)
named_by false o why none = absurd (cc)

pub named : (run : Run) (w : World) (e : Event) → fault_of run w e ≡ None
    → (is_named run e ≡ true) × (event_fault run w e ≡ None)
named run w e none = named_by (is_named run e) (event_fault run w e) fault.BadName none

-- ---- each event
pub record FaultlessStart (run : Run) (w : World) (node : NodeNo) : Type 0 where
  pub within : node.0 < length run.design.components
  pub waits : is_waiting (node_at w.bus node.0).phase ≡ true
  pub due : start_alarm (plan_of run.design node.0) (node_at w.bus node.0) ≤ reading_at w node.0

pub starts_in_time : (run : Run) (w : World) (node : NodeNo) → fault_of run w (event.Start node) ≡ None
    → FaultlessStart run w node
starts_in_time run w node none =
    let parts = named run w (event.Start node) none in
    let alarm = start_alarm (plan_of run.design node.0) (node_at w.bus node.0) in
    let both = both_none (wrong_phase run w node (Start node None)) (not_due w node alarm) parts.1 in
    record {
      within = ltb-true node.0 (length run.design.components) parts.0;
      waits =
          not-false (is_waiting (node_at w.bus node.0).phase)
          (none_if (not (is_waiting (node_at w.bus node.0).phase)) (fault.WrongPhase node) both.0);
      due =
          ltb-false (reading_at w node.0) alarm
          (none_if (nat_lt (reading_at w node.0) alarm) (fault.NotDue node alarm (reading_at w node.0)) both.1);
    }

pub record FaultlessStep (run : Run) (w : World) (node : NodeNo) : Type 0 where
  pub within : node.0 < length run.design.components
  pub waits : is_some (next_step (node_at w.bus node.0).phase) ≡ true
  pub due : step_alarm (plan_of run.design node.0) (node_at w.bus node.0)
      (unwrap_or (next_step (node_at w.bus node.0).phase) 0) ≤ reading_at w node.0

pub steps_in_time : (run : Run) (w : World) (node : NodeNo) → fault_of run w (event.Step node) ≡ None
    → FaultlessStep run w node
steps_in_time run w node none =
    let parts = named run w (event.Step node) none in
    let next = next_step (node_at w.bus node.0).phase in
    let alarm = step_alarm (plan_of run.design node.0) (node_at w.bus node.0) (unwrap_or next 0) in
    let both = both_none (wrong_phase run w node (Step node None)) (not_due w node alarm) parts.1 in
    record {
      within = ltb-true node.0 (length run.design.components) parts.0;
      waits = not-false (is_some next) (none_if (not (is_some next)) (fault.WrongPhase node) both.0);
      due =
          ltb-false (reading_at w node.0) alarm
          (none_if (nat_lt (reading_at w node.0) alarm) (fault.NotDue node alarm (reading_at w node.0)) both.1);
    }

pub record FaultlessFinish (run : Run) (w : World) (node : NodeNo) : Type 0 where
  pub within : node.0 < length run.design.components
  pub runs : is_some (running_step (node_at w.bus node.0).phase) ≡ true

pub finishes_in_time : (run : Run) (w : World) (node : NodeNo) → fault_of run w (event.Finish node) ≡ None
    → FaultlessFinish run w node
finishes_in_time run w node none =
    let parts = named run w (event.Finish node) none in
    let step = running_step (node_at w.bus node.0).phase in
    let both =
    both_none (wrong_phase run w node (Finish node))
    (too_soon w (which.Node node) (since_at w node.0 + run.design.gamma.alpha_min)) parts.1 in
    record {
      within = ltb-true node.0 (length run.design.components) parts.0;
      runs = not-false (is_some step) (none_if (not (is_some step)) (fault.WrongPhase node) both.0);
    }

pub record FaultlessSend (run : Run) (w : World) (node : NodeNo) : Type 0 where
  pub within : node.0 < length run.design.components
  pub may : may_send (plan_of run.design node.0) (node_at w.bus node.0) ≡ true
  pub due : release_reading (plan_of run.design node.0) (node_at w.bus node.0) ≤ reading_at w node.0

pub sends_in_time : (run : Run) (w : World) (node : NodeNo) → fault_of run w (event.Send node) ≡ None
    → FaultlessSend run w node
sends_in_time run w node none =
    let parts = named run w (event.Send node) none in
    let may = may_send (plan_of run.design node.0) (node_at w.bus node.0) in
    let alarm = release_reading (plan_of run.design node.0) (node_at w.bus node.0) in
    let both = both_none (wrong_phase run w node (Send node None)) (not_due w node alarm) parts.1 in
    record {
      within = ltb-true node.0 (length run.design.components) parts.0;
      may = not-false may (none_if (not may) (fault.WrongPhase node) both.0);
      due =
          ltb-false (reading_at w node.0) alarm
          (none_if (nat_lt (reading_at w node.0) alarm) (fault.NotDue node alarm (reading_at w node.0)) both.1);
    }

pub record FaultlessArrival (run : Run) (w : World) (link : LinkNo) (round : ℕ) : Type 0 where
  pub within : link.0 < length run.design.links
  pub flies : is_in_flight round (flight_at w.bus link.0) ≡ true
  pub carried : flight_since run w link.0 round + run.design.gamma.mu_min ≤ w.time

pub arrives_in_time : (run : Run) (w : World) (link : LinkNo) (round : ℕ)
    → fault_of run w (event.Arrive link round) ≡ None → FaultlessArrival run w link round
arrives_in_time run w link round none =
    let parts = named run w (event.Arrive link round) none in
    let flies = is_in_flight round (flight_at w.bus link.0) in
    let earliest = flight_since run w link.0 round + run.design.gamma.mu_min in
    let both = both_none (no_message run w link round) (too_soon w (which.Message link round) earliest) parts.1 in
    record {
      within = ltb-true link.0 (length run.design.links) parts.0;
      flies = not-false flies (none_if (not flies) (fault.NoSuchMessage link round) both.0);
      carried =
          ltb-false w.time earliest
          (none_if (nat_lt w.time earliest) (fault.TooSoon (which.Message link round) earliest) both.1);
    }
