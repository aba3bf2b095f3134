-- For the calls of a node: what the bus machine leaves after each event, and when it allows it, in each case that
-- the code is in.
use Rattle.std.proofs.Common.{◌≡◌, ℕ, ◌-◌, ◌<◌, ◌≤◌, true, false, List, [], length, min, Option, Some, None, refl, ap}
use Rattle.std.proofs.Common.{arith}
use Rattle.std.specs.Prelude.{is_some, option_map, slice_index_or}
use Rattle.pals_base.specs.declared.limits.TheConstants.{HOUR}
use Rattle.pals_base.specs.declared.basic_types.PortValue.{PortValue}
use Rattle.pals_base.specs.declared.basic_types.NodeNo.{NodeNo}
use Rattle.pals_model.specs.declared.delays.Delays.{Delays}
use Rattle.pals_model.specs.declared.flight_copy.FlightCopy.{FlightCopy}
use Rattle.pals_model.specs.Delays.{AreDelays, IsDelayList, delay_of}
use Rattle.pals_model.specs.ComponentInputs.{values_at}
use Rattle.pals_runs.specs.declared.phase.Phase.TheVariants.{Running, Between, Waiting}
use Rattle.bus_machine.specs.Plans.{plan_of}
use Rattle.bus_machine.specs.NodeEvents.{is_waiting, missing, started, next_step, stepped, running_step, finished}
use Rattle.bus_machine.specs.LinkEvents.{tuple_in}
use Rattle.bus_machine.specs.BusStates.{BusState, node_at, with_node}
use Rattle.bus_machine.specs.RunParameters.{Run}
use Rattle.bus_machine.specs.MissedMessages.{missing_link, link_into}
use Rattle.bus_machine.specs.Machine.{Start, Step, Finish, is_allowed, missed_stop, after_start, on_step, after}

-- ---- Start
pub start_after : (run : Run) (s : BusState) (node : NodeNo) (reading : Option ℕ)
    → missing (plan_of run.design node.0) (node_at s node.0) ≡ None
    → after run s (Start node reading)
    ≡ with_node s node.0 (started (plan_of run.design node.0) (values_at run.env (node_at s node.0).count)
    (node_at s node.0))
start_after run s node reading none =
    ap (λ m. after_start run s node reading (option_map (link_into run.design node.0) m)) none

pub start_told : (run : Run) (s : BusState) (node : NodeNo)
    → missing (plan_of run.design node.0) (node_at s node.0) ≡ None → missing_link run s node.0 ≡ None
start_told run s node none = ap (option_map (link_into run.design node.0)) none

pub missed_told : (run : Run) (s : BusState) (node : NodeNo) (port : ℕ)
    → missing (plan_of run.design node.0) (node_at s node.0) ≡ Some port
    → missing_link run s node.0 ≡ Some (link_into run.design node.0 port)
missed_told run s node port is = ap (option_map (link_into run.design node.0)) is

pub missed_after : (run : Run) (s : BusState) (node : NodeNo) (reading : Option ℕ) (port : ℕ)
    → missing (plan_of run.design node.0) (node_at s node.0) ≡ Some port
    → after run s (Start node reading)
    ≡ record s { stop = Some (missed_stop run s node reading (link_into run.design node.0 port)) }
missed_after run s node reading port is =
    ap (λ m. after_start run s node reading (option_map (link_into run.design node.0) m)) is

pub start_allowed : (run : Run) (s : BusState) (node : NodeNo) (reading : Option ℕ) → (node_at s node.0).phase ≡ Waiting
    → is_allowed run s (Start node reading) ≡ true
start_allowed run s node reading waits = ap is_waiting waits

-- ---- Step
pub step_allowed : (run : Run) (s : BusState) (node : NodeNo) (reading : Option ℕ) (step : ℕ)
    → (node_at s node.0).phase ≡ Between step → is_allowed run s (Step node reading) ≡ true
step_allowed run s node reading step is = ap (λ p. is_some (next_step p)) is

pub step_after : (run : Run) (s : BusState) (node : NodeNo) (reading : Option ℕ) (step : ℕ)
    → (node_at s node.0).phase ≡ Between step
    → after run s (Step node reading) ≡ with_node s node.0 (stepped step (node_at s node.0))
step_after run s node reading step is =
    ap (λ p. on_step (next_step p) s (λ k. with_node s node.0 (stepped k (node_at s node.0)))) is

-- ---- Finish
pub finish_allowed : (run : Run) (s : BusState) (node : NodeNo) (step : ℕ) → (node_at s node.0).phase ≡ Running step
    → is_allowed run s (Finish node) ≡ true
finish_allowed run s node step is = ap (λ p. is_some (running_step p)) is

pub finish_after : (run : Run) (s : BusState) (node : NodeNo) (step : ℕ) → (node_at s node.0).phase ≡ Running step
    → after run s (Finish node)
    ≡ with_node s node.0 (finished (plan_of run.design node.0) run.rounds step (node_at s node.0))
finish_after run s node step is =
    ap (λ p. on_step (running_step p) s
    (λ k. with_node s node.0 (finished (plan_of run.design node.0) run.rounds k (node_at s node.0)))) is

-- ---- messages
pub taken_flies : (o : Option FlightCopy) (tuple : List PortValue)
    → option_map (λ (c : FlightCopy). c.tuple) o ≡ Some tuple
    → is_some o ≡ true
taken_flies None tuple is = absurd (cc)
taken_flies (Some copy) tuple is = refl

pub taken_is : (o : Option FlightCopy) (tuple : List PortValue)
    → option_map (λ (c : FlightCopy). c.tuple) o ≡ Some tuple
    → tuple_in o ≡ tuple
taken_is None tuple is = absurd (cc)
taken_is (Some copy) tuple is = cc

pub none_flies : (o : Option FlightCopy) → option_map (λ (c : FlightCopy). c.tuple) o ≡ None → is_some o ≡ false
none_flies None is = refl
none_flies (Some copy) is = absurd (cc)

-- ---- delays
pub delay_at_most : (links : ℕ) (delays : Delays) (link round : ℕ) → AreDelays links delays → link < links
    → delay_of delays link round ≤ HOUR
delay_at_most links delays link round are within =
    let list = slice_index_or delays.lists link [] in
    let count = are.each in
    let is : IsDelayList list = are.lists link [] (omega (arith, count, within)) in
    let some = is.some' in
    is.within (min round (length list - 1)) 0 (omega (arith, some))
