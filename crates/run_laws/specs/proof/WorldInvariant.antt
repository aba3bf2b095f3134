-- The invariant of a world while its events are within the bounds: its clocks, nodes and messages relative to its
-- time. All times and readings are nanoseconds.
use Rattle.std.specs.Prelude.{◌≡◌, ℕ, suc, ◌+◌, ◌-◌, ◌*◌, ◌<◌, ◌≤◌, max, nat_eq, nat_lt, ◌&&◌, Bool, true, false, cond}
use Rattle.std.specs.Prelude.{List, length, Option, Some, None, is_some, slice_index_or}
use Rattle.std.specs.List.{count_by}
use Rattle.pals_base.specs.declared.period_bound_and_releases.Gamma.{Gamma}
use Rattle.pals_base.specs.declared.basic_types.PortValue.{PortValue}
use Rattle.pals_base.specs.PeriodBoundAndReleases.{backoff, alarm}
use Rattle.pals_model.specs.declared.flight_copy.FlightCopy.{FlightCopy}
use Rattle.pals_model.specs.Flights.{is_of}
use Rattle.pals_runs.specs.declared.phase.Phase.TheVariants.{Running}
use Rattle.bound_checker.specs.proof.MessageTimes.{IsNear}
use Rattle.bus_machine.specs.declared.plan.Plan.{Plan}
use Rattle.bus_machine.specs.Plans.{plan_of, link_at}
use Rattle.bus_machine.specs.Nodes.{NodeState, round_of, finished_steps, sent_rounds}
use Rattle.bus_machine.specs.NodeEvents.{may_send, slot_at}
use Rattle.bus_machine.specs.LinkEvents.{is_in_flight}
use Rattle.bus_machine.specs.AlarmsAndReleases.{step_alarm}
use Rattle.bus_machine.specs.BusStates.{node_at, flight_at}
use Rattle.bus_machine.specs.RunParameters.{Run}
use Rattle.bus_machine.specs.MissedMessages.{rounds_sent_on}
use Rattle.bus_machine.specs.Agreement.{Agrees}
use Rattle.run_laws.specs.Worlds.{World, reading_at, since_at, ready_at, sendings}
use Rattle.run_laws.specs.Deadlines.{node_deadline, message_deadline}

-- ---- times
-- the time is at most this last allowed time, where there is one
abbrev pub KeepsDeadline : ℕ → Option ℕ → Type 0
KeepsDeadline time None = Unit {0}
KeepsDeadline time (Some last) = time ≤ last

-- ---- a node
-- its step is out since a moment that is less than the skew before or after the step's alarm, and not to come
pub record RunsSince (g : Gamma) (alarm time since : ℕ) : Type 0 where
  pub due : alarm < since + g.eps
  pub prompt : since < alarm + g.eps
  pub past : since ≤ time

-- the steps of the next send are finished since a moment, at most the maximum execution time after the last sent step
-- could start
pub record IsReadySince (g : Gamma) (alarm time ready : ℕ) : Type 0 where
  pub prompt : ready < alarm + g.eps + g.alpha_max
  pub past : ready ≤ time

pub record KeepsNode (g : Gamma) (plan : Plan) (n : NodeState) (time since ready : ℕ) : Type 0 where
  -- the round in hand has started, so its alarm is due
  pub started : 0 < n.count → alarm plan.period (round_of n) < time + g.eps
  -- and so is that of each step that is finished
  pub finished : (step : ℕ) → finished_steps plan.rate n.phase ≡ Some (suc step) → step_alarm plan n step < time + g.eps
  pub running : (step : ℕ) → n.phase ≡ Running step → RunsSince g (step_alarm plan n step) time since
  -- and the moment since which the steps of the next send are finished
  pub unsent : may_send plan n ≡ true → IsReadySince g (step_alarm plan n (plan.sent_steps - 1)) time ready

-- ---- what a node has sent
-- a message of a round went into flight at a moment: not before its release was due, and not later than a node waits
-- for its clock, or for the last step that is sent
pub record IsSentAt (g : Gamma) (plan : Plan) (round time moment : ℕ) : Type 0 where
  pub due : alarm plan.period round + plan.release_offset < moment + g.eps
  pub prompt : moment < alarm plan.period round + g.eps
      + max (backoff g) ((plan.sent_steps - 1) * plan.step_period + g.alpha_max)
  pub past : moment ≤ time

-- a moment for each round that it has sent
pub record KeepsSends (g : Gamma) (plan : Plan) (n : NodeState) (time : ℕ) (moments : List ℕ) : Type 0 where
  pub each : length moments ≡ sent_rounds n
  pub sent : (round : ℕ) → round < length moments → IsSentAt g plan round time (slice_index_or moments round 0)

-- ---- a round of a link
abbrev pub one_if : Bool → ℕ
one_if b = cond b 1 0

-- how many copies of its message are in flight
abbrev pub copies : ℕ → List FlightCopy → ℕ
copies round flight = count_by (is_of round) flight

-- a target that has started `count` rounds has the message of this round in its slot
abbrev pub waits : ℕ → Option (List PortValue) → ℕ → Bool
waits count slot round = nat_eq count (round + 1) && is_some slot

-- or has started the next round with it
abbrev pub taken : ℕ → ℕ → Bool
taken count round = nat_lt (round + 1) count

-- a message that the source has sent is in one place: in flight, in the slot, or taken; one that it has not sent is
-- in none
abbrev pub IsOnce : ℕ → Option (List PortValue) → ℕ → List FlightCopy → ℕ → Type 0
IsOnce count slot sent flight round =
    copies round flight + one_if (waits count slot round) + one_if (taken count round) ≡ one_if (nat_lt round sent)

-- read case by case: one copy is in flight, and its target has not yet started the next round; or the message is in
-- the slot of the target that has started its round; or the target has started the next round
pub record Flies (count : ℕ) (slot : Option (List PortValue)) (flight : List FlightCopy) (round : ℕ) : Type 0 where
  pub one_copy : copies round flight ≡ 1
  pub not_in_slot : waits count slot round ≡ false
  pub before : count ≤ round + 1

pub record IsInSlot (count : ℕ) (slot : Option (List PortValue)) (flight : List FlightCopy) (round : ℕ) : Type 0 where
  pub no_copy : copies round flight ≡ 0
  pub in_slot : is_some slot ≡ true
  pub last : count ≡ round + 1

pub record IsTaken (count : ℕ) (flight : List FlightCopy) (round : ℕ) : Type 0 where
  pub no_copy : copies round flight ≡ 0
  pub past : round + 1 < count

-- of a round that the source has not sent there is no copy, and the target has not started the round after
pub record IsNowhere (count : ℕ) (slot : Option (List PortValue)) (flight : List FlightCopy) (round : ℕ) : Type 0 where
  pub no_copy : copies round flight ≡ 0
  pub not_in_slot : waits count slot round ≡ false
  pub before : count ≤ round + 1

-- ---- the world
-- there is a reading and a moment for each node
pub record HasMoments (run : Run) (w : World) : Type 0 where
  pub readings : length w.readings ≡ length run.design.components
  pub since : length w.since ≡ length run.design.components
  pub ready : length w.ready ≡ length run.design.components
  pub sent_at : length w.sent_at ≡ length run.design.components

pub record KeepsLink (run : Run) (w : World) (number target port : ℕ) : Type 0 where
  pub once : (round : ℕ)
      → IsOnce (node_at w.bus target).count (slot_at (node_at w.bus target) port) (rounds_sent_on run w.bus number)
      (flight_at w.bus number) round
  pub in_time : (round : ℕ) → is_in_flight round (flight_at w.bus number) ≡ true
      → w.time ≤ message_deadline run w number round

pub record KeepsTime (run : Run) (w : World) : Type 0 where
  -- the run has no stop, and the bus agrees with the composition
  pub going : w.bus.stop ≡ None
  pub agrees : Agrees run w.bus
  pub moments : HasMoments run w
  -- each reading differs from the time by less than the skew
  pub clocks : (node : ℕ) → node < length run.design.components → IsNear run.design.gamma w.time (reading_at w node)
  -- the time is at most every last allowed time
  pub in_time : (node : ℕ) → node < length run.design.components → KeepsDeadline w.time (node_deadline run w node)
  pub nodes : (node : ℕ) → node < length run.design.components
      → KeepsNode run.design.gamma (plan_of run.design node) (node_at w.bus node) w.time (since_at w node)
      (ready_at w node)
  pub sends : (node : ℕ) → node < length run.design.components
      → KeepsSends run.design.gamma (plan_of run.design node) (node_at w.bus node) w.time (sendings w node)
  pub links : (number : ℕ) → number < length run.design.links
      → KeepsLink run w number (link_at run.design number).target.0 (link_at run.design number).in_port
