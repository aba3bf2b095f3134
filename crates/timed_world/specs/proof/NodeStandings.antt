-- The progress of a node in its rounds, by numbers: when these are in range, which events of the node are faults
-- then, and the last time that it allows.
use Rattle.std.specs.Prelude.{◌≡◌, ℕ, ◌+◌, ◌-◌, ◌*◌, ◌<◌, ◌≤◌, max, nat_lt, nat_le, Bool, not, ◌&&◌, false}
use Rattle.std.specs.Prelude.{if◌then◌else◌, Option, Some, None, is_some}
use Rattle.std.specs.Option.{unwrap_or, option_map_or}
use Rattle.pals_base.specs.declared.limits.TheConstants.{ROUNDS, READING}
use Rattle.pals_base.specs.declared.period_bound_and_releases.Gamma.{Gamma}
use Rattle.pals_base.specs.PeriodBoundAndReleases.{alarm}
use Rattle.pals_runs.specs.declared.phase.Phase.{Phase}
use Rattle.pals_runs.specs.declared.phase.Phase.TheVariants.{Waiting, Running, Between, Holding, Done}
use Rattle.pals_runs.specs.declared.events_and_faults.EventFault.{EventFault}
use Rattle.bus_machine.specs.declared.plan.Plan.{Plan}
use Rattle.bus_machine.specs.Nodes.{finished_steps}
use Rattle.bus_machine.specs.NodeEvents.{is_waiting, next_step, running_step}
use Rattle.bus_machine.specs.BusStates.{node_at}
use Rattle.run_laws.specs.Worlds.{World, reading_at, since_at, ready_at}
use Rattle.run_laws.specs.Deadlines.{last_before, lesser}
use Rattle.run_laws.specs.EventFaults.{found_if, or_else}
use Rattle.timed_world.specs.declared.node_standing.NodeStanding.{NodeStanding}
use Rattle.pals_runs.specs.declared.events_and_faults.EventFault.TheVariants as fault
use Rattle.pals_runs.specs.declared.events_and_faults.EventSubject.TheVariants as subject

-- ---- a node of a world
abbrev pub standing_of : World → ℕ → NodeStanding
standing_of w node = record {
  count = (node_at w.bus node).count;
  phase = (node_at w.bus node).phase;
  sent = (node_at w.bus node).sent;
  reading = reading_at w node;
  since = since_at w node;
  ready = ready_at w node;
}

-- a step that is out is one of the round, since a moment that is in range
pub record RunsStep (plan : Plan) (s : NodeStanding) (step : ℕ) : Type 0 where
  pub within : step < plan.rate
  pub since : s.since ≤ READING

-- its numbers are in range
pub record IsSound (plan : Plan) (s : NodeStanding) : Type 0 where
  pub count : s.count ≤ ROUNDS
  pub between : (steps : ℕ) → s.phase ≡ Between steps → steps < plan.rate
  pub running : (step : ℕ) → s.phase ≡ Running step → RunsStep plan s step

-- ---- alarms
abbrev pub alarm_of_step : Plan → NodeStanding → ℕ → ℕ
alarm_of_step plan s step = alarm plan.period (s.count - 1) + step * plan.step_period

abbrev pub release_of : Plan → NodeStanding → ℕ
release_of plan s = alarm plan.period (s.count - 1) + plan.release_offset

abbrev pub may_send_round : Plan → NodeStanding → Bool
may_send_round plan s = not s.sent && option_map_or (nat_le plan.sent_steps) (finished_steps plan.rate s.phase) false

-- ---- faults
-- its reading is below this alarm
abbrev pub below : Plan → NodeStanding → ℕ → Option EventFault
below plan s at = found_if (nat_lt s.reading at) (fault.NotDue plan.node at s.reading)

abbrev pub wrong_unless : Plan → Bool → Option EventFault
wrong_unless plan fits = found_if (not fits) (fault.WrongPhase plan.node)

abbrev pub start_fault : Plan → NodeStanding → Option EventFault
start_fault plan s = or_else (wrong_unless plan (is_waiting s.phase)) (below plan s (alarm plan.period s.count))

abbrev pub step_fault : Plan → NodeStanding → Option EventFault
step_fault plan s =
    or_else (wrong_unless plan (is_some (next_step s.phase)))
    (below plan s (alarm_of_step plan s (unwrap_or (next_step s.phase) 0)))

abbrev pub finish_fault : Plan → NodeStanding → ℕ → ℕ → Option EventFault
finish_fault plan s time alpha_min =
    or_else (wrong_unless plan (is_some (running_step s.phase)))
    (found_if (nat_lt time (s.since + alpha_min)) (fault.TooSoon (subject.Node plan.node) (s.since + alpha_min)))

abbrev pub send_fault : Plan → NodeStanding → Option EventFault
send_fault plan s = or_else (wrong_unless plan (may_send_round plan s)) (below plan s (release_of plan s))

-- ---- the last time
abbrev pub phase_last : Plan → NodeStanding → Gamma → Phase → Option ℕ
phase_last plan s g Waiting = Some (last_before (alarm plan.period s.count) g.eps)
phase_last plan s g (Running step) = Some (s.since + g.alpha_max)
phase_last plan s g (Between steps) = Some (last_before (alarm_of_step plan s steps) g.eps)
phase_last plan s g Holding = None
phase_last plan s g Done = None

abbrev pub send_last : Plan → NodeStanding → Gamma → Option ℕ
send_last plan s g = if may_send_round plan s then Some (max s.ready (last_before (release_of plan s) g.eps)) else None

abbrev pub last_time : Plan → NodeStanding → Gamma → Option ℕ
last_time plan s g = lesser (phase_last plan s g s.phase) (send_last plan s g)
