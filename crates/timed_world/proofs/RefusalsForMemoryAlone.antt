-- A bus rejects an event without a fault only if memory runs out.
use Rattle.std.proofs.Common.{◌≡◌, ◌≢◌, inl, inr, ℕ, ◌≤◌, Some, None, refl, ap, ◌∙◌, sym, subst}
use Rattle.std.specs.Prelude.{unwrap_or}
use Rattle.std.proofs.lemmas.Bool.{false≢true, le-ltb}
use Rattle.std.proofs.lemmas.Option.{none-some}
use Rattle.pals_base.specs.declared.limits.TheConstants.{READING}
use Rattle.pals_base.specs.declared.basic_types.NodeNo.{NodeNo}
use Rattle.pals_base.specs.declared.basic_types.LinkNo.{LinkNo}
use Rattle.pals_runs.specs.declared.events_and_faults.Event.TheVariants as event
use Rattle.pals_runs.specs.declared.phase.Phase.{Phase}
use Rattle.pals_runs.specs.declared.phase.Phase.TheVariants.{Done}
use Rattle.bus_machine.specs.Plans.{plan_of}
use Rattle.bus_machine.specs.Nodes.{finished_steps}
use Rattle.bus_machine.specs.NodeEvents.{is_waiting, next_step}
use Rattle.bus_machine.specs.AlarmsAndReleases.{step_alarm}
use Rattle.bus_machine.specs.BusStates.{BusState, node_at}
use Rattle.bus_machine.specs.Machine.{Start, after}
use Rattle.pals_node.specs.declared.refusals.StartEnd.{StartEnd}
use Rattle.pals_node.specs.declared.refusals.StartEnd.TheVariants as start
use Rattle.pals_node.specs.declared.refusals.StepEnd.{StepEnd}
use Rattle.pals_node.specs.declared.refusals.StepEnd.TheVariants as step
use Rattle.pals_bus.specs.declared.bus_error.BusError.{BusError}
use Rattle.pals_bus.specs.declared.bus_error.BusError.TheVariants as fault
use Rattle.pals_bus.specs.declared.bus_error.MessageError.{MessageError}
use Rattle.pals_bus.specs.declared.bus_error.MessageError.TheVariants as message
use Rattle.pals_bus.specs.BusValues.{BusValue}
use Rattle.pals_bus.specs.proof.Answers.{BusStartEnds, BusStepEnds, LinkEnds}
use Rattle.pals_bus.proofs.LooseStopsAndFaults.{busy_waits_not, no_next_step}
use Rattle.run_laws.specs.Worlds.{reading_at}
use Rattle.run_laws.proofs.FaultlessEventConditions.{starts_in_time, steps_in_time, sends_in_time, arrives_in_time}
use Rattle.run_laws.proofs.WorldNodeTiming.{may_is}
use Rattle.run_laws.proofs.WorldTimeRanges.{times_are_readings}
use Rattle.run_laws.proofs.KeptWorldInvariant.{event_keeps_time}
use Rattle.timed_world.specs.proof.WorldValuesAndMoves.{WorldValue, world_of, KeepsWorld}
use Rattle.timed_world.proofs.EventEffects.{HasNoFault, Reads}

-- the run has no stop after a start
start_goes : (old : WorldValue) (node : NodeNo) (new : BusState) → KeepsWorld old → HasNoFault old (event.Start node)
    → new ≡ after old.bus.run old.bus.state (Start node (Some (reading_at (world_of old) node.0))) → new.stop ≡ None
start_goes old node new keeps fine is =
    ap (λ (s : BusState). s.stop) is
    ∙ (event_keeps_time old.bus.run (world_of old) (event.Start node) keeps.rules keeps.keeps fine).going

-- a start is rejected only if memory runs out, and then the bus is as before
start_ends : (old : WorldValue) (node : NodeNo) (new : BusValue) (end : BusError StartEnd) → KeepsWorld old
    → HasNoFault old (event.Start node)
    → BusStartEnds old.bus node (Some (reading_at (world_of old) node.0)) new end
    → (end ≡ fault.Refused start.Memory) × (new ≡ old.bus)
start_ends old node new (fault.Stopped why) keeps fine cause = elim cause [
  | inl stood ↦ absurd (none-some why (sym keeps.keeps.going ∙ stood.0))
  | inr misses ↦ absurd (none-some why
      (sym (start_goes old node new.state keeps fine misses.happens.step.state) ∙ misses.stops))
]
start_ends old node new (fault.Refused (start.NotYet alarm)) keeps fine cause =
    let clock = reading_at (world_of old) node.0 in
    let due : alarm ≤ clock =
    subst (λ a. a ≤ clock) (sym cause.cause.1) (starts_in_time old.bus.run (world_of old) node fine).due in
    absurd (false≢true (sym (le-ltb clock alarm due) ∙ cause.cause.2))
start_ends old node new (fault.Refused start.Busy) keeps fine cause =
    absurd (false≢true (sym (busy_waits_not (node_at old.bus.state node.0).phase cause.cause)
    ∙ (starts_in_time old.bus.run (world_of old) node fine).waits))
start_ends old node new (fault.Refused start.Over) keeps fine cause =
    absurd (false≢true (sym (ap is_waiting cause.cause) ∙ (starts_in_time old.bus.run (world_of old) node fine).waits))
start_ends old node new (fault.Refused (start.Missed port)) keeps fine cause = absurd (cause.misses_none port refl)
start_ends old node new (fault.Refused start.Memory) keeps fine cause = (refl, cause.same)

pub start_only : (old : WorldValue) (node : NodeNo) (reading : ℕ) (new : BusValue) (end : BusError StartEnd)
    → KeepsWorld old → HasNoFault old (event.Start node)
    → Reads old node reading → BusStartEnds old.bus node (Some reading) new end
    → (end ≡ fault.Refused start.Memory) × (new ≡ old.bus)
start_only old node reading new end keeps fine reads cause =
    start_ends old node new end keeps fine (subst (λ at. BusStartEnds old.bus node (Some at) new end) reads cause)

-- a step is rejected only if memory runs out
step_ends : (old : WorldValue) (node : NodeNo) (end : BusError StepEnd) → KeepsWorld old
    → HasNoFault old (event.Step node)
    → BusStepEnds old.bus node (Some (reading_at (world_of old) node.0)) end → end ≡ fault.Refused step.Memory
step_ends old node (fault.Stopped why) keeps fine cause = absurd (none-some why (sym keeps.keeps.going ∙ cause))
step_ends old node (fault.Refused step.NotBetween) keeps fine cause =
    absurd (false≢true (sym (no_next_step (node_at old.bus.state node.0).phase cause.1)
    ∙ (steps_in_time old.bus.run (world_of old) node fine).waits))
step_ends old node (fault.Refused (step.NotYet alarm)) keeps fine cause =
    let n = node_at old.bus.state node.0 in
    let alarm_of = step_alarm (plan_of old.bus.run.design node.0) n in
    let clock = reading_at (world_of old) node.0 in
    let early = cause.1 in
    let next : next_step n.phase ≡ Some early.0 = ap next_step early.1 in
    let due : alarm_of early.0 ≤ clock =
    subst (λ o. alarm_of (unwrap_or o 0) ≤ clock) next (steps_in_time old.bus.run (world_of old) node fine).due in
    absurd (false≢true (sym (le-ltb clock alarm (subst (λ a. a ≤ clock) (sym early.2) due)) ∙ early.3))
step_ends old node (fault.Refused step.Memory) keeps fine cause = refl

pub step_only : (old : WorldValue) (node : NodeNo) (reading : ℕ) (end : BusError StepEnd)
    → KeepsWorld old → HasNoFault old (event.Step node)
    → Reads old node reading → BusStepEnds old.bus node (Some reading) end → end ≡ fault.Refused step.Memory
step_only old node reading end keeps fine reads cause =
    step_ends old node end keeps fine (subst (λ at. BusStepEnds old.bus node (Some at) end) reads cause)

-- an arrival is rejected only if memory runs out
pub arrival_only : (old : WorldValue) (link : LinkNo) (round : ℕ) (end : BusError MessageError) → KeepsWorld old
    → HasNoFault old (event.Arrive link round) → LinkEnds old.bus link round end → end ≡ fault.Refused message.Memory
arrival_only old link round (fault.Stopped why) keeps fine cause =
    absurd (none-some why (sym keeps.keeps.going ∙ cause))
arrival_only old link round (fault.Refused message.NoSuchMessage) keeps fine cause =
    absurd (false≢true (sym cause.1 ∙ (arrives_in_time old.bus.run (world_of old) link round fine).flies))
arrival_only old link round (fault.Refused message.Memory) keeps fine cause = refl

-- ---- the reading of a send
not_done : (p : Phase) (steps rate : ℕ) → finished_steps rate p ≡ Some steps → p ≢ Done
not_done p steps rate is done = none-some steps (sym (ap (finished_steps rate) done) ∙ is)

pub send_reads : (old : WorldValue) (node : NodeNo) (reading : ℕ) → KeepsWorld old → HasNoFault old (event.Send node)
    → Reads old node reading → reading ≤ READING
send_reads old node reading keeps fine reads =
    let w = world_of old in
    let may = sends_in_time old.bus.run w node fine in
    let plan = plan_of old.bus.run.design node.0 in
    let n = node_at w.bus node.0 in
    let m = may_is plan n may.may in
    let clock =
    (times_are_readings old.bus.run w keeps.rules keeps.few keeps.keeps).clocks node.0 may.within
    (not_done n.phase m.steps plan.rate m.finished) in
    subst (λ at. at ≤ READING) (sym reads) clock
