-- Why an event without a reading is rejected or stops the bus, and that the run has no stop after an event that
-- happens: for `loose_world_events`.
use Rattle.std.proofs.Common.{◌≡◌, ◌≢◌, ◌∙◌, inl, inr, ℕ, true, false, Option, Some, None, refl, ap}
use Rattle.std.specs.Prelude.{is_some}
use Rattle.std.proofs.lemmas.Bool.{false≢true}
use Rattle.pals_base.specs.declared.basic_types.NodeNo.{NodeNo}
use Rattle.pals_base.specs.declared.basic_types.LinkNo.{LinkNo}
use Rattle.pals_runs.specs.declared.phase.Phase.{Phase}
use Rattle.pals_runs.specs.declared.phase.Phase.TheVariants.{Waiting, Running, Between, Holding, Done}
use Rattle.bus_machine.specs.NodeEvents.{is_waiting, next_step, running_step}
use Rattle.bus_machine.specs.BusStates.{BusState, node_at, flight_at}
use Rattle.bus_machine.specs.Machine.{BusEvent, Start, Step, Finish, Send, Drop, Repeat, is_allowed}
use Rattle.pals_node.specs.proof.NodeAndJobValues.{JobValue}
use Rattle.pals_node.specs.proof.Answers.{is_busy}
use Rattle.pals_runs.specs.declared.events_and_faults.Event.{Event}
use Rattle.pals_runs.specs.declared.events_and_faults.Event.TheVariants as event
use Rattle.bus_machine.specs.LinkEvents.{is_in_flight}
use Rattle.bus_machine.proofs.NodeEventBusAgreement.{on_step_stop}
use Rattle.pals_node.specs.declared.refusals.StartEnd.{StartEnd}
use Rattle.pals_node.specs.declared.refusals.StartEnd.TheVariants as start
use Rattle.pals_node.specs.declared.refusals.StepEnd.{StepEnd}
use Rattle.pals_node.specs.declared.refusals.StepEnd.TheVariants as step
use Rattle.pals_node.specs.declared.refusals.FinishEnd.{FinishEnd}
use Rattle.pals_node.specs.declared.refusals.SendEnd.{SendEnd}
use Rattle.pals_node.specs.declared.refusals.SendEnd.TheVariants as send
use Rattle.pals_bus.specs.declared.bus_error.BusError.{BusError}
use Rattle.pals_bus.specs.declared.bus_error.BusError.TheVariants as fault
use Rattle.pals_bus.specs.declared.bus_error.MessageError.{MessageError}
use Rattle.pals_bus.specs.declared.bus_error.MessageError.TheVariants as message
use Rattle.pals_bus.specs.BusValues.{BusValue, Happens}
use Rattle.pals_bus.specs.LooseEvents.{IsRefused, loose_event, event_message}
use Rattle.pals_bus.specs.proof.LooseStopsAndFaults.{LooseEnds, start_fault, step_fault, finish_fault, send_fault}
use Rattle.pals_bus.specs.proof.LooseStopsAndFaults.{link_fault}
use Rattle.pals_bus.specs.proof.Answers.{StartsRound, BusStartEnds, BusStepEnds, BusFinishEnds, BusSendEnds, LinkEnds}
use Rattle.pals_bus.proofs.EventEffects.{start_after}

-- ---- no stop after an event
pub start_goes : (old new : BusValue) (node : NodeNo) (reading : Option ℕ) (job : JobValue)
    → StartsRound old node reading new job → new.state.stop ≡ None
start_goes old new node reading job starts =
    ap (λ (s : BusState). s.stop)
    (starts.happens.step.state ∙ start_after old.run old.state node reading starts.node_starts.full)
    ∙ starts.happens.step.going

pub step_goes : (old new : BusValue) (node : NodeNo) (reading : Option ℕ) → Happens old (Step node reading) new
    → new.state.stop ≡ None
step_goes old new node reading happens =
    ap (λ (s : BusState). s.stop) happens.step.state
    ∙ on_step_stop (next_step (node_at old.state node.0).phase) old.state _ (λ step. refl) ∙ happens.step.going

pub finish_goes : (old new : BusValue) (node : NodeNo) → Happens old (Finish node) new → new.state.stop ≡ None
finish_goes old new node happens =
    ap (λ (s : BusState). s.stop) happens.step.state
    ∙ on_step_stop (running_step (node_at old.state node.0).phase) old.state _ (λ step. refl) ∙ happens.step.going

pub send_goes : (old new : BusValue) (node : NodeNo) (reading : Option ℕ) → Happens old (Send node reading) new
    → new.state.stop ≡ None
send_goes old new node reading happens = ap (λ (s : BusState). s.stop) happens.step.state ∙ happens.step.going

pub drop_goes : (old new : BusValue) (link : LinkNo) (round : ℕ) → Happens old (Drop link round) new
    → new.state.stop ≡ None
drop_goes old new link round happens = ap (λ (s : BusState). s.stop) happens.step.state ∙ happens.step.going

pub repeat_goes : (old new : BusValue) (link : LinkNo) (round : ℕ) → Happens old (Repeat link round) new
    → new.state.stop ≡ None
repeat_goes old new link round happens = ap (λ (s : BusState). s.stop) happens.step.state ∙ happens.step.going

-- ---- not allowed
pub busy_waits_not : (p : Phase) → is_busy p ≡ true → is_waiting p ≡ false
busy_waits_not Waiting busy = absurd (false≢true busy)
busy_waits_not (Running step) busy = refl
busy_waits_not (Between steps) busy = refl
busy_waits_not Holding busy = refl
busy_waits_not Done busy = refl

pub no_next_step : (p : Phase) → ((i : ℕ) → p ≢ Between i) → is_some (next_step p) ≡ false
no_next_step Waiting not = refl
no_next_step (Running step) not = refl
no_next_step (Between steps) not = absurd (not steps refl)
no_next_step Holding not = refl
no_next_step Done not = refl

pub none_runs : (p : Phase) → ((i : ℕ) → p ≢ Running i) → is_some (running_step p) ≡ false
none_runs Waiting not = refl
none_runs (Running step) not = absurd (not step refl)
none_runs (Between steps) not = refl
none_runs Holding not = refl
none_runs Done not = refl

-- ---- the results of messages
pub link_ends : (old new : BusValue) (e : Event) (what : BusEvent) (link : LinkNo) (round : ℕ)
    (end : BusError MessageError) → new ≡ old → LinkEnds old link round end → loose_event e ≡ Some what
    → event_message e ≡ Some (link, round)
    → is_allowed old.run old.state what ≡ is_in_flight round (flight_at old.state link.0)
    → LooseEnds old e new (link_fault end link round)
link_ends old new e what link round (fault.Stopped why) same cause is about allowed = inl (cause, same)
link_ends old new e what link round (fault.Refused message.NoSuchMessage) same cause is about allowed =
    (record { same = same; going = cause.0; what = what; is_what = is; refused = allowed ∙ cause.1 }, about)
link_ends old new e what link round (fault.Refused message.Memory) same cause is about allowed = same

-- ---- the results of nodes
refused : (old new : BusValue) (e : Event) (what : BusEvent) → new ≡ old → old.state.stop ≡ None
    → loose_event e ≡ Some what → is_allowed old.run old.state what ≡ false → IsRefused old e new
refused old new e what same going is not =
    record { same = same; going = going; what = what; is_what = is; refused = not }

pub start_ends : (old new : BusValue) (node : NodeNo) (end : BusError StartEnd) → BusStartEnds old node None new end
    → LooseEnds old (event.Start node) new (start_fault end node)
start_ends old new node (fault.Stopped why) cause = elim cause [
  | inl stood ↦ inl stood
  | inr misses ↦ inr ((Start node None, refl, misses.happens), misses.stops)
]
start_ends old new node (fault.Refused (start.Missed port)) cause = absurd (cause.misses_none port refl)
start_ends old new node (fault.Refused (start.NotYet alarm)) cause = absurd (false≢true cause.cause.2)
start_ends old new node (fault.Refused start.Busy) cause = (
  refused old new (event.Start node) (Start node None) cause.same cause.going refl
      (busy_waits_not (node_at old.state node.0).phase cause.cause),
  refl,
)
start_ends old new node (fault.Refused start.Over) cause =
    (refused old new (event.Start node) (Start node None) cause.same cause.going refl (ap is_waiting cause.cause), refl)
start_ends old new node (fault.Refused start.Memory) cause = cause.same

pub step_ends : (old new : BusValue) (node : NodeNo) (end : BusError StepEnd) → new ≡ old
    → BusStepEnds old node None end → LooseEnds old (event.Step node) new (step_fault end node)
step_ends old new node (fault.Stopped why) same cause = inl (cause, same)
step_ends old new node (fault.Refused (step.NotYet alarm)) same cause = absurd (false≢true cause.1.3)
step_ends old new node (fault.Refused step.NotBetween) same cause = (
  refused old new (event.Step node) (Step node None) same cause.0 refl
      (no_next_step (node_at old.state node.0).phase cause.1),
  refl,
)
step_ends old new node (fault.Refused step.Memory) same cause = same

pub finish_ends : (old new : BusValue) (node : NodeNo) (end : BusError FinishEnd) → new ≡ old
    → BusFinishEnds old node end → LooseEnds old (event.Finish node) new (finish_fault end node)
finish_ends old new node (fault.Stopped why) same cause = inl (cause, same)
finish_ends old new node (fault.Refused not_running) same cause = (
  refused old new (event.Finish node) (Finish node) same cause.0 refl
      (none_runs (node_at old.state node.0).phase cause.1),
  refl,
)

pub send_ends : (old new : BusValue) (node : NodeNo) (end : BusError SendEnd) → new ≡ old
    → BusSendEnds old node None end → LooseEnds old (event.Send node) new (send_fault end node)
send_ends old new node (fault.Stopped why) same cause = inl (cause, same)
send_ends old new node (fault.Refused (send.NotYet release)) same cause = absurd (false≢true cause.1.2)
send_ends old new node (fault.Refused send.NotFinished) same cause =
    (refused old new (event.Send node) (Send node None) same cause.0 refl cause.1, refl)
