-- What a bus answers, and why.
use Rattle.std.specs.Prelude.{◌≡◌, ◌≢◌, ◌⊎◌, ℕ, false, Option, Some, None}
use Rattle.pals_base.specs.declared.basic_types.NodeNo.{NodeNo}
use Rattle.pals_base.specs.declared.basic_types.LinkNo.{LinkNo}
use Rattle.pals_model.specs.ComponentInputs.{values_at}
use Rattle.pals_runs.specs.declared.journal.Stop.{Stop}
use Rattle.bus_machine.specs.LinkEvents.{is_in_flight}
use Rattle.bus_machine.specs.BusStates.{node_at, flight_at}
use Rattle.bus_machine.specs.Machine.{Start, Step, Finish, Send}
use Rattle.bus_machine.specs.AlarmsAndReleases.{release_reading}
use Rattle.pals_node.specs.declared.refusals.StartEnd.{StartEnd}
use Rattle.pals_node.specs.declared.refusals.StepEnd.{StepEnd}
use Rattle.pals_node.specs.declared.refusals.FinishEnd.{FinishEnd}
use Rattle.pals_node.specs.declared.refusals.SendEnd.{SendEnd}
use Rattle.pals_node.specs.declared.job.Finished.{Finished}
use Rattle.pals_node.specs.proof.NodeAndJobValues.{JobValue}
use Rattle.pals_node.specs.proof.Answers.{is_early, Starts, StartEnds, Steps, StepEnds, FinishesWith, NoneRuns}
use Rattle.pals_node.specs.proof.Answers.{SendEnds}
use Rattle.pals_bus.specs.declared.bus_error.BusError.{BusError}
use Rattle.pals_bus.specs.declared.bus_error.MessageError.{MessageError}
use Rattle.pals_bus.specs.BusValues.{BusValue, Happens}
use Rattle.pals_bus.specs.proof.NodeLists.{node_value}
use Rattle.pals_node.specs.declared.refusals.StartEnd.TheVariants as start
use Rattle.pals_bus.specs.declared.bus_error.BusError.TheVariants as fault
use Rattle.pals_bus.specs.declared.bus_error.MessageError.TheVariants as message

-- the run has no stop
abbrev pub Going : BusValue → Type 0
Going b = b.state.stop ≡ None

-- the bus stops at an event: it had a stop before, or it had none and the event is refused for this reason
abbrev pub Faults : {E : Type 0} → BusValue → (E → Type 0) → BusError E → Type 0
Faults b Causes (fault.Stopped why) = b.state.stop ≡ Some why
Faults b Causes (fault.Refused cause) = Going b × Causes cause

-- ---- Start
-- the node starts its round, and the job of its first step goes out
pub record StartsRound (old : BusValue) (node : NodeNo) (reading : Option ℕ) (new : BusValue)
    (job : JobValue) : Type 0 where
  pub happens : Happens old (Start node reading) new
  pub node_starts : Starts (node_value old node.0) (values_at old.run.env (node_at old.state node.0).count) reading
      (node_value new node.0) job

-- the start misses a message, and the run has this stop from now on
pub record MissesMessage (old : BusValue) (node : NodeNo) (reading : Option ℕ) (new : BusValue)
    (why : Stop) : Type 0 where
  pub happens : Happens old (Start node reading) new
  pub port : ℕ
  pub misses : StartEnds (node_value old node.0) reading (start.Missed port)
  pub stops : new.state.stop ≡ Some why

-- the run had the stop before, or the start gives it
abbrev pub StoppedAtStart : BusValue → NodeNo → Option ℕ → BusValue → Stop → Type 0
StoppedAtStart old node reading new why =
    ((old.state.stop ≡ Some why) × (new ≡ old)) ⊎ MissesMessage old node reading new why

-- nothing has changed, the run has no stop, and the node itself refuses; if it misses a message, the run stops instead
pub record RefusesStart (old : BusValue) (node : NodeNo) (reading : Option ℕ) (new : BusValue)
    (why : StartEnd) : Type 0 where
  pub same : new ≡ old
  pub going : Going old
  pub misses_none : (port : ℕ) → why ≢ start.Missed port
  pub cause : StartEnds (node_value old node.0) reading why

abbrev pub BusStartEnds : BusValue → NodeNo → Option ℕ → BusValue → BusError StartEnd → Type 0
BusStartEnds old node reading new (fault.Stopped why) = StoppedAtStart old node reading new why
BusStartEnds old node reading new (fault.Refused why) = RefusesStart old node reading new why

-- ---- Step
pub record StepsOn (old : BusValue) (node : NodeNo) (reading : Option ℕ) (new : BusValue)
    (job : JobValue) : Type 0 where
  pub happens : Happens old (Step node reading) new
  pub node_steps : Steps (node_value old node.0) reading (node_value new node.0) job

abbrev pub BusStepEnds : BusValue → NodeNo → Option ℕ → BusError StepEnd → Type 0
BusStepEnds b node reading = Faults b (StepEnds (node_value b node.0) reading)

-- ---- Finish
-- the step is finished with the submitted job, or by running the job here
pub record FinishesStep (old : BusValue) (node : NodeNo) (job : JobValue) (new : BusValue)
    (how : Finished) : Type 0 where
  pub happens : Happens old (Finish node) new
  pub node_finishes : FinishesWith (node_value old node.0) job (node_value new node.0) how

abbrev pub BusFinishEnds : BusValue → NodeNo → BusError FinishEnd → Type 0
BusFinishEnds b node = Faults b (λ _. NoneRuns (node_value b node.0))

-- ---- Send
pub record SendsRound (old : BusValue) (node : NodeNo) (reading : Option ℕ) (new : BusValue) : Type 0 where
  pub happens : Happens old (Send node reading) new
  pub due : is_early reading (release_reading (node_value old node.0).program.plan (node_at old.state node.0)) ≡ false

abbrev pub BusSendEnds : BusValue → NodeNo → Option ℕ → BusError SendEnd → Type 0
BusSendEnds b node reading = Faults b (SendEnds (node_value b node.0) reading)

-- ---- messages
abbrev pub MessageFaults : BusValue → LinkNo → ℕ → MessageError → Type 0
MessageFaults b link round message.NoSuchMessage = is_in_flight round (flight_at b.state link.0) ≡ false
MessageFaults b link round message.Memory = Unit {0}

abbrev pub LinkEnds : BusValue → LinkNo → ℕ → BusError MessageError → Type 0
LinkEnds b link round = Faults b (MessageFaults b link round)
