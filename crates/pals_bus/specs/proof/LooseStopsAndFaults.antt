-- Stops of a loose world, and why an event of it is refused.
use Rattle.std.specs.Prelude.{◌≡◌, ◌⊎◌, ℕ, Some, None}
use Rattle.pals_base.specs.declared.basic_types.NodeNo.{NodeNo}
use Rattle.pals_base.specs.declared.basic_types.LinkNo.{LinkNo}
use Rattle.pals_runs.specs.declared.events_and_faults.Event.{Event}
use Rattle.pals_runs.specs.declared.journal.Stop.{Stop}
use Rattle.pals_node.specs.declared.refusals.StartEnd.{StartEnd}
use Rattle.pals_node.specs.declared.refusals.StepEnd.{StepEnd}
use Rattle.pals_node.specs.declared.refusals.FinishEnd.{FinishEnd}
use Rattle.pals_node.specs.declared.refusals.SendEnd.{SendEnd}
use Rattle.pals_bus.specs.declared.bus_error.BusError.{BusError}
use Rattle.pals_bus.specs.declared.bus_error.MessageError.{MessageError}
use Rattle.pals_bus.specs.declared.loose_faults.LooseFault.{LooseFault}
use Rattle.pals_bus.specs.BusValues.{BusValue}
use Rattle.pals_bus.specs.LooseEvents.{HappensLoose, IsRefused, loose_event, event_message, event_node}
use Rattle.pals_node.specs.declared.refusals.StartEnd.TheVariants as start
use Rattle.pals_node.specs.declared.refusals.StepEnd.TheVariants as step
use Rattle.pals_bus.specs.declared.bus_error.BusError.TheVariants as bus_fault
use Rattle.pals_bus.specs.declared.bus_error.MessageError.TheVariants as message
use Rattle.pals_bus.specs.declared.loose_faults.LooseFault.TheVariants as fault

-- the run had the stop before, or the event gave it
abbrev pub StopsLoose : BusValue → Event → BusValue → Stop → Type 0
StopsLoose old e new why =
    ((old.state.stop ≡ Some why) × (new ≡ old)) ⊎ (HappensLoose old e new × (new.state.stop ≡ Some why))

abbrev pub LooseEnds : BusValue → Event → BusValue → LooseFault → Type 0
LooseEnds old e new (fault.Stopped why) = StopsLoose old e new why
LooseEnds old e new (fault.WrongPhase node) = IsRefused old e new × (event_node e ≡ Some node)
LooseEnds old e new (fault.NoSuchMessage link round) = IsRefused old e new × (event_message e ≡ Some (link, round))
LooseEnds old e new fault.Timed = (new ≡ old) × (old.state.stop ≡ None) × (loose_event e ≡ None)
LooseEnds old e new fault.Memory = new ≡ old

-- ---- why nothing happens, as a loose world reports it
abbrev pub start_fault : BusError StartEnd → NodeNo → LooseFault
start_fault (bus_fault.Stopped why) node = fault.Stopped why
start_fault (bus_fault.Refused (start.NotYet alarm)) node = fault.WrongPhase node
start_fault (bus_fault.Refused (start.Missed port)) node = fault.WrongPhase node
start_fault (bus_fault.Refused start.Busy) node = fault.WrongPhase node
start_fault (bus_fault.Refused start.Over) node = fault.WrongPhase node
start_fault (bus_fault.Refused start.Memory) node = fault.Memory

abbrev pub step_fault : BusError StepEnd → NodeNo → LooseFault
step_fault (bus_fault.Stopped why) node = fault.Stopped why
step_fault (bus_fault.Refused (step.NotYet alarm)) node = fault.WrongPhase node
step_fault (bus_fault.Refused step.NotBetween) node = fault.WrongPhase node
step_fault (bus_fault.Refused step.Memory) node = fault.Memory

abbrev pub finish_fault : BusError FinishEnd → NodeNo → LooseFault
finish_fault (bus_fault.Stopped why) node = fault.Stopped why
finish_fault (bus_fault.Refused cause) node = fault.WrongPhase node

abbrev pub send_fault : BusError SendEnd → NodeNo → LooseFault
send_fault (bus_fault.Stopped why) node = fault.Stopped why
send_fault (bus_fault.Refused cause) node = fault.WrongPhase node

abbrev pub link_fault : BusError MessageError → LinkNo → ℕ → LooseFault
link_fault (bus_fault.Stopped why) link round = fault.Stopped why
link_fault (bus_fault.Refused message.NoSuchMessage) link round = fault.NoSuchMessage link round
link_fault (bus_fault.Refused message.Memory) link round = fault.Memory
