-- The report on a list of timed events.
use Rattle.std.specs.Prelude.{◌≡◌, ℕ, List, take, Some, slice_get}
use Rattle.pals_runs.specs.declared.events_and_faults.Event.{Event}
use Rattle.pals_runs.specs.declared.events_and_faults.EventFault.{EventFault}
use Rattle.bus_machine.specs.RunParameters.{Run}
use Rattle.bus_machine.specs.WorldTexts.{worldtext}
use Rattle.run_laws.specs.Worlds.{opening_world}
use Rattle.run_laws.specs.EventFaults.{fault_of}
use Rattle.run_laws.specs.EventLists.{IsWithin, GoRight, world_left}
use Rattle.trace_laws.specs.WorldTraces.{IsRecorded}

-- ---- from the opening of a run on
-- the events are within the bounds, and so they go right, and what they do is a trace; the text is that of their world
pub record IsToldWorld (run : Run) (events : List Event) (text : List ℕ) : Type 0 where
  pub within : IsWithin run (opening_world run) events
  pub right : GoRight run events
  pub recorded : IsRecorded run events
  pub text_is : text ≡ worldtext run.design run.env events

-- the event of this index has this fault, and those before it are within the bounds
pub record IsFirstFault (run : Run) (events : List Event) (index : ℕ) (fault : EventFault) : Type 0 where
  pub event : Event
  pub is_event : slice_get events index ≡ Some event
  pub before : IsWithin run (opening_world run) (take index events)
  pub fault_is : fault_of run (world_left run (opening_world run) (take index events)) event ≡ Some fault
