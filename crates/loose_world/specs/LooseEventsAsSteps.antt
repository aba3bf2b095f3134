-- Lists of loose events as steps of the bus machine, from the opening of a run on: to a state, to a stop, or to a
-- fault.
use Rattle.std.specs.Prelude.{◌≡◌, ℕ, false, List, [], ◌∷◌, ◌++◌, take, Some, None, slice_get}
use Rattle.pals_runs.specs.declared.events_and_faults.Event.{Event}
use Rattle.pals_runs.specs.declared.events_and_faults.EventFault.{EventFault}
use Rattle.pals_runs.specs.declared.journal.JournalEntry.{JournalEntry}
use Rattle.pals_runs.specs.declared.journal.Stop.{Stop}
use Rattle.bus_machine.specs.BusStates.{BusState, opening}
use Rattle.bus_machine.specs.RunParameters.{Run}
use Rattle.bus_machine.specs.Machine.{BusEvent, is_allowed, IsStep}
use Rattle.bus_machine.specs.Replay.{entries}
use Rattle.pals_bus.specs.LooseEvents.{loose_event}
use Rattle.loose_world.specs.LooseRuns.{IsFaultOf}

-- each event is a step that gives no stop, and these are the entries that they leave in the journal
abbrev pub AllStep : Run → BusState → List Event → BusState → List JournalEntry → Type 0
AllStep run s [] t journal = (t ≡ s) × (journal ≡ [])
AllStep run s (e ∷ events) t journal =
    (what : BusEvent) × (next : BusState) × (later : List JournalEntry) × (loose_event e ≡ Some what)
    × IsStep run s what next × (next.stop ≡ None)
    × AllStep run next events t later × (journal ≡ entries run s what ++ later)

-- the event of an index is this one, and those before it are steps from the opening on
pub record ComesTo (run : Run) (events : List Event) (index : ℕ) (event : Event) (s : BusState)
    (journal : List JournalEntry) : Type 0 where
  pub is_event : slice_get events index ≡ Some event
  pub steps : AllStep run (opening run) (take index events) s journal

-- an event is a step that gives this stop
pub record StepsToStop (run : Run) (events : List Event) (why : Stop) (t : BusState)
    (journal : List JournalEntry) : Type 0 where
  pub index : ℕ
  pub event : Event
  pub before : BusState
  pub told : List JournalEntry
  pub comes : ComesTo run events index event before told
  pub what : BusEvent
  pub is_what : loose_event event ≡ Some what
  pub step : IsStep run before what t
  pub stops : t.stop ≡ Some why
  pub journal_is : journal ≡ told ++ entries run before what

-- the event of this index is not allowed, and this is its fault
pub record StepsToFault (run : Run) (events : List Event) (index : ℕ) (fault : EventFault) : Type 0 where
  pub event : Event
  pub before : BusState
  pub told : List JournalEntry
  pub comes : ComesTo run events index event before told
  pub what : BusEvent
  pub is_what : loose_event event ≡ Some what
  pub refused : is_allowed run before what ≡ false
  pub is_fault : IsFaultOf event fault
