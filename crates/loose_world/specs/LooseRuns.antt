-- The result of a list of loose events: all happen, one stops the run, or one is rejected; and the text of it.
use Rattle.std.specs.Prelude.{◌≡◌, ℕ, List, [], ◌∷◌, ◌++◌, take, Some, slice_get}
use Rattle.pals_model.specs.declared.design.DesignParts.{DesignParts}
use Rattle.pals_model.specs.RoundTexts.{text_of}
use Rattle.pals_runs.specs.declared.events_and_faults.Event.{Event}
use Rattle.pals_runs.specs.declared.events_and_faults.EventFault.{EventFault}
use Rattle.pals_runs.specs.declared.journal.Stop.{Stop}
use Rattle.bus_machine.specs.Machine.{BusEvent}
use Rattle.pals_bus.specs.BusValues.{BusValue}
use Rattle.pals_bus.specs.LooseEvents.{loose_event, IsNamedIn, event_node, event_message, HappensLoose, GoesOn}
use Rattle.pals_bus.specs.LooseEvents.{IsRefused}
use Rattle.loose_world.specs.SentLines.{sent_lines}
use Rattle.loose_world.specs.declared.loose_run.LooseEnd.{LooseEnd}
use Rattle.pals_runs.specs.declared.events_and_faults.Event.TheVariants as event
use Rattle.pals_runs.specs.declared.events_and_faults.EventFault.TheVariants as fault
use Rattle.loose_world.specs.declared.loose_run.LooseEnd.TheVariants as end

-- an event of a loose world of a design: no passing of time, and of a node or a link that is there
pub record IsLooseIn (design : DesignParts) (e : Event) : Type 0 where
  pub what : BusEvent
  pub is_what : loose_event e ≡ Some what
  pub named : IsNamedIn design e

-- the lines of the messages that an event sends, given the bus after it
abbrev pub told_by : BusValue → Event → List (List ℕ)
told_by b (event.Pass time readings) = []
told_by b (event.Start node) = []
told_by b (event.Step node) = []
told_by b (event.Finish node) = []
told_by b (event.Send node) = sent_lines b node.0
told_by b (event.Arrive link round) = []
told_by b (event.Drop link round) = []
told_by b (event.Repeat link round) = []

-- each event leads from one bus to the next by this relation, and these are the lines of the sent messages
abbrev pub InTurn : (BusValue → Event → BusValue → Type 0) → BusValue → List Event → BusValue → List (List ℕ) → Type 0
InTurn R s [] t lines = (t ≡ s) × (lines ≡ [])
InTurn R s (e ∷ events) t lines =
    (next : BusValue) × (rest : List (List ℕ)) × R s e next × InTurn R next events t rest
    × (lines ≡ told_by next e ++ rest)

-- each event happens, none gives a stop, and these are the lines of the sent messages
abbrev pub AllHappen : BusValue → List Event → BusValue → List (List ℕ) → Type 0
AllHappen s events t lines = InTurn GoesOn s events t lines

-- an event gives this stop, and all before it happen without one
pub record StopsAt (s : BusValue) (events : List Event) (why : Stop) (t : BusValue)
    (lines : List (List ℕ)) : Type 0 where
  pub index : ℕ
  pub event : Event
  pub is_event : slice_get events index ≡ Some event
  pub before : BusValue
  pub happen : AllHappen s (take index events) before lines
  pub last : HappensLoose before event t
  pub stops : t.state.stop ≡ Some why

-- the fault of an event that is not allowed
abbrev pub IsFaultOf : Event → EventFault → Type 0
IsFaultOf e (fault.WrongPhase node) = event_node e ≡ Some node
IsFaultOf e (fault.NoSuchMessage link round) = event_message e ≡ Some (link, round)
IsFaultOf e fault.BadName = ⊥
IsFaultOf e fault.LossOrRepeat = ⊥
IsFaultOf e (fault.TimeBack time) = ⊥
IsFaultOf e (fault.ClockBack node reading) = ⊥
IsFaultOf e (fault.ClockApart node reading) = ⊥
IsFaultOf e (fault.PastDeadline which last) = ⊥
IsFaultOf e (fault.NotDue node alarm reading) = ⊥
IsFaultOf e (fault.TooSoon which earliest) = ⊥
IsFaultOf e fault.Memory = ⊥

-- an event is not allowed, and all before it happen without a stop
pub record IsRefusedAt (s : BusValue) (events : List Event) (index : ℕ) (why : EventFault) (t : BusValue)
    (lines : List (List ℕ)) : Type 0 where
  pub event : Event
  pub is_event : slice_get events index ≡ Some event
  pub happen : AllHappen s (take index events) t lines
  pub refused : IsRefused t event t
  pub fault : IsFaultOf event why

-- how a loose world ends
abbrev pub RunsLoosely : BusValue → List Event → LooseEnd → BusValue → List (List ℕ) → Type 0
RunsLoosely s events end.All t lines = AllHappen s events t lines
RunsLoosely s events (end.Stopped why) t lines = StopsAt s events why t lines
RunsLoosely s events (end.Refused index why) t lines = IsRefusedAt s events index why t lines

-- and the lines of the sent messages are appended to a text
pub record Tells (s : BusValue) (events : List Event) (how : LooseEnd) (t : BusValue) (old new : List ℕ) : Type 0 where
  pub lines : List (List ℕ)
  pub runs : RunsLoosely s events how t lines
  pub told : new ≡ old ++ text_of lines

-- the result if memory runs out: the first `done` events have happened, and none gave a stop; a prefix of the lines of
-- their messages is appended to a text
pub record IsCutShort (s : BusValue) (events : List Event) (t : BusValue) (old new : List ℕ) : Type 0 where
  pub done : ℕ
  pub told : List (List ℕ)
  pub untold : List (List ℕ)
  pub happen : AllHappen s (take done events) t (told ++ untold)
  pub text : new ≡ old ++ text_of told
