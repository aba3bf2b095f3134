-- A list of events of a loose world ends: each is a step that gives no stop, or the first that does not gives one, or
-- is not allowed.
use Rattle.std.proofs.Common.{◌≡◌, ◌⊎◌, inl, inr, ℕ, suc, Bool, true, false, List, [], ◌∷◌, ◌++◌, take, slice_get}
use Rattle.std.proofs.Common.{Option, Some, None, refl, arith}
use Rattle.std.specs.Prelude.{All}
use Rattle.pals_runs.specs.declared.events_and_faults.Event.{Event}
use Rattle.pals_runs.specs.declared.events_and_faults.Event.TheVariants as event
use Rattle.pals_runs.specs.declared.events_and_faults.EventFault.{EventFault}
use Rattle.pals_runs.specs.declared.events_and_faults.EventFault.TheVariants as fault
use Rattle.pals_runs.specs.declared.journal.JournalEntry.{JournalEntry}
use Rattle.pals_runs.specs.declared.journal.Stop.{Stop}
use Rattle.bus_machine.specs.BusStates.{BusState, opening}
use Rattle.bus_machine.specs.RunParameters.{Run}
use Rattle.bus_machine.specs.Machine.{BusEvent, is_allowed, after, IsStep}
use Rattle.bus_machine.specs.Replay.{entries}
use Rattle.pals_bus.specs.LooseEvents.{loose_event}
use Rattle.loose_world.specs.declared.loose_run.LooseEnd.{LooseEnd}
use Rattle.loose_world.specs.declared.loose_run.LooseEnd.TheVariants as end
use Rattle.loose_world.specs.LooseRuns.{IsFaultOf, IsLooseIn}
use Rattle.loose_world.specs.LooseEventsAsSteps.{AllStep, ComesTo}
use Rattle.loose_world.specs.proof.EventsAsSteps.{StepsTo}

-- from the opening of a run on they end in some way, at some state and with some journal
abbrev pub HasEnd : Run → List Event → Type 0
HasEnd run events = (how : LooseEnd) × (t : BusState) × (journal : List JournalEntry) × StepsTo run events how t journal

-- ---- from a state on
-- the event of an index is this one, and those before it are steps from this state on
record Comes (run : Run) (s : BusState) (events : List Event) (index : ℕ) (e : Event) (before : BusState)
    (told : List JournalEntry) : Type 0 where
  is_event : slice_get events index ≡ Some e
  steps : AllStep run s (take index events) before told

record Stops (run : Run) (s : BusState) (events : List Event) : Type 0 where
  why : Stop
  state : BusState
  index : ℕ
  event_is : Event
  before : BusState
  told : List JournalEntry
  comes : Comes run s events index event_is before told
  what : BusEvent
  is_what : loose_event event_is ≡ Some what
  step : IsStep run before what state
  stops : state.stop ≡ Some why

record Refuses (run : Run) (s : BusState) (events : List Event) : Type 0 where
  index : ℕ
  why : EventFault
  event_is : Event
  before : BusState
  told : List JournalEntry
  comes : Comes run s events index event_is before told
  what : BusEvent
  is_what : loose_event event_is ≡ Some what
  refused : is_allowed run before what ≡ false
  is_fault : IsFaultOf event_is why

record Goes (run : Run) (s : BusState) (events : List Event) : Type 0 where
  state : BusState
  journal : List JournalEntry
  steps : AllStep run s events state journal

abbrev EndsFrom : Run → BusState → List Event → Type 0
EndsFrom run s events = Goes run s events ⊎ Stops run s events ⊎ Refuses run s events

-- ---- an event that is not allowed has a fault
fault_of : (e : Event) (what : BusEvent) → loose_event e ≡ Some what → (why : EventFault) × IsFaultOf e why
fault_of (event.Pass time readings) what h = absurd cc
fault_of (event.Start node) what h = (fault.WrongPhase node, refl)
fault_of (event.Step node) what h = (fault.WrongPhase node, refl)
fault_of (event.Finish node) what h = (fault.WrongPhase node, refl)
fault_of (event.Send node) what h = (fault.WrongPhase node, refl)
fault_of (event.Arrive link round) what h = (fault.NoSuchMessage link round, refl)
fault_of (event.Drop link round) what h = (fault.NoSuchMessage link round, refl)
fault_of (event.Repeat link round) what h = (fault.NoSuchMessage link round, refl)

here : (run : Run) (s : BusState) (e : Event) (events : List Event) → Comes run s (e ∷ events) 0 e s []
here run s e events = record { is_event = refl; steps = (refl, refl) }

-- ---- one more event before them
later : (run : Run) (s next : BusState) (e : Event) (events : List Event) (what : BusEvent) → loose_event e ≡ Some what
    → IsStep run s what next → next.stop ≡ None
    → (index : ℕ) (f : Event) (before : BusState) (told : List JournalEntry) → Comes run next events index f before told
    → Comes run s (e ∷ events) (suc index) f before (entries run s what ++ told)
later run s next e events what h step going index f before told c =
    record { is_event = c.is_event; steps = (what, next, told, h, step, going, c.steps, refl) }

goes_on : (run : Run) (s next : BusState) (e : Event) (events : List Event) (what : BusEvent)
    → loose_event e ≡ Some what → IsStep run s what next → next.stop ≡ None
    → EndsFrom run next events → EndsFrom run s (e ∷ events)
goes_on run s next e events what h step going (inl g) =
    inl (record {
      state = g.state;
      journal = entries run s what ++ g.journal;
      steps = (what, next, g.journal, h, step, going, g.steps, refl);
    })
goes_on run s next e events what h step going (inr (inl x)) =
    inr (inl (record {
      why = x.why;
      state = x.state;
      index = suc x.index;
      event_is = x.event_is;
      before = x.before;
      told = entries run s what ++ x.told;
      comes = later run s next e events what h step going x.index x.event_is x.before x.told x.comes;
      what = x.what;
      is_what = x.is_what;
      step = x.step;
      stops = x.stops;
    }))
goes_on run s next e events what h step going (inr (inr x)) =
    inr (inr (record {
      index = suc x.index;
      why = x.why;
      event_is = x.event_is;
      before = x.before;
      told = entries run s what ++ x.told;
      comes = later run s next e events what h step going x.index x.event_is x.before x.told x.comes;
      what = x.what;
      is_what = x.is_what;
      refused = x.refused;
      is_fault = x.is_fault;
    }))

-- ---- by the first event
by_stop : (run : Run) (s : BusState) (e : Event) (events : List Event) (what : BusEvent) → loose_event e ≡ Some what
    → IsStep run s what (after run s what)
    → ((going : (after run s what).stop ≡ None) → EndsFrom run (after run s what) events)
    → (o : Option Stop) → (after run s what).stop ≡ o → EndsFrom run s (e ∷ events)
by_stop run s e events what h step rest None going =
    goes_on run s (after run s what) e events what h step going (rest going)
by_stop run s e events what h step rest (Some why) stops =
    inr (inl (record {
      why = why;
      state = after run s what;
      index = 0;
      event_is = e;
      before = s;
      told = [];
      comes = here run s e events;
      what = what;
      is_what = h;
      step = step;
      stops = stops;
    }))

by_allowed : (run : Run) (s : BusState) (e : Event) (events : List Event) (what : BusEvent) → s.stop ≡ None
    → loose_event e ≡ Some what
    → ((going : (after run s what).stop ≡ None) → EndsFrom run (after run s what) events)
    → (b : Bool) → is_allowed run s what ≡ b → EndsFrom run s (e ∷ events)
by_allowed run s e events what going h rest true allowed =
    by_stop run s e events what h (record { going = going; allowed = allowed; state = refl }) rest
    (after run s what).stop refl
by_allowed run s e events what going h rest false refused =
    let f = fault_of e what h in
    inr (inr (record {
      index = 0;
      why = f.0;
      event_is = e;
      before = s;
      told = [];
      comes = here run s e events;
      what = what;
      is_what = h;
      refused = refused;
      is_fault = f.1;
    }))

abbrev AreLoose : List Event → Type 0
AreLoose [] = Unit {0}
AreLoose (e ∷ events) = ((what : BusEvent) × (loose_event e ≡ Some what)) × AreLoose events

ends_from : (run : Run) (events : List Event) (s : BusState) → s.stop ≡ None → AreLoose events → EndsFrom run s events
ends_from run [] s going loose = inl (record { state = s; journal = []; steps = (refl, refl) })
ends_from run (e ∷ events) s going ((what, h), loose) =
    by_allowed run s e events what going h (λ next_going. ends_from run events (after run s what) next_going loose)
    (is_allowed run s what) refl

are_loose : (run : Run) (events : List Event) → All (IsLooseIn run.design) events → AreLoose events
are_loose run [] all = tt
are_loose run (e ∷ events) all =
    let first = all 0 e (omega arith) in
    ((first.what, first.is_what), are_loose run events (λ k d less. all (suc k) d (omega arith)))

-- ---- from the opening on
comes_to : (run : Run) (events : List Event) (index : ℕ) (e : Event) (before : BusState) (told : List JournalEntry)
    → Comes run (opening run) events index e before told
    → ComesTo run events index e before told
comes_to run events index e before told c = record { is_event = c.is_event; steps = c.steps }

has_end : (run : Run) (events : List Event) → EndsFrom run (opening run) events → HasEnd run events
has_end run events (inl g) = (end.All, g.state, g.journal, g.steps)
has_end run events (inr (inl x)) = (
  end.Stopped x.why,
  x.state,
  x.told ++ entries run x.before x.what,
  record {
    index = x.index;
    event = x.event_is;
    before = x.before;
    told = x.told;
    comes = comes_to run events x.index x.event_is x.before x.told x.comes;
    what = x.what;
    is_what = x.is_what;
    step = x.step;
    stops = x.stops;
    journal_is = refl;
  },
)
has_end run events (inr (inr x)) = (
  end.Refused x.index x.why,
  x.before,
  x.told,
  record {
    event = x.event_is;
    before = x.before;
    told = x.told;
    comes = comes_to run events x.index x.event_is x.before x.told x.comes;
    what = x.what;
    is_what = x.is_what;
    refused = x.refused;
    is_fault = x.is_fault;
  },
)

pub each_list_ends : (run : Run) (events : List Event) → All (IsLooseIn run.design) events → HasEnd run events
each_list_ends run events all = has_end run events (ends_from run events (opening run) refl (are_loose run events all))
