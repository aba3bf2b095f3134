-- The law of one end: a list of loose events has exactly one end, with one state and one journal.
use Rattle.std.proofs.Common.{◌≡◌, ◌∙◌, inl, inr, ℕ, zero, suc, ◌<◌, List, [], ◌∷◌, ◌++◌, length, take, slice_get, true}
use Rattle.std.proofs.Common.{false, Some, None, refl, sym, ap, subst, arith}
use Rattle.std.proofs.lemmas.Bool.{cases_lt}
use Rattle.std.proofs.Math.Seq.{take-length}
use Rattle.std.proofs.lemmas.Option.{none-some, same_Some, slice_get_within}
use Rattle.pals_runs.specs.declared.events_and_faults.Event.{Event}
use Rattle.pals_runs.specs.declared.events_and_faults.EventFault.{EventFault}
use Rattle.pals_runs.specs.declared.journal.JournalEntry.{JournalEntry}
use Rattle.pals_runs.specs.declared.journal.Stop.{Stop}
use Rattle.bus_machine.specs.BusStates.{BusState, opening}
use Rattle.bus_machine.specs.RunParameters.{Run}
use Rattle.bus_machine.specs.Machine.{BusEvent, is_allowed, after, IsStep}
use Rattle.bus_machine.specs.Replay.{entries}
use Rattle.pals_bus.specs.LooseEvents.{loose_event}
use Rattle.loose_world.specs.declared.loose_run.LooseEnd.{LooseEnd}
use Rattle.loose_world.specs.declared.loose_run.LooseEnd.TheVariants as end
use Rattle.loose_world.specs.LooseRuns.{IsFaultOf}
use Rattle.loose_world.specs.LooseEventsAsSteps.{AllStep, ComesTo, StepsToStop, StepsToFault}
use Rattle.loose_world.specs.proof.EventsAsSteps.{StepsTo}
use Rattle.loose_world.specs.proof.UniqueEnds.{AreSameEnd}
use Rattle.loose_world.proofs.UniqueFaults.{one_fault}

-- ---- one event
-- it is one event of the machine
one_what : (e : Event) (what other : BusEvent) → loose_event e ≡ Some what → loose_event e ≡ Some other → what ≡ other
one_what e what other one two = same_Some what other (sym one ∙ two)

-- its step leads to one state
one_step : (run : Run) (s t u : BusState) (what other : BusEvent) → what ≡ other → IsStep run s what t
    → IsStep run s other u → t ≡ u
one_step run s t u what other same x y = x.state ∙ (ap (λ (e : BusEvent). after run s e) same ∙ sym y.state)

-- ---- steps without a stop
-- they lead to one state, and leave one journal
all_once : (run : Run) (events : List Event) (s t u : BusState) (journal more : List JournalEntry)
    → AllStep run s events t journal
    → AllStep run s events u more → (t ≡ u) × (journal ≡ more)
all_once run [] s t u journal more x y = (x.0 ∙ sym y.0, x.1 ∙ sym y.1)
all_once run (e ∷ events) s t u journal more x y =
    let what : x.0 ≡ y.0 = one_what e x.0 y.0 x.3 y.3 in
    let next : x.1 ≡ y.1 = one_step run s x.1 y.1 x.0 y.0 what x.4 y.4 in
    let rest =
    all_once run events y.1 t u x.2 y.2 (subst (λ (b : BusState). AllStep run b events t x.2) next x.6) y.6 in
    (rest.0, x.7 ∙ ((λ i. entries run s (what i) ++ rest.1 i) ∙ sym y.7))

-- the events before an index are such steps, and so is this event of the index
record GoesPast (run : Run) (s : BusState) (events : List Event) (index : ℕ) (e : Event) : Type 0 where
  before : BusState
  told : List JournalEntry
  steps : AllStep run s (take index events) before told
  what : BusEvent
  is_what : loose_event e ≡ Some what
  next : BusState
  step : IsStep run before what next
  going : next.stop ≡ None

goes_past : (run : Run) (events : List Event) (index count : ℕ) (e : Event) (s t : BusState)
    (journal : List JournalEntry) → index < count
    → slice_get events index ≡ Some e → AllStep run s (take count events) t journal → GoesPast run s events index e
goes_past run [] index count e s t journal below is x = absurd (none-some e is)
goes_past run (f ∷ events) index zero e s t journal below is x = absurd (omega arith)
goes_past run (f ∷ events) zero (suc count) e s t journal below is x = record {
  before = s;
  told = [];
  steps = (refl, refl);
  what = x.0;
  is_what = subst (λ (g : Event). loose_event g ≡ Some x.0) (same_Some f e is) x.3;
  next = x.1;
  step = x.4;
  going = x.5;
}
goes_past run (f ∷ events) (suc index) (suc count) e s t journal below is x =
    let past = goes_past run events index count e x.1 t x.2 (omega arith) is x.6 in
    record {
      before = past.before;
      told = entries run s x.0 ++ past.told;
      steps = (x.0, x.1, past.told, x.3, x.4, x.5, past.steps, refl);
      what = past.what;
      is_what = past.is_what;
      next = past.next;
      step = past.step;
      going = past.going;
    }

-- ---- the event at which a list ends
module _ (run : Run) (events : List Event) where
  -- the events before this index are steps without a stop, and the event at the index is not
  record IsLast (index : ℕ) (e : Event) (s : BusState) (told : List JournalEntry) : Type 0 where
    comes : ComesTo run events index e s told
    halts : (what : BusEvent) (next : BusState) → loose_event e ≡ Some what → IsStep run s what next
        → next.stop ≡ None → ⊥

  stop_is_last : {why : Stop} {t : BusState} {journal : List JournalEntry} → (x : StepsToStop run events why t journal)
      → IsLast x.index x.event x.before x.told
  stop_is_last {why} {t} x = record {
    comes = x.comes;
    halts = λ what next is_what step going.
        let same =
        one_step run x.before next t what x.what (one_what x.event what x.what is_what x.is_what) step x.step in
        none-some why (sym going ∙ (ap (λ (b : BusState). b.stop) same ∙ x.stops));
  }

  fault_is_last : {index : ℕ} {fault : EventFault} → (x : StepsToFault run events index fault)
      → IsLast index x.event x.before x.told
  fault_is_last x = record {
    comes = x.comes;
    halts = λ what next is_what step going.
        let same = ap (λ (e : BusEvent). is_allowed run x.before e) (one_what x.event what x.what is_what x.is_what) in
        let clash : true ≡ false = sym step.allowed ∙ (same ∙ x.refused) in
        absurd (cc clash);
  }

  -- no list goes past it
  not_past : {index : ℕ} {e : Event} {s : BusState} {told : List JournalEntry} → IsLast index e s told
      → GoesPast run (opening run) events index e → ⊥
  not_past {index} {e} {s} {told} x past =
      let same =
      (all_once run (take index events) (opening run) past.before s past.told told past.steps x.comes.steps).0 in
      x.halts past.what past.next past.is_what
      (subst (λ (b : BusState). IsStep run b past.what past.next) same past.step) past.going

  not_all : {index : ℕ} {e : Event} {s : BusState} {told : List JournalEntry} → IsLast index e s told
      → (t : BusState) (journal : List JournalEntry)
      → AllStep run (opening run) events t journal → ⊥
  not_all {index} {e} x t journal all =
      let within = slice_get_within events index e x.comes.is_event in
      let whole = subst (λ (es : List Event). AllStep run (opening run) es t journal) (sym (take-length events)) all in
      not_past x (goes_past run events index (length events) e (opening run) t journal within x.comes.is_event whole)

  not_before : {index other : ℕ} {e f : Event} {s t : BusState} {told more : List JournalEntry} → IsLast index e s told
      → IsLast other f t more
      → index < other → ⊥
  not_before {index} {other} {e} {f} {s} {t} {told} {more} x y below =
      not_past x (goes_past run events index other e (opening run) t more below x.comes.is_event y.comes.steps)

  -- it is one event, at one state and with one journal before it
  record AreOnePlace (index other : ℕ) (e f : Event) (s t : BusState) (told more : List JournalEntry) : Type 0 where
    at : index ≡ other
    event : e ≡ f
    state : s ≡ t
    journal : told ≡ more

  one_index : {index other : ℕ} {e f : Event} {s t : BusState} {told more : List JournalEntry} → IsLast index e s told
      → IsLast other f t more → index ≡ other
  one_index {index} {other} x y = elim (cases_lt index other) [
    | inl before ↦ absurd (not_before x y before)
    | inr after ↦ elim (cases_lt other index) [
      | inl before ↦ absurd (not_before y x before)
      | inr same ↦ omega arith
    ]
  ]

  one_place : {index other : ℕ} {e f : Event} {s t : BusState} {told more : List JournalEntry} → IsLast index e s told
      → IsLast other f t more
      → AreOnePlace index other e f s t told more
  one_place {index} {other} {e} {f} {s} {t} {told} {more} x y =
      let same = one_index x y in
      let moved = subst (λ (n : ℕ). ComesTo run events n e s told) same x.comes in
      let all = all_once run (take other events) (opening run) s t told more moved.steps y.comes.steps in
      record {
        at = same;
        event = same_Some e f (sym moved.is_event ∙ y.comes.is_event);
        state = all.0;
        journal = all.1;
      }

  -- ---- two ends of one list
  both_stop : {why other : Stop} {t u : BusState} {journal more : List JournalEntry}
      → StepsToStop run events why t journal
      → StepsToStop run events other u more → AreSameEnd (end.Stopped why) (end.Stopped other) t u journal more
  both_stop {why} {other} {t} {u} x y =
      let place = one_place (stop_is_last x) (stop_is_last y) in
      let is_what = subst (λ (e : Event). loose_event e ≡ Some x.what) place.event x.is_what in
      let what : x.what ≡ y.what = one_what y.event x.what y.what is_what y.is_what in
      let step = subst (λ (b : BusState). IsStep run b x.what t) place.state x.step in
      let state : t ≡ u = one_step run y.before t u x.what y.what what step y.step in
      record {
        end = ap end.Stopped (same_Some why other (sym x.stops ∙ (ap (λ (b : BusState). b.stop) state ∙ y.stops)));
        left =
            (state, x.journal_is ∙ ((λ i. place.journal i ++ entries run (place.state i) (what i)) ∙ sym y.journal_is));
      }

  both_refuse : {index count : ℕ} {fault other : EventFault} {t u : BusState} {journal more : List JournalEntry}
      → StepsToFault run events index fault
      → StepsToFault run events count other
      → AreSameEnd (end.Refused index fault) (end.Refused count other) t u journal more
  both_refuse {index} {count} {fault} {other} x y =
      let place = one_place (fault_is_last x) (fault_is_last y) in
      let why =
      one_fault y.event fault other (subst (λ (e : Event). IsFaultOf e fault) place.event x.is_fault) y.is_fault in
      record { end = λ i. end.Refused (place.at i) (why i); left = tt }

  stop_or_fault : {why : Stop} {t : BusState} {journal : List JournalEntry} {index : ℕ} {fault : EventFault}
      → StepsToStop run events why t journal
      → StepsToFault run events index fault → ⊥
  stop_or_fault x y =
      let place = one_place (stop_is_last x) (fault_is_last y) in
      let is_what = subst (λ (e : Event). loose_event e ≡ Some x.what) place.event x.is_what in
      let what : x.what ≡ y.what = one_what y.event x.what y.what is_what y.is_what in
      let same : is_allowed run x.before x.what ≡ is_allowed run y.before y.what =
      λ i. is_allowed run (place.state i) (what i) in
      let clash : true ≡ false = sym x.step.allowed ∙ (same ∙ y.refused) in
      absurd (cc clash)

-- ---- the law
pub one_end : (run : Run) (events : List Event) (how other : LooseEnd) (s t : BusState)
    (journal more : List JournalEntry)
    → StepsTo run events how s journal → StepsTo run events other t more → AreSameEnd how other s t journal more
one_end run events end.All end.All s t journal more x y =
    record { end = refl; left = all_once run events (opening run) s t journal more x y }
one_end run events end.All (end.Stopped why) s t journal more x y =
    absurd (not_all run events (stop_is_last run events y) s journal x)
one_end run events end.All (end.Refused index fault) s t journal more x y =
    absurd (not_all run events (fault_is_last run events y) s journal x)
one_end run events (end.Stopped why) end.All s t journal more x y =
    absurd (not_all run events (stop_is_last run events x) t more y)
one_end run events (end.Stopped why) (end.Stopped other) s t journal more x y = both_stop run events x y
one_end run events (end.Stopped why) (end.Refused index fault) s t journal more x y =
    absurd (stop_or_fault run events x y)
one_end run events (end.Refused index fault) end.All s t journal more x y =
    absurd (not_all run events (fault_is_last run events x) t more y)
one_end run events (end.Refused index fault) (end.Stopped why) s t journal more x y =
    absurd (stop_or_fault run events y x)
one_end run events (end.Refused index fault) (end.Refused count other) s t journal more x y = both_refuse run events x y
