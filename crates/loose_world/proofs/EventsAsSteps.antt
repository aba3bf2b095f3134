-- The law that events are steps: what loose events do to a bus is a sequence of steps of the bus machine.
use Rattle.std.proofs.Common.{◌≡◌, ◌∙◌, ℕ, List, [], ◌∷◌, ◌++◌, take, false, refl, sym, ap, subst, append_assoc}
use Rattle.std.proofs.lemmas.List.{append-nil}
use Rattle.step_code.specs.declared.instr.CodeParts.{CodeParts}
use Rattle.pals_runs.specs.declared.events_and_faults.Event.{Event}
use Rattle.pals_runs.specs.declared.events_and_faults.EventFault.{EventFault}
use Rattle.pals_runs.specs.declared.journal.JournalEntry.{JournalEntry}
use Rattle.pals_runs.specs.declared.journal.Stop.{Stop}
use Rattle.bus_machine.specs.BusStates.{opening}
use Rattle.bus_machine.specs.RunParameters.{Run}
use Rattle.bus_machine.specs.Machine.{BusEvent, is_allowed, IsStep}
use Rattle.bus_machine.specs.Replay.{entries}
use Rattle.pals_bus.specs.BusValues.{BusValue, Happens}
use Rattle.pals_bus.specs.proof.OpeningNodes.{opening_bus}
use Rattle.pals_bus.specs.LooseEvents.{IsRefused}
use Rattle.loose_world.specs.declared.loose_run.LooseEnd.{LooseEnd}
use Rattle.loose_world.specs.declared.loose_run.LooseEnd.TheVariants as end
use Rattle.loose_world.specs.LooseRuns.{AllHappen, StopsAt, IsRefusedAt, RunsLoosely}
use Rattle.loose_world.specs.LooseEventsAsSteps.{AllStep, StepsToStop, StepsToFault}
use Rattle.loose_world.specs.proof.EventsAsSteps.{StepsTo}

-- the steps of a bus, and what they add to its journal
record AreSteps (s t : BusValue) (events : List Event) : Type 0 where
  journal : List JournalEntry
  steps : AllStep s.run s.state events t.state journal
  run : t.run ≡ s.run
  told : t.journal ≡ s.journal ++ journal

one_run : (s t : BusValue) (what : BusEvent) → Happens s what t → t.run ≡ s.run
one_run s t what happens = ap (λ (b : BusValue). b.run) happens.others

are_steps : (s t : BusValue) (events : List Event) (lines : List (List ℕ)) → AllHappen s events t lines
    → AreSteps s t events
are_steps s t [] lines happen = record {
  journal = [];
  steps = (ap (λ (b : BusValue). b.state) happen.0, refl);
  run = ap (λ (b : BusValue). b.run) happen.0;
  told = ap (λ (b : BusValue). b.journal) happen.0 ∙ sym (append-nil s.journal);
}
are_steps s t (e ∷ events) lines happen =
    let next : BusValue = happen.0 in
    let what : BusEvent = happen.2.happens.0 in
    let here : Happens s what next = happen.2.happens.2 in
    let rest = are_steps next t events happen.1 happen.3 in
    let same = one_run s next what here in
    record {
      journal = entries s.run s.state what ++ rest.journal;
      steps = (
        what,
        next.state,
        rest.journal,
        happen.2.happens.1,
        here.step,
        happen.2.going,
        subst (λ (run : Run). AllStep run next.state events t.state rest.journal) same rest.steps,
        refl,
      );
      run = rest.run ∙ same;
      told =
          rest.told ∙ ap (λ (xs : List JournalEntry). xs ++ rest.journal) here.journal
          ∙ append_assoc s.journal (entries s.run s.state what) rest.journal;
    }

-- ---- from the opening on
abbrev opened : Run → List CodeParts → BusValue
opened run programs = opening_bus run programs false

comes_to : (run : Run) (programs : List CodeParts) (events : List Event) (t : BusValue) (lines : List (List ℕ))
    → AllHappen (opened run programs) events t lines
    → AllStep run (opening run) events t.state t.journal
comes_to run programs events t lines happen =
    let all = are_steps (opened run programs) t events lines happen in
    subst (λ (journal : List JournalEntry). AllStep run (opening run) events t.state journal) (sym all.told) all.steps

run_of : (run : Run) (programs : List CodeParts) (events : List Event) (t : BusValue) (lines : List (List ℕ))
    → AllHappen (opened run programs) events t lines → t.run ≡ run
run_of run programs events t lines happen = (are_steps (opened run programs) t events lines happen).run

stops_at : (run : Run) (programs : List CodeParts) (events : List Event) (why : Stop) (t : BusValue)
    (lines : List (List ℕ))
    → StopsAt (opened run programs) events why t lines → StepsToStop run events why t.state t.journal
stops_at run programs events why t lines x =
    let before : BusValue = x.before in
    let what : BusEvent = x.last.0 in
    let here : Happens before what t = x.last.2 in
    let same = run_of run programs (take x.index events) before lines x.happen in
    record {
      index = x.index;
      event = x.event;
      before = before.state;
      told = before.journal;
      comes =
          record { is_event = x.is_event; steps = comes_to run programs (take x.index events) before lines x.happen };
      what = what;
      is_what = x.last.1;
      step = subst (λ (r : Run). IsStep r before.state what t.state) same here.step;
      stops = x.stops;
      journal_is = here.journal ∙ ap (λ (r : Run). before.journal ++ entries r before.state what) same;
    }

refused_at : (run : Run) (programs : List CodeParts) (events : List Event) (index : ℕ) (fault : EventFault)
    (t : BusValue) (lines : List (List ℕ))
    → IsRefusedAt (opened run programs) events index fault t lines → StepsToFault run events index fault
refused_at run programs events index fault t lines x =
    let refused : IsRefused t x.event t = x.refused in
    let same = run_of run programs (take index events) t lines x.happen in
    record {
      event = x.event;
      before = t.state;
      told = t.journal;
      comes = record { is_event = x.is_event; steps = comes_to run programs (take index events) t lines x.happen };
      what = refused.what;
      is_what = refused.is_what;
      refused = subst (λ (r : Run). is_allowed r t.state refused.what ≡ false) same refused.refused;
      is_fault = x.fault;
    }

pub events_are_steps : (run : Run) (programs : List CodeParts) (events : List Event) (how : LooseEnd) (t : BusValue)
    (lines : List (List ℕ))
    → RunsLoosely (opening_bus run programs false) events how t lines → StepsTo run events how t.state t.journal
events_are_steps run programs events end.All t lines x = comes_to run programs events t lines x
events_are_steps run programs events (end.Stopped why) t lines x = stops_at run programs events why t lines x
events_are_steps run programs events (end.Refused index fault) t lines x =
    refused_at run programs events index fault t lines x
