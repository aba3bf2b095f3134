-- The events of a scenario have one result in a loose world.
use Rattle.std.proofs.Common.{◌≡◌, ◌∙◌, inl, inr, ℕ, List, [], ◌++◌, refl, sym, ap}
use Rattle.std.specs.Prelude.{map}
use Rattle.pals_model.specs.declared.design.DesignParts.{DesignParts}
use Rattle.pals_model.specs.RoundTexts.{line_end, text_of, report}
use Rattle.pals_runs.specs.declared.events_and_faults.Event.{Event}
use Rattle.pals_runs.specs.declared.journal.JournalEntry.{JournalEntry}
use Rattle.pals_runs.specs.JournalLines.{entry_line}
use Rattle.scenario_json.specs.declared.scenario.Scenario.{Scenario}
use Rattle.bus_machine.specs.BusStates.{BusState, opening, finished_by_all}
use Rattle.bus_machine.specs.RunParameters.{Run}
use Rattle.bus_machine.specs.WorldTexts.{worldtext}
use Rattle.pals_report.specs.EventFaultLines.{event_fault_line}
use Rattle.loose_world.specs.declared.loose_run.LooseEnd.{LooseEnd}
use Rattle.loose_world.specs.declared.loose_run.LooseEnd.TheVariants as end
use Rattle.loose_world.specs.LooseEventsAsSteps.{AllStep, StepsToStop, StepsToFault}
use Rattle.loose_world.specs.proof.EventsAsSteps.{StepsTo}
use Rattle.loose_world.specs.proof.UniqueEnds.{LeaveTheSame, AreSameEnd, OneEnd}
use Rattle.pals_top.specs.proof.LooseWorldEnds.{status_at}
use Rattle.pals_top.specs.LooseWorlds.{IsWorldAnswer}
use Rattle.pals_top.specs.BundleScenarios.{run_of}

-- ---- the ends of a run
-- its events end so, from its opening on: each is a step of the bus machine and none gives a stop; or one gives this
-- stop; or the one of this index is not allowed, for this fault, and none before it gives a stop
abbrev EventsEnd : Run → List Event → LooseEnd → Type 0
EventsEnd run events end.All =
    (t : BusState) × (journal : List JournalEntry) × AllStep run (opening run) events t journal
EventsEnd run events (end.Stopped why) =
    (t : BusState) × (journal : List JournalEntry) × StepsToStop run events why t journal
EventsEnd run events (end.Refused index fault) = StepsToFault run events index fault

-- the end, with the bus and journal at it
abbrev Leaves : Run → List Event → LooseEnd → Type 0
Leaves run events how = (t : BusState) × (journal : List JournalEntry) × StepsTo run events how t journal

-- if an event is not allowed, the bus and journal are unspecified
abbrev leaves : (run : Run) (events : List Event) (how : LooseEnd) → EventsEnd run events how → Leaves run events how
leaves run events end.All x = x
leaves run events (end.Stopped why) x = x
leaves run events (end.Refused index fault) x = (opening run, [], x)

-- ---- answers
-- the text for the end of the events of a run
abbrev told_at : Run → List Event → LooseEnd → BusState → List JournalEntry → List ℕ
told_at run events end.All t journal = worldtext run.design run.env events
told_at run events (end.Stopped why) t journal =
    report run.design run.env (finished_by_all run t) ++ text_of (map (entry_line run.design) journal)
told_at run events (end.Refused index fault) t journal = event_fault_line run.design index fault ++ line_end

-- an answer is how the events end, with its status and its text
pub record IsEnd (design : DesignParts) (scenario : Scenario) (status : ℕ) (text : List ℕ) : Type 0 where
  pub how : LooseEnd
  pub ends : EventsEnd (run_of design scenario) scenario.events how
  pub status_is : status ≡ status_at how
  pub text_is :
      let left = leaves (run_of design scenario) scenario.events how ends in
      text ≡ told_at (run_of design scenario) scenario.events how left.0 left.1

pub end_of : (design : DesignParts) (scenario : Scenario) (s : ℕ) (a : List ℕ) → IsWorldAnswer design scenario s a
    → IsEnd design scenario s a
end_of design scenario s a (inl x) =
    record { how = end.All; ends = (x.1.state, x.1.journal, x.1.steps); status_is = x.0; text_is = x.1.text_is }
end_of design scenario s a (inr (inl x)) =
    record {
      how = end.Stopped x.1.why;
      ends = (x.1.state, x.1.journal, x.1.stops);
      status_is = x.0;
      text_is = x.1.text_is;
    }
end_of design scenario s a (inr (inr x)) =
    record { how = end.Refused x.1.index x.1.fault; ends = x.1.refused; status_is = x.0; text_is = x.1.text_is }

-- both report the bus and journal at the end
told_alike : (run : Run) (events : List Event) (how : LooseEnd) (t u : BusState) (journal more : List JournalEntry)
    → LeaveTheSame how t u journal more
    → told_at run events how t journal ≡ told_at run events how u more
told_alike run events end.All t u journal more same = refl
told_alike run events (end.Stopped why) t u journal more same =
    λ i. told_at run events (end.Stopped why) (same.0 i) (same.1 i)
told_alike run events (end.Refused index fault) t u journal more same = refl

pub one_world : OneEnd → (design : DesignParts) (scenario : Scenario) (s t : ℕ) (a b : List ℕ)
    → IsEnd design scenario s a → IsEnd design scenario t b
    → (s ≡ t) × (a ≡ b)
one_world one_end design scenario s t a b x y =
    let run : Run = run_of design scenario in
    let events : List Event = scenario.events in
    let one : Leaves run events x.how = leaves run events x.how x.ends in
    let two : Leaves run events y.how = leaves run events y.how y.ends in
    let both : AreSameEnd x.how y.how one.0 two.0 one.1 two.1 =
    one_end run events x.how y.how one.0 two.0 one.1 two.1 one.2 two.2 in
    let told =
    told_alike run events x.how one.0 two.0 one.1 two.1 both.left
    ∙ ap (λ (how : LooseEnd). told_at run events how two.0 two.1) both.end in
    (x.status_is ∙ (ap status_at both.end ∙ sym y.status_is), x.text_is ∙ (told ∙ sym y.text_is))
