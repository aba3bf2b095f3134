-- What the program answers to a list of loose events.
use Rattle.std.proofs.Common.{◌≡◌, ◌∙◌, inl, inr, ℕ, List, [], ◌∷◌, ◌++◌, map, take, false, Result, Ok, Err, IfOk, ap}
use Rattle.std.proofs.Common.{subst}
use Rattle.step_code.specs.declared.instr.CodeParts.{CodeParts}
use Rattle.pals_model.specs.declared.design.DesignParts.{DesignParts}
use Rattle.pals_model.specs.DesignRules.{IsDesign}
use Rattle.pals_model.specs.RoundTexts.{line_end, text_of as lines_text, report}
use Rattle.pals_runs.specs.declared.events_and_faults.Event.{Event}
use Rattle.pals_runs.specs.declared.events_and_faults.EventFault.{EventFault}
use Rattle.pals_runs.specs.declared.journal.Stop.{Stop}
use Rattle.pals_runs.specs.JournalLines.{entry_line}
use Rattle.bus_machine.specs.proof.AgreementLaws.{IsRunOf}
use Rattle.bus_machine.specs.BusStates.{finished_by_all}
use Rattle.bus_machine.specs.RunParameters.{Run}
use Rattle.pals_bus.specs.BusValues.{BusValue}
use Rattle.pals_bus.specs.proof.OpeningNodes.{opening_bus}
use Rattle.scenario_json.specs.declared.scenario.Scenario.{Scenario}
use Rattle.scenario_json.specs.proof.ScenarioValidity.{IsScenarioOf}
use Rattle.loose_world.specs.declared.loose_run.LooseEnd.{LooseEnd}
use Rattle.loose_world.specs.declared.loose_run.LooseEnd.TheVariants as end
use Rattle.loose_world.specs.LooseRuns.{AllHappen, StopsAt, IsRefusedAt, Tells}
use Rattle.loose_world.specs.proof.FinishedRows.{finished_lines, common_lines}
use Rattle.loose_world.specs.proof.WorldLaws.{TextIsTold, StopIsTold}
use Rattle.loose_world.specs.proof.EventsAsSteps.{EventsAreSteps}
use Rattle.loose_world.proofs.LooseRuns.{loose_keeps_run}
use Rattle.pals_report.specs.EventFaultLines.{event_fault_line}
use Rattle.pals_top.specs.declared.answer.Answer.{Answer}
use Rattle.pals_top.specs.proof.LooseWorldEnds.{status_at, text_at}
use Rattle.pals_top.specs.LooseWorlds.{IsWorldAnswer}
use Rattle.pals_top.specs.BundleScenarios.{run_of}
use Rattle.pals_top.specs.declared.status.TheConstants.{DONE, SCENARIO_REFUSED, STOPPED}
use Rattle.pals_top.specs.proof.StatusAndText.{status_of, text_of, Says}

-- the bus that a scenario opens
abbrev opens : DesignParts → Scenario → List CodeParts → BusValue
opens design scenario programs = opening_bus (run_of design scenario) programs false

-- ---- events belong to the run that they began with
pub all_run : (s t : BusValue) (events : List Event) (lines : List (List ℕ)) → AllHappen s events t lines
    → t.run ≡ s.run
all_run s t [] lines happen = ap (λ (b : BusValue). b.run) happen.0
all_run s t (e ∷ events) lines happen =
    all_run happen.0 t events happen.1 happen.3 ∙ loose_keeps_run s e happen.0 happen.2.happens

stop_run : (s t : BusValue) (events : List Event) (why : Stop) (lines : List (List ℕ)) → StopsAt s events why t lines
    → t.run ≡ s.run
stop_run s t events why lines stops =
    loose_keeps_run stops.before stops.event t stops.last
    ∙ all_run s stops.before (take stops.index events) lines stops.happen

pub rules_of : (design : DesignParts) (scenario : Scenario) → IsDesign design → IsScenarioOf design scenario
    → IsRunOf (run_of design scenario)
rules_of design scenario rules kept = record { design = rules; rounds = kept.long.0 }

-- ---- answers
module _ (design : DesignParts) (scenario : Scenario) (programs : List CodeParts) (rules : IsDesign design)
    (kept : IsScenarioOf design scenario) where
  finished_says : (t : BusValue) (sent : List ℕ) (a : Answer) → TextIsTold → EventsAreSteps
      → Tells (opens design scenario programs) scenario.events end.All t [] sent
      → Says DONE (lines_text (finished_lines t) ++ sent) a
      → IsWorldAnswer design scenario (status_of a) (text_of a)
  finished_says t sent a law steps tells says = inl (
    says.0,
    record {
      state = t.state;
      journal = t.journal;
      steps = steps (run_of design scenario) programs scenario.events end.All t tells.lines tells.runs;
      text_is =
          says.1 ∙ law (run_of design scenario) programs scenario.events t sent
          (rules_of design scenario rules kept) tells;
    },
  )

  stopped_says : (why : Stop) (t : BusValue) (sent : List ℕ) (a : Answer) → StopIsTold → EventsAreSteps
      → Tells (opens design scenario programs) scenario.events (end.Stopped why) t [] sent
      → Says STOPPED (lines_text (common_lines t) ++ lines_text (map (entry_line t.run.design) t.journal)) a
      → IsWorldAnswer design scenario (status_of a) (text_of a)
  stopped_says why t sent a law steps tells says =
      let run : t.run ≡ run_of design scenario =
      stop_run (opens design scenario programs) t scenario.events why tells.lines tells.runs in
      let rows : lines_text (common_lines t) ≡ report design scenario.env
      (finished_by_all (run_of design scenario) t.state) =
      law (run_of design scenario) programs scenario.events why t sent (rules_of design scenario rules kept) tells in
      inr (inl (
        says.0,
        record {
          why = why;
          state = t.state;
          journal = t.journal;
          stops = steps (run_of design scenario) programs scenario.events (end.Stopped why) t tells.lines tells.runs;
          text_is =
              says.1
              ∙ ap (λ (xs : List ℕ). xs ++ lines_text (map (entry_line t.run.design) t.journal)) rows
              ∙ ap (λ (r : Run). report design scenario.env (finished_by_all (run_of design scenario) t.state)
              ++ lines_text (map (entry_line r.design) t.journal)) run;
        },
      ))

  refused_says : (index : ℕ) (fault : EventFault) (t : BusValue) (sent : List ℕ) (a : Answer) → EventsAreSteps
      → Tells (opens design scenario programs) scenario.events (end.Refused index fault) t [] sent
      → Says SCENARIO_REFUSED (event_fault_line t.run.design index fault ++ line_end) a
      → IsWorldAnswer design scenario (status_of a) (text_of a)
  refused_says index fault t sent a steps tells says =
      let refused : IsRefusedAt (opens design scenario programs) scenario.events index fault t tells.lines =
      tells.runs in
      let run : t.run ≡ run_of design scenario =
      all_run (opens design scenario programs) t (take index scenario.events) tells.lines refused.happen in
      let same : t.run.design ≡ design = ap (λ (r : Run). r.design) run in
      inr (inr (
        says.0,
        record {
          index = index;
          fault = fault;
          refused =
              steps (run_of design scenario) programs scenario.events (end.Refused index fault) t
              tells.lines tells.runs;
          text_is = says.1 ∙ ap (λ (d : DesignParts). event_fault_line d index fault ++ line_end) same;
        },
      ))

-- what a world leaves is an answer to its scenario
abbrev Left : BusValue → List Event → BusValue → Answer → Type 0
Left before events after a =
    (how : LooseEnd) × (sent : List ℕ) × Tells before events how after [] sent
    × Says (status_at how) (text_at how after sent) a

left_by : (design : DesignParts) (scenario : Scenario) (programs : List CodeParts) (how : LooseEnd) (t : BusValue)
    (sent : List ℕ) (a : Answer) → IsDesign design → IsScenarioOf design scenario
    → TextIsTold → StopIsTold → EventsAreSteps → Tells (opens design scenario programs) scenario.events how t [] sent
    → Says (status_at how) (text_at how t sent) a
    → IsWorldAnswer design scenario (status_of a) (text_of a)
left_by design scenario programs end.All t sent a rules kept all stopped steps tells says =
    finished_says design scenario programs rules kept t sent a all steps tells says
left_by design scenario programs (end.Stopped why) t sent a rules kept all stopped steps tells says =
    stopped_says design scenario programs rules kept why t sent a stopped steps tells says
left_by design scenario programs (end.Refused index fault) t sent a rules kept all stopped steps tells says =
    refused_says design scenario programs rules kept index fault t sent a steps tells says

pub left_says : {E : Type 0} (design : DesignParts) (scenario : Scenario) (programs : List CodeParts)
    (before after : BusValue) (events : List Event) (answered : Result Answer E)
    → IsDesign design → IsScenarioOf design scenario → TextIsTold → StopIsTold → EventsAreSteps
    → before ≡ opens design scenario programs → events ≡ scenario.events
    → IfOk answered (λ a. Left before events after a)
    → IfOk answered (λ a. IsWorldAnswer design scenario (status_of a) (text_of a))
left_says design scenario programs before after events (Ok a) rules kept all stopped steps same are left =
    let here : Left (opens design scenario programs) scenario.events after a =
    subst (λ (b : BusValue). Left b scenario.events after a) same
    (subst (λ (es : List Event). Left before es after a) are left) in
    left_by design scenario programs here.0 after here.1 a rules kept all stopped steps here.2 here.3
left_says design scenario programs before after events (Err e) rules kept all stopped steps same are left = tt
