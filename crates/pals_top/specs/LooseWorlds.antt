-- What `world --loose` makes of a design and a scenario.
use Rattle.std.specs.Prelude.{◌≡◌, ℕ, List, ◌++◌, map, ◌⊎◌}
use Rattle.pals_model.specs.declared.design.DesignParts.{DesignParts}
use Rattle.pals_model.specs.RoundTexts.{line_end, text_of, report}
use Rattle.pals_runs.specs.declared.events_and_faults.Event.{Event}
use Rattle.pals_runs.specs.declared.events_and_faults.EventFault.{EventFault}
use Rattle.pals_runs.specs.declared.journal.JournalEntry.{JournalEntry}
use Rattle.pals_runs.specs.declared.journal.Stop.{Stop}
use Rattle.pals_runs.specs.JournalLines.{entry_line}
use Rattle.scenario_json.specs.declared.scenario.Scenario.{Scenario}
use Rattle.bus_machine.specs.BusStates.{BusState, opening, finished_by_all}
use Rattle.bus_machine.specs.RunParameters.{Run}
use Rattle.bus_machine.specs.WorldTexts.{worldtext}
use Rattle.loose_world.specs.LooseEventsAsSteps.{AllStep, StepsToStop, StepsToFault}
use Rattle.pals_report.specs.EventFaultLines.{event_fault_line}
use Rattle.pals_top.specs.declared.status.TheConstants.{DONE, SCENARIO_REFUSED, STOPPED}
use Rattle.pals_top.specs.BundleScenarios.{run_of}

-- ---- worlds, from the opening of a run on
-- each event is a step of the bus machine that gives no stop
pub record IsWorld (run : Run) (events : List Event) (text : List ℕ) : Type 0 where
  pub state : BusState
  pub journal : List JournalEntry
  pub steps : AllStep run (opening run) events state journal
  pub text_is : text ≡ worldtext run.design run.env events

-- an event gives a stop; the rounds that all nodes have finished, and the journal
pub record IsStoppedWorld (run : Run) (events : List Event) (text : List ℕ) : Type 0 where
  pub why : Stop
  pub state : BusState
  pub journal : List JournalEntry
  pub stops : StepsToStop run events why state journal
  pub text_is : text ≡ report run.design run.env (finished_by_all run state)
      ++ text_of (map (entry_line run.design) journal)

-- an event is not allowed, and none before it gives a stop
pub record HasEventFault (run : Run) (events : List Event) (text : List ℕ) : Type 0 where
  pub index : ℕ
  pub fault : EventFault
  pub refused : StepsToFault run events index fault
  pub text_is : text ≡ event_fault_line run.design index fault ++ line_end

-- what the events of a scenario give
abbrev pub IsWorldAnswer : DesignParts → Scenario → ℕ → List ℕ → Type 0
IsWorldAnswer design scenario status text =
    let run = run_of design scenario in
    ((status ≡ DONE) × IsWorld run scenario.events text)
    ⊎ ((status ≡ STOPPED) × IsStoppedWorld run scenario.events text)
    ⊎ ((status ≡ SCENARIO_REFUSED) × HasEventFault run scenario.events text)
