-- What `world` makes of a design and a scenario.
use Rattle.std.specs.Prelude.{◌≡◌, ℕ, List, ◌++◌, ◌⊎◌}
use Rattle.pals_model.specs.declared.design.DesignParts.{DesignParts}
use Rattle.pals_model.specs.RoundTexts.{line_end}
use Rattle.pals_runs.specs.declared.events_and_faults.Event.{Event}
use Rattle.pals_runs.specs.declared.events_and_faults.EventFault.{EventFault}
use Rattle.scenario_json.specs.declared.scenario.Scenario.{Scenario}
use Rattle.bus_machine.specs.RunParameters.{Run}
use Rattle.run_laws.specs.Worlds.{world_run}
use Rattle.pals_report.specs.EventFaultLines.{event_fault_line}
use Rattle.world_texts.specs.WorldTexts.{IsToldWorld, IsFirstFault}
use Rattle.pals_top.specs.declared.status.TheConstants.{DONE, SCENARIO_REFUSED}

-- the run of its world
abbrev pub world_of : DesignParts → Scenario → Run
world_of design scenario = world_run design scenario.env scenario.rounds

-- an event is past the bounds, and none before it is
pub record HasTimedFault (run : Run) (events : List Event) (text : List ℕ) : Type 0 where
  pub index : ℕ
  pub fault : EventFault
  pub first : IsFirstFault run events index fault
  pub text_is : text ≡ event_fault_line run.design index fault ++ line_end

-- all events are within the bounds, and the text is that of their world; or the first that is not is named
abbrev pub IsTimedAnswer : DesignParts → Scenario → ℕ → List ℕ → Type 0
IsTimedAnswer design scenario status text =
    ((status ≡ DONE) × IsToldWorld (world_of design scenario) scenario.events text)
    ⊎ ((status ≡ SCENARIO_REFUSED) × HasTimedFault (world_of design scenario) scenario.events text)
