-- The events of a scenario give an answer in a loose world.
use Rattle.std.proofs.Common.{inl, inr, ℕ, List, ◌++◌, map, refl}
use Rattle.std.specs.Prelude.{All}
use Rattle.pals_model.specs.declared.design.DesignParts.{DesignParts}
use Rattle.pals_model.specs.RoundTexts.{line_end, text_of, report}
use Rattle.pals_runs.specs.declared.journal.JournalEntry.{JournalEntry}
use Rattle.pals_runs.specs.JournalLines.{entry_line}
use Rattle.scenario_json.specs.declared.scenario.Scenario.{Scenario}
use Rattle.bus_machine.specs.BusStates.{BusState, finished_by_all}
use Rattle.bus_machine.specs.WorldTexts.{worldtext}
use Rattle.loose_world.specs.declared.loose_run.LooseEnd.{LooseEnd}
use Rattle.loose_world.specs.declared.loose_run.LooseEnd.TheVariants as end
use Rattle.loose_world.specs.LooseRuns.{IsLooseIn}
use Rattle.loose_world.specs.proof.EventsAsSteps.{StepsTo}
use Rattle.pals_report.specs.EventFaultLines.{event_fault_line}
use Rattle.pals_top.specs.declared.status.TheConstants.{DONE, SCENARIO_REFUSED, STOPPED}
use Rattle.pals_top.specs.LooseWorlds.{IsWorldAnswer}
use Rattle.pals_top.specs.BundleScenarios.{run_of}
use Rattle.answer_laws.proofs.LooseWorldEnds.{each_list_ends}

by_end : (design : DesignParts) (scenario : Scenario) (how : LooseEnd) (t : BusState) (journal : List JournalEntry)
    → StepsTo (run_of design scenario) scenario.events how t journal
    → (status : ℕ) × (text : List ℕ) × IsWorldAnswer design scenario status text
by_end design scenario end.All t journal steps = (
  DONE,
  worldtext design scenario.env scenario.events,
  inl (refl, record { state = t; journal = journal; steps = steps; text_is = refl }),
)
by_end design scenario (end.Stopped why) t journal stops = (
  STOPPED,
  report design scenario.env (finished_by_all (run_of design scenario) t) ++ text_of (map (entry_line design) journal),
  inr (inl (refl, record { why = why; state = t; journal = journal; stops = stops; text_is = refl })),
)
by_end design scenario (end.Refused index fault) t journal refused = (
  SCENARIO_REFUSED,
  event_fault_line design index fault ++ line_end,
  inr (inr (refl, record { index = index; fault = fault; refused = refused; text_is = refl })),
)

pub world_answer : (design : DesignParts) (scenario : Scenario) → All (IsLooseIn design) scenario.events
    → (status : ℕ) × (text : List ℕ) × IsWorldAnswer design scenario status text
world_answer design scenario loose =
    let e = each_list_ends (run_of design scenario) scenario.events loose in by_end design scenario e.0 e.1 e.2 e.3
