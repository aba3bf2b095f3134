-- Each analysis and each command that needs step codes has an answer to a design and its scenario.
use Rattle.std.proofs.Common.{ℕ, List, refl, subst}
use Rattle.pals_model.specs.declared.design.DesignParts.{DesignParts}
use Rattle.pals_model.specs.DesignRules.{IsDesign}
use Rattle.scenario_json.specs.declared.scenario.Scenario.{Scenario}
use Rattle.scenario_json.specs.proof.ScenarioValidity.{IsScenarioOf}
use Rattle.scenario_laws.specs.proof.LooseEvents.{AreLooseEvents}
use Rattle.plant_fuse.specs.FusedComposition.{ArePairs}
use Rattle.pals_runs.specs.declared.plant_pairs.Pair.{Pair}
use Rattle.plant_fuse.specs.FusedReport.{IsFusedReport}
use Rattle.plant_fuse.specs.proof.FusedLaws.{ReportExists}
use Rattle.plant_fuse.proofs.ReportsWithoutPairs.{report_without_pairs}
use Rattle.plant_fuse.proofs.ExactlyOneSolution.{solution_is_one}
use Rattle.analysis_texts.proofs.OutvotedFaults.{rows_outvoted, rows_alone}
use Rattle.pals_top.specs.AnalysisCommands.{Analysis, Sync, Watch, Vote, Fuse}
use Rattle.pals_top.specs.ExecutionCommands.{Execution, TimedWorld, LooseWorld, Run, Audit, Budget}
use Rattle.pals_top.specs.AnalysisAnswers.{Makes as analyses}
use Rattle.pals_top.specs.ExecutionAnswers.{Makes as executes}
use Rattle.pals_top.specs.proof.BundlesWithCodes.{HasEvents}
use Rattle.pals_top.specs.TimedWorlds.{world_of}
use Rattle.pals_top.proofs.Audits.{audit_of}
use Rattle.pals_top.proofs.TimelyProcessors.{all_in_time}
use Rattle.pals_top.proofs.LooseWorlds.{rules_of}
use Rattle.answer_laws.specs.proof.ExistencePremises.{ExistenceLaws}
use Rattle.answer_laws.proofs.ExistingStepCodes.{has_codes}
use Rattle.answer_laws.proofs.ExistingRunAnswers.{run_answer}
use Rattle.answer_laws.proofs.ExistingLooseWorldAnswers.{world_answer}
use Rattle.trace_laws.proofs.WorldDelays.{world_runs_are_carried}
use Rattle.bus_machine.specs.proof.AgreementLaws.{IsRunOf}
use Rattle.answer_laws.proofs.TimedWorldAnswers.{answered}

-- ---- analyses
abbrev pub IsMadeByAnalysis : Analysis → DesignParts → Scenario → Type 0
IsMadeByAnalysis what design scenario = (status : ℕ) × (text : List ℕ) × analyses what design scenario status text

by_sync : (design : DesignParts) (scenario : Scenario) → IsMadeByAnalysis Sync design scenario
by_sync design scenario = (_, _, (refl, refl))

by_watch : (design : DesignParts) (scenario : Scenario) → IsMadeByAnalysis Watch design scenario
by_watch design scenario = (_, _, record { status_is = refl; text_is = refl })

by_vote : (design : DesignParts) (scenario : Scenario) → IsDesign design → IsScenarioOf design scenario
    → IsMadeByAnalysis Vote design scenario
by_vote design scenario rules suits = (
  _,
  _,
  record {
    status_is = refl;
    text_is = refl;
    outvoted = rows_outvoted design scenario.env scenario.replicas scenario.faults scenario.rounds rules suits.fault;
    alone = rows_alone design scenario.env scenario.replicas scenario.faults scenario.rounds rules suits.fault;
  },
)

module _ (fused : ReportExists) where
  by_fuse : (design : DesignParts) (scenario : Scenario) → IsDesign design → ArePairs design scenario.plants
      → IsMadeByAnalysis Fuse design scenario
  by_fuse design scenario rules pairs =
      let there = fused design scenario.plants scenario.env scenario.rounds rules pairs in (
        _,
        there.0,
        record {
          status_is = refl;
          report = there.1;
          unique = λ ins other.
              solution_is_one design scenario.plants scenario.env scenario.rounds ins other rules pairs;
          alone = λ none.
              report_without_pairs design scenario.env scenario.rounds there.0 rules
              (subst (λ (ps : List Pair). IsFusedReport design ps scenario.env scenario.rounds there.0) none there.1);
        },
      )

  pub by_analysis : (what : Analysis) (design : DesignParts) (scenario : Scenario) → IsDesign design
      → IsScenarioOf design scenario
      → ArePairs design scenario.plants → IsMadeByAnalysis what design scenario
  by_analysis Sync design scenario rules suits pairs = by_sync design scenario
  by_analysis Watch design scenario rules suits pairs = by_watch design scenario
  by_analysis Vote design scenario rules suits pairs = by_vote design scenario rules suits
  by_analysis Fuse design scenario rules suits pairs = by_fuse design scenario rules pairs

-- ---- executions
abbrev pub IsMadeByExecution : Execution → DesignParts → Scenario → Type 0
IsMadeByExecution what design scenario = (status : ℕ) × (text : List ℕ) × executes what design scenario status text

by_timed_world : (design : DesignParts) (scenario : Scenario) → IsDesign design → IsScenarioOf design scenario
    → IsMadeByExecution TimedWorld design scenario
by_timed_world design scenario rules suits =
    let run_rules : IsRunOf (world_of design scenario) = record { design = rules; rounds = suits.long.0 } in
    answered (world_of design scenario) run_rules suits.long.1
    (world_runs_are_carried design scenario.env scenario.rounds run_rules) scenario.events

by_loose_world : (design : DesignParts) (scenario : Scenario) → AreLooseEvents design scenario.events
    → IsMadeByExecution LooseWorld design scenario
by_loose_world design scenario loose = world_answer design scenario loose.each

by_audit : (design : DesignParts) (scenario : Scenario) → IsDesign design → IsScenarioOf design scenario
    → IsMadeByExecution Audit design scenario
by_audit design scenario rules suits =
    (_, _, audit_of design scenario _ _ (rules_of design scenario rules suits) (refl, refl))

module _ (laws : ExistenceLaws) where
  by_budget : (design : DesignParts) (scenario : Scenario) → IsDesign design → IsScenarioOf design scenario
      → IsMadeByExecution Budget design scenario
  by_budget design scenario rules suits =
      let codes = has_codes laws.layout design rules in
      let in_time = all_in_time design codes.0 scenario rules suits in
      (_, _, record { programs = codes.0; laid_out = codes.1; status_is = refl; text_is = refl; in_time = in_time })

  pub by_execution : (what : Execution) (design : DesignParts) (scenario : Scenario) → IsDesign design
      → IsScenarioOf design scenario → HasEvents what design scenario
      → IsMadeByExecution what design scenario
  by_execution TimedWorld design scenario rules suits events = by_timed_world design scenario rules suits
  by_execution LooseWorld design scenario rules suits events = by_loose_world design scenario events
  by_execution (Run trace) design scenario rules suits events =
      run_answer laws.ends laws.ends_named design scenario trace rules suits
  by_execution Audit design scenario rules suits events = by_audit design scenario rules suits
  by_execution Budget design scenario rules suits events = by_budget design scenario rules suits
