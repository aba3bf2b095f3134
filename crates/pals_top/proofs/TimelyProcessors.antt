-- On each processor whose budget fits, the steps are done in time.
use Rattle.std.proofs.Common.{List, All}
use Rattle.std.proofs.lemmas.List.Elements.{All-map, All-weaker}
use Rattle.step_code.specs.declared.instr.CodeParts.{CodeParts}
use Rattle.pals_model.specs.declared.design.DesignParts.{DesignParts}
use Rattle.pals_model.specs.DesignRules.{IsDesign}
use Rattle.analysis_fields.specs.declared.processors.Processor.{Processor}
use Rattle.analysis_fields.specs.proof.ReplicaFaultsAndProcessors.{IsProcessorOf}
use Rattle.analysis_texts.specs.BudgetedProcessors.{processor_of}
use Rattle.scenario_json.specs.declared.scenario.Scenario.{Scenario}
use Rattle.scenario_json.specs.proof.ScenarioValidity.{IsScenarioOf}
use Rattle.round_budget.proofs.ProcessorMembers.{nodes_are_members}
use Rattle.round_budget.proofs.TimetablePromises.{budgeted_by, respond_in_time}
use Rattle.pals_top.specs.Budget.{FitsInTime, processors_of}

served_in_time : (design : DesignParts) (programs : List CodeParts) (p : Processor) → IsDesign design
    → IsProcessorOf design p
    → FitsInTime design programs (processor_of p)
served_in_time design programs p rules of fits =
    let described = processor_of p in
    respond_in_time design programs described.nanos described.members rules of.time.0
    (budgeted_by design programs described.nanos described.members
    (nodes_are_members design p.components of.within of.rising) fits)

pub all_in_time : (design : DesignParts) (programs : List CodeParts) (scenario : Scenario) → IsDesign design
    → IsScenarioOf design scenario
    → All (FitsInTime design programs) (processors_of scenario)
all_in_time design programs scenario rules kept =
    All-map (FitsInTime design programs) processor_of scenario.processors
    (All-weaker (IsProcessorOf design) (λ p. FitsInTime design programs (processor_of p))
    (λ p. served_in_time design programs p rules)
    scenario.processors kept.processor)
