-- That a bundle means a design and a scenario, or that its scenario has a fault, and the text that names it; and the
-- run that a scenario asks for.
use Rattle.std.specs.Prelude.{◌≡◌, ◌≢◌, ℕ, List, ◌++◌, Ok, Err}
use Rattle.pals_model.specs.declared.design.DesignParts.{DesignParts}
use Rattle.pals_model.specs.RoundTexts.{line_end}
use Rattle.pals_runs.specs.declared.commands.Command.{Command}
use Rattle.scenario_values.specs.declared.fault.ScenarioFault.{ScenarioFault}
use Rattle.scenario_values.specs.declared.fault.ScenarioFault.TheVariants.{Memory}
use Rattle.scenario_json.specs.declared.scenario.Scenario.{Scenario}
use Rattle.scenario_json.specs.Scenarios.{Means}
use Rattle.pals_report.specs.ScenarioFaultLines.{scenario_fault_line}
use Rattle.bundle_designs.specs.AcceptedAndRefusedPackages.{IsAccepted}
use Rattle.pals_top.specs.declared.status.TheConstants.{SCENARIO_REFUSED}
use Rattle.bus_machine.specs.RunParameters.{Run}

-- The bundle means this design and this scenario.
pub record HasScenario (root bundle : List ℕ) (command : Command) (design : DesignParts)
    (scenario : Scenario) : Type 0 where
  pub bytes : List ℕ
  pub accepted : IsAccepted root bundle design bytes
  pub means : Means bytes design command (Ok scenario)

-- The bundle means a design, its scenario has a fault, and the text names the first one.
pub record HasScenarioFault (root bundle : List ℕ) (command : Command) (text : List ℕ) : Type 0 where
  pub design : DesignParts
  pub bytes : List ℕ
  pub accepted : IsAccepted root bundle design bytes
  pub fault : ScenarioFault
  pub faulty : Means bytes design command (Err fault)
  pub named : fault ≢ Memory
  pub text_is : text ≡ scenario_fault_line fault ++ line_end

abbrev pub IsScenarioRefused : List ℕ → List ℕ → Command → ℕ → List ℕ → Type 0
IsScenarioRefused root bundle command status text =
    (status ≡ SCENARIO_REFUSED) × HasScenarioFault root bundle command text

-- the run that a scenario asks for
abbrev pub run_of : DesignParts → Scenario → Run
run_of design scenario =
    record { design = design; env = scenario.env; rounds = scenario.rounds; delays = scenario.delays }
