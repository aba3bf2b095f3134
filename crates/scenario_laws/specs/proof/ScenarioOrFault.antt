-- For a design and a command, bytes mean a scenario, or they have a first fault.
use Rattle.std.specs.Prelude.{ℕ, ◌≢◌, List, Ok, Err}
use Rattle.pals_model.specs.declared.design.DesignParts.{DesignParts}
use Rattle.pals_runs.specs.declared.commands.Command.{Command}
use Rattle.scenario_values.specs.declared.fault.ScenarioFault.{ScenarioFault}
use Rattle.scenario_values.specs.declared.fault.ScenarioFault.TheVariants.{Memory}
use Rattle.scenario_json.specs.declared.scenario.Scenario.{Scenario}
use Rattle.scenario_json.specs.Scenarios.{Means}

-- they mean a scenario
abbrev pub HasScenario : List ℕ → DesignParts → Command → Type 0
HasScenario bytes design command = (scenario : Scenario) × Means bytes design command (Ok scenario)

-- they have a first fault, which is not `Memory`
abbrev pub HasFault : List ℕ → DesignParts → Command → Type 0
HasFault bytes design command = (fault : ScenarioFault) × (fault ≢ Memory) × Means bytes design command (Err fault)
