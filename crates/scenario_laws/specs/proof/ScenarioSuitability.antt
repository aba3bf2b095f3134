-- A scenario that was read suits its design: rounds, inputs, clocks, delays, faults and processors.
use Rattle.std.specs.Prelude.{ℕ, List, Ok}
use Rattle.pals_model.specs.declared.design.DesignParts.{DesignParts}
use Rattle.pals_model.specs.DesignRules.{IsDesign}
use Rattle.pals_runs.specs.declared.commands.Command.{Command}
use Rattle.scenario_json.specs.declared.scenario.Scenario.{Scenario}
use Rattle.scenario_json.specs.proof.ScenarioValidity.{IsScenarioOf}
use Rattle.scenario_json.specs.Scenarios.{Means}

-- its rounds, inputs, clocks, delays, faults and processors suit the design
abbrev pub ScenariosSuit : Type 0
ScenariosSuit =
    (bytes : List ℕ) (command : Command) (design : DesignParts) (scenario : Scenario) → IsDesign design
    → Means bytes design command (Ok scenario) → IsScenarioOf design scenario
