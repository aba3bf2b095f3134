-- The claim that the pairs of a scenario that was read can be fused.
use Rattle.std.specs.Prelude.{ℕ, List, Ok}
use Rattle.pals_model.specs.declared.design.DesignParts.{DesignParts}
use Rattle.pals_runs.specs.declared.commands.Command.{Command}
use Rattle.scenario_json.specs.declared.scenario.Scenario.{Scenario}
use Rattle.scenario_json.specs.Scenarios.{Means}
use Rattle.plant_fuse.specs.FusedComposition.{ArePairs}

-- both components of a pair exist, at one rate, the plant is linked only to its controller, and no component is in two
-- pairs
abbrev pub PairsCanBeFused : Type 0
PairsCanBeFused =
    (bytes : List ℕ) (command : Command) (design : DesignParts) (scenario : Scenario)
    → Means bytes design command (Ok scenario)
    → ArePairs design scenario.plants
