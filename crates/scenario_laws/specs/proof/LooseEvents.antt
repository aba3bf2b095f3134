-- Events of a loose world.
use Rattle.std.specs.Prelude.{◌≤◌, true, ℕ, List, length, All, Ok}
use Rattle.pals_base.specs.declared.limits.TheConstants.{LIST_ITEMS}
use Rattle.pals_model.specs.declared.design.DesignParts.{DesignParts}
use Rattle.pals_runs.specs.declared.commands.Command.{Command}
use Rattle.pals_runs.specs.declared.commands.Command.TheVariants.{World}
use Rattle.pals_runs.specs.declared.events_and_faults.Event.{Event}
use Rattle.scenario_json.specs.declared.scenario.Scenario.{Scenario}
use Rattle.scenario_json.specs.Scenarios.{Means}
use Rattle.loose_world.specs.LooseRuns.{IsLooseIn}

-- the command `world --loose`
abbrev pub loose_world_command : List ℕ → Command
loose_world_command root = World root true

-- events of a loose world of a design, and no more than a list may have
pub record AreLooseEvents (design : DesignParts) (events : List Event) : Type 0 where
  pub each : All (IsLooseIn design) events
  pub few : length events ≤ LIST_ITEMS

abbrev pub EventsAreLoose : Type 0
EventsAreLoose =
    (bytes root : List ℕ) (design : DesignParts) (scenario : Scenario)
    → Means bytes design (loose_world_command root) (Ok scenario)
    → AreLooseEvents design scenario.events
