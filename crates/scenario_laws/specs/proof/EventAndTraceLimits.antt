-- A scenario that was read has no more events and trace lines than a list may have.
use Rattle.std.specs.Prelude.{◌≤◌, ℕ, List, length, Ok}
use Rattle.pals_base.specs.declared.limits.TheConstants.{LIST_ITEMS}
use Rattle.pals_model.specs.declared.design.DesignParts.{DesignParts}
use Rattle.pals_runs.specs.declared.commands.Command.{Command}
use Rattle.scenario_json.specs.declared.scenario.Scenario.{Scenario}
use Rattle.scenario_json.specs.Scenarios.{Means}

-- ---- of any command
abbrev pub EventsAreFew : Type 0
EventsAreFew =
    (bytes : List ℕ) (command : Command) (design : DesignParts) (scenario : Scenario)
    → Means bytes design command (Ok scenario)
    → length scenario.events ≤ LIST_ITEMS

abbrev pub TracesAreFew : Type 0
TracesAreFew =
    (bytes : List ℕ) (command : Command) (design : DesignParts) (scenario : Scenario)
    → Means bytes design command (Ok scenario)
    → length scenario.trace ≤ LIST_ITEMS
