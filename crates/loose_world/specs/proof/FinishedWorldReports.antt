-- The text of a world in which all components have finished the same rounds: laws at every design.
use Rattle.std.specs.Prelude.{◌≡◌, ℕ, ◌<◌, List, [], ◌++◌, length}
use Rattle.pals_model.specs.declared.design.DesignParts.{DesignParts}
use Rattle.pals_model.specs.declared.environment.Env.{Env}
use Rattle.pals_model.specs.RoundTexts.{text_of, report_lines, report}
use Rattle.pals_model.specs.DesignRules.{IsDesign}
use Rattle.pals_runs.specs.declared.events_and_faults.Event.{Event}
use Rattle.bus_machine.specs.WorldTexts.{finished_by, sent_lines, world_rows, worldtext}

-- there are components, and the events finish `rounds` rounds of each
pub record AllHaveFinished (design : DesignParts) (events : List Event) (rounds : ℕ) : Type 0 where
  pub some : 0 < length design.components
  pub each : (node : ℕ) → node < length design.components → finished_by design events node ≡ rounds

-- then the rows of the world are, byte for byte, the rows that `sync` reports of these rounds
abbrev pub WorldIsReported : Type 0
WorldIsReported =
    (design : DesignParts) (env : Env) (events : List Event) (rounds : ℕ) → IsDesign design
    → AllHaveFinished design events rounds
    → world_rows design env events ≡ report_lines design env rounds

-- and its text is that report, followed by a line for each sent message
abbrev pub WorldTextIsReported : Type 0
WorldTextIsReported =
    (design : DesignParts) (env : Env) (events : List Event) (rounds : ℕ) → IsDesign design
    → AllHaveFinished design events rounds
    → worldtext design env events ≡ report design env rounds ++ text_of (sent_lines design env events [])
