-- What the commands answer that need a design and a scenario.
use Rattle.std.specs.Prelude.{◌≡◌, ℕ, List, ◌⊎◌}
use Rattle.pals_model.specs.declared.design.DesignParts.{DesignParts}
use Rattle.pals_model.specs.RoundTexts.{report}
use Rattle.pals_runs.specs.declared.commands.Command.{Command}
use Rattle.scenario_json.specs.declared.scenario.Scenario.{Scenario}
use Rattle.pals_top.specs.AnalysisCommands.{Analysis, Sync, Watch, Vote, Fuse}
use Rattle.pals_top.specs.declared.status.TheConstants.{DONE}
use Rattle.pals_top.specs.RefusalAnswers.{IsBundleRefused}
use Rattle.pals_top.specs.BundleScenarios.{HasScenario, IsScenarioRefused}
use Rattle.pals_top.specs.Watch.{IsWatched}
use Rattle.pals_top.specs.Vote.{IsVoted}
use Rattle.pals_top.specs.Fuse.{IsFusedAnswer}
use Rattle.pals_runs.specs.declared.commands.Command.TheVariants as command

-- the command that asks for it, below a root
abbrev pub command_of : Analysis → List ℕ → Command
command_of Sync root = command.Sync root
command_of Watch root = command.Watch root
command_of Vote root = command.Vote root
command_of Fuse root = command.Fuse root

-- What each makes of a design and its scenario.
abbrev pub Makes : Analysis → DesignParts → Scenario → ℕ → List ℕ → Type 0
-- the rows of all rounds
Makes Sync design scenario status text = (status ≡ DONE) × (text ≡ report design scenario.env scenario.rounds)
Makes Watch design scenario status text = IsWatched design scenario status text
Makes Vote design scenario status text = IsVoted design scenario status text
Makes Fuse design scenario status text = IsFusedAnswer design scenario status text

-- The bundle means a design and a scenario, and this is the result for them.
pub record IsAnalysed (what : Analysis) (root bundle : List ℕ) (status : ℕ) (text : List ℕ) : Type 0 where
  pub design : DesignParts
  pub scenario : Scenario
  pub means : HasScenario root bundle (command_of what root) design scenario
  pub makes : Makes what design scenario status text

abbrev pub IsAnalysisAnswer : Analysis → List ℕ → List ℕ → ℕ → List ℕ → Type 0
IsAnalysisAnswer what root bundle status text =
    IsBundleRefused root bundle status text
    ⊎ IsScenarioRefused root bundle (command_of what root) status text
    ⊎ IsAnalysed what root bundle status text
