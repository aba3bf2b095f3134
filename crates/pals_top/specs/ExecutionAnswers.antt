-- What the commands answer that need a design, its step codes and a scenario.
use Rattle.std.specs.Prelude.{◌≡◌, ℕ, true, false, List, [], ◌∷◌, ◌++◌, codes, decimal, ◌⊎◌}
use Rattle.pals_base.specs.declared.basic_types.NodeNo.{NodeNo}
use Rattle.pals_model.specs.declared.design.DesignParts.{DesignParts}
use Rattle.pals_model.specs.RoundTexts.{line_end}
use Rattle.pals_runs.specs.declared.commands.Command.{Command}
use Rattle.pals_runs.specs.JournalLines.{node_word, spaced}
use Rattle.scenario_json.specs.declared.scenario.Scenario.{Scenario}
use Rattle.design_codes.specs.OverlongCodes.{AreShort, IsFirstTooLong}
use Rattle.bundle_designs.specs.AcceptedAndRefusedPackages.{IsAccepted}
use Rattle.pals_top.specs.ExecutionCommands.{Execution, TimedWorld, LooseWorld, Run, Audit, Budget}
use Rattle.pals_top.specs.declared.status.TheConstants.{CODE_TOO_LONG, SCENARIO_REFUSED}
use Rattle.pals_top.specs.RefusalAnswers.{IsBundleRefused}
use Rattle.pals_top.specs.BundleScenarios.{HasScenario, HasScenarioFault}
use Rattle.pals_top.specs.LooseWorlds.{IsWorldAnswer}
use Rattle.pals_top.specs.TimedWorlds.{IsTimedAnswer}
use Rattle.pals_top.specs.Run.{IsRunAnswer}
use Rattle.pals_top.specs.Audit.{IsAudited}
use Rattle.pals_top.specs.Budget.{IsBudgeted}
use Rattle.pals_runs.specs.declared.commands.Command.TheVariants as command

-- the command that asks for it, below a root
abbrev pub command_of : Execution → List ℕ → Command
command_of TimedWorld root = command.World root false
command_of LooseWorld root = command.World root true
command_of (Run trace) root = command.Run root trace
command_of Audit root = command.Audit root
command_of Budget root = command.Budget root

-- What each makes of a design and its scenario.
abbrev pub Makes : Execution → DesignParts → Scenario → ℕ → List ℕ → Type 0
Makes TimedWorld design scenario status text = IsTimedAnswer design scenario status text
Makes LooseWorld design scenario status text = IsWorldAnswer design scenario status text
Makes (Run trace) design scenario status text = IsRunAnswer design scenario trace status text
Makes Audit design scenario status text = IsAudited design scenario status text
Makes Budget design scenario status text = IsBudgeted design scenario status text

-- The bundle means a design and a scenario, no code is too long, and this is the result for them.
pub record IsExecuted (what : Execution) (root bundle : List ℕ) (status : ℕ) (text : List ℕ) : Type 0 where
  pub design : DesignParts
  pub scenario : Scenario
  pub means : HasScenario root bundle (command_of what root) design scenario
  pub short : AreShort design
  pub makes : Makes what design scenario status text

-- no code is too long, and the scenario has a fault
pub record IsScenarioRefusedIn (root bundle : List ℕ) (command : Command) (status : ℕ) (text : List ℕ) : Type 0 where
  pub status_is : status ≡ SCENARIO_REFUSED
  pub faulty : HasScenarioFault root bundle command text
  pub short : AreShort faulty.design

-- the line of a component whose code would have `size` instructions
abbrev pub overlong_code_line : DesignParts → ℕ → ℕ → List ℕ
overlong_code_line design node size = spaced (codes "code" ∷ node_word design node ∷ decimal size ∷ [])

-- the code of this component, and of none before it, is too long, whatever the scenario is
pub record IsCodeTooLong (root bundle : List ℕ) (status : ℕ) (text : List ℕ) : Type 0 where
  pub status_is : status ≡ CODE_TOO_LONG
  pub design : DesignParts
  pub scenario : List ℕ
  pub accepted : IsAccepted root bundle design scenario
  pub node : NodeNo
  pub size : ℕ
  pub too_long : IsFirstTooLong design node.0 size
  pub text_is : text ≡ overlong_code_line design node.0 size ++ line_end

abbrev pub IsExecutionAnswer : Execution → List ℕ → List ℕ → ℕ → List ℕ → Type 0
IsExecutionAnswer what root bundle status text =
    IsBundleRefused root bundle status text
    ⊎ IsCodeTooLong root bundle status text
    ⊎ IsScenarioRefusedIn root bundle (command_of what root) status text
    ⊎ IsExecuted what root bundle status text
