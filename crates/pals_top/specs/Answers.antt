-- The program's output: a status and a text, for its arguments and the bytes of its source.
use Rattle.std.specs.Prelude.{◌≡◌, ℕ, Bool, true, false, List, Option, Some, None, ◌⊎◌}
use Rattle.pals_runs.specs.declared.commands.Command.{Command}
use Rattle.pals_runs.specs.declared.commands.Command.TheVariants.{Print, Check, Sync, World, Run, Audit, Ring, Watch}
use Rattle.pals_runs.specs.declared.commands.Command.TheVariants.{Vote, Fuse, Budget}
use Rattle.pals_top.specs.declared.status.TheConstants.{USAGE}
use Rattle.pals_top.specs.ProgramInput.{Reading, HasRead, IsReadFault}
use Rattle.pals_top.specs.CommonAnswerTexts.{usage_line}
use Rattle.pals_top.specs.Print.{IsPrintAnswer}
use Rattle.pals_top.specs.Check.{IsCheckAnswer}
use Rattle.pals_top.specs.SelfRingAnswer.{IsRingAnswer}
use Rattle.pals_top.specs.AnalysisAnswers.{IsAnalysisAnswer}
use Rattle.pals_top.specs.ExecutionAnswers.{IsExecutionAnswer}
use Rattle.pals_top.specs.AnalysisCommands as analysis
use Rattle.pals_top.specs.ExecutionCommands as execution

-- The answer of a command to a bundle. No other command reads one.
abbrev pub IsCommandAnswer : Command → List ℕ → ℕ → List ℕ → Type 0
IsCommandAnswer Print bundle status text = IsPrintAnswer bundle status text
IsCommandAnswer (Check root) bundle status text = IsCheckAnswer root bundle status text
IsCommandAnswer (Sync root) bundle status text = IsAnalysisAnswer analysis.Sync root bundle status text
IsCommandAnswer (Watch root) bundle status text = IsAnalysisAnswer analysis.Watch root bundle status text
IsCommandAnswer (Vote root) bundle status text = IsAnalysisAnswer analysis.Vote root bundle status text
IsCommandAnswer (Fuse root) bundle status text = IsAnalysisAnswer analysis.Fuse root bundle status text
IsCommandAnswer (World root false) bundle status text = IsExecutionAnswer execution.TimedWorld root bundle status text
IsCommandAnswer (World root true) bundle status text = IsExecutionAnswer execution.LooseWorld root bundle status text
IsCommandAnswer (Run root trace) bundle status text = IsExecutionAnswer (execution.Run trace) root bundle status text
IsCommandAnswer (Audit root) bundle status text = IsExecutionAnswer execution.Audit root bundle status text
IsCommandAnswer (Budget root) bundle status text = IsExecutionAnswer execution.Budget root bundle status text
IsCommandAnswer (Ring nodes rounds) bundle status text = ⊥

-- A command reads all bytes and answers them, or reports why they were not read.
pub record IsBundleAnswer (command : Command) (seen : Reading) (status : ℕ) (text : List ℕ) : Type 0 where
  pub bundle : List ℕ
  pub read : HasRead seen bundle
  pub answer : IsCommandAnswer command bundle status text

-- a ring reads nothing; all other commands read a bundle
abbrev pub reads_source : Command → Bool
reads_source (Ring nodes rounds) = false
reads_source command = true

abbrev pub IsSourceAnswer : Command → Reading → ℕ → List ℕ → Type 0
IsSourceAnswer command seen status text = IsBundleAnswer command seen status text ⊎ IsReadFault seen status text

abbrev pub IsFormAnswer : Command → Reading → ℕ → List ℕ → Type 0
IsFormAnswer (Ring nodes rounds) seen status text = IsRingAnswer nodes rounds status text × (seen.after ≡ seen.before)
IsFormAnswer command seen status text = IsSourceAnswer command seen status text

-- Invalid arguments read nothing.
abbrev pub IsAnswer : Option Command → Reading → ℕ → List ℕ → Type 0
IsAnswer None seen status text = (status ≡ USAGE) × (text ≡ usage_line) × (seen.after ≡ seen.before)
IsAnswer (Some command) seen status text = IsFormAnswer command seen status text
