-- The claims that each command has an answer to each bundle, and that each command other than `run` has only one.
use Rattle.std.specs.Prelude.{◌≡◌, ℕ, false, List}
use Rattle.pals_runs.specs.declared.commands.Command.{Command}
use Rattle.pals_runs.specs.declared.commands.Command.TheVariants.{Ring}
use Rattle.pals_top.specs.CommandWords.{IsWithinRingLimits}
use Rattle.pals_top.specs.SelfRingAnswer.{IsRingAnswer}
use Rattle.pals_top.specs.Answers.{IsCommandAnswer}
use Rattle.pals_top.specs.proof.FlaggedAndRunCommands.{is_run}

-- The answer of a command to a bundle. A ring needs none, so its answer is the same to each.
abbrev pub IsAnswerTo : Command → List ℕ → ℕ → List ℕ → Type 0
IsAnswerTo (Ring nodes rounds) bundle status text = IsRingAnswer nodes rounds status text
IsAnswerTo command bundle status text = IsCommandAnswer command bundle status text

-- a status and a text are the command's answer to the bundle
abbrev pub HasAnswer : Command → List ℕ → Type 0
HasAnswer command bundle = (status : ℕ) × (text : List ℕ) × IsAnswerTo command bundle status text

-- and no others are
pub record HasOneAnswer (command : Command) (bundle : List ℕ) : Type 0 where
  pub status : ℕ
  pub text : List ℕ
  pub is : IsAnswerTo command bundle status text
  pub only : (s : ℕ) (t : List ℕ) → IsAnswerTo command bundle s t → (s ≡ status) × (t ≡ text)

-- each command that has a form, whatever its root, has an answer to each bundle
abbrev pub EachBundleHasAnAnswer : Type 0
EachBundleHasAnAnswer = (command : Command) (bundle : List ℕ) → IsWithinRingLimits command → HasAnswer command bundle

-- and only one, if the command is not `run`
abbrev pub EachBundleHasOneAnswer : Type 0
EachBundleHasOneAnswer =
    (command : Command) (bundle : List ℕ) → is_run command ≡ false → IsWithinRingLimits command
    → HasOneAnswer command bundle
