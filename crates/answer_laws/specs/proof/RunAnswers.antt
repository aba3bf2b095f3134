-- What `run` answers to a bundle. Which of several answers comes, the order decides in which the nodes act; a run in
-- time has one.
use Rattle.std.specs.Prelude.{◌≡◌, ◌≢◌, ◌⊎◌, ℕ, Bool, true, false, List, [], ◌∷◌, ◌++◌, Some, None}
use Rattle.pals_clock.specs.declared.clock.Clocks.TheVariants.{Meet}
use Rattle.pals_model.specs.declared.design.DesignParts.{DesignParts}
use Rattle.pals_model.specs.RoundTexts.{report}
use Rattle.pals_runs.specs.declared.journal.JournalEntry.{JournalEntry}
use Rattle.pals_runs.specs.declared.journal.Stop.{Stop}
use Rattle.pals_runs.specs.declared.verdicts.Verdict.TheVariants.{Sound}
use Rattle.design_codes.specs.OverlongCodes.{AreShort}
use Rattle.scenario_json.specs.declared.scenario.Scenario.{Scenario}
use Rattle.bus_machine.specs.RunParameters.{Run}
use Rattle.run_laws.specs.TextLines.{lines_of}
use Rattle.run_laws.specs.TraceVerdicts.{verdict}
use Rattle.run_laws.specs.proof.TimelyRunsAndEnds.{InTime, AllPicked}
use Rattle.run_laws.specs.BoundsBrokenAtStops.{DelaysFit}
use Rattle.run_texts.specs.RunTexts.{journal_text}
use Rattle.pals_top.specs.declared.status.TheConstants.{DONE, STOPPED, CLOCK_ENDED}
use Rattle.pals_top.specs.AnalysisAnswers.{IsAnalysisAnswer}
use Rattle.pals_top.specs.ExecutionAnswers.{IsExecutionAnswer}
use Rattle.pals_top.specs.BundleScenarios.{run_of, HasScenario}
use Rattle.pals_runs.specs.declared.commands.Command.TheVariants as command
use Rattle.pals_runs.specs.declared.journal.JournalEntry.TheVariants as entry
use Rattle.pals_top.specs.AnalysisCommands as analysis
use Rattle.pals_top.specs.ExecutionCommands as execution

-- the statuses of a run: all nodes are done, the run has stopped, or a list has ended
abbrev pub IsRunStatus : ℕ → Type 0
IsRunStatus status = (status ≡ DONE) ⊎ (status ≡ STOPPED) ⊎ (status ≡ CLOCK_ENDED)

-- of each answer to a bundle that means a design and a scenario, with a trace or without
abbrev pub InRunAnswers : (DesignParts → Scenario → Bool → ℕ → List ℕ → Type 0) → Type 0
InRunAnswers P =
    (root bundle : List ℕ) (design : DesignParts) (scenario : Scenario) (trace : Bool) (status : ℕ) (text : List ℕ)
    → HasScenario root bundle (command.Run root trace) design scenario
    → IsExecutionAnswer (execution.Run trace) root bundle status text → P design scenario trace status text

-- ---- in time
-- the run of a scenario is in time
abbrev pub IsInTime : DesignParts → Scenario → Type 0
IsInTime design scenario = InTime (run_of design scenario) scenario.clocks

-- its answer without a trace is one
abbrev pub OneAnswerInTime : Type 0
OneAnswerInTime =
    (root bundle : List ℕ) (design : DesignParts) (scenario : Scenario) (s t : ℕ) (a b : List ℕ)
    → HasScenario root bundle (command.Run root false) design scenario → IsInTime design scenario
    → IsExecutionAnswer (execution.Run false) root bundle s a → IsExecutionAnswer (execution.Run false) root bundle t b
    → (s ≡ t) × (a ≡ b)

-- with a trace or without, it is not stopped
abbrev pub NoneIsStopped : Type 0
NoneIsStopped = InRunAnswers (λ design scenario trace status text. IsInTime design scenario → status ≢ STOPPED)

-- the rows of the composition, as `sync` writes them, and in a trace then a journal
abbrev pub ShowsRounds : Run → Bool → List ℕ → Type 0
ShowsRounds run false text = text ≡ report run.design run.env run.rounds
ShowsRounds run true text =
    (journal : List JournalEntry) × (text ≡ report run.design run.env run.rounds ++ journal_text run journal)

abbrev pub IsSynchronous : DesignParts → Scenario → Bool → ℕ → List ℕ → Type 0
IsSynchronous design scenario trace status text = (status ≡ DONE) × ShowsRounds (run_of design scenario) trace text

-- where the picks of each node reach its last target, as where nodes meet, it is done with the rounds of the
-- composition
abbrev pub DoneInTime : Type 0
DoneInTime = InRunAnswers (λ design scenario trace status text. AreShort design → IsInTime design scenario
    → AllPicked (run_of design scenario) scenario.clocks → IsSynchronous design scenario trace status text)

-- without a trace that is the answer of `sync` to the bundle
abbrev pub AnswersAsSync : Type 0
AnswersAsSync =
    (root bundle : List ℕ) (design : DesignParts) (scenario : Scenario) (status : ℕ) (text : List ℕ)
    → HasScenario root bundle (command.Run root false) design scenario → AreShort design → IsInTime design scenario
    → AllPicked (run_of design scenario) scenario.clocks
    → IsExecutionAnswer (execution.Run false) root bundle status text
    → IsAnalysisAnswer analysis.Sync root bundle status text

-- it is done with these rounds too where nodes meet and the delays are within the bounds
abbrev pub DoneWithinBounds : Type 0
DoneWithinBounds = InRunAnswers (λ design scenario trace status text. AreShort design → scenario.clocks ≡ Meet
    → DelaysFit (run_of design scenario) → IsSynchronous design scenario trace status text)

-- ---- sound traces
-- an audit finds a trace sound whose nodes are all done
abbrev pub DoneTracesAreSound : Type 0
DoneTracesAreSound = InRunAnswers (λ design scenario trace status text. trace ≡ true → status ≡ DONE
    → verdict (run_of design scenario) (lines_of text) ≡ Sound scenario.rounds None)

-- and the text of a run that stopped, with its stop: the rows of some rounds of the composition, and then a journal,
-- whose last line is the stop
pub record IsStoppedTrace (run : Run) (text : List ℕ) : Type 0 where
  pub rows : ℕ
  pub why : Stop
  pub before : List JournalEntry
  pub text_is : text ≡ report run.design run.env rows ++ journal_text run (before ++ entry.Stopped why ∷ [])
  pub sound : verdict run (lines_of text) ≡ Sound rows (Some why)

abbrev pub StoppedTracesAreSound : Type 0
StoppedTracesAreSound =
    InRunAnswers (λ design scenario trace status text. status ≡ STOPPED → IsStoppedTrace (run_of design scenario) text)
