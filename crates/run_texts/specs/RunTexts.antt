-- The report on a run of nodes that respect their clocks, once it has reached its end.
use Rattle.std.specs.Prelude.{◌≡◌, ℕ, ◌<◌, Bool, true, if◌then◌else◌, List, [], ◌++◌, map, Some, None}
use Rattle.pals_clock.specs.declared.clock.Clocks.{Clocks}
use Rattle.pals_clock.specs.declared.clock.Clocks.TheVariants.{Meet, Lists}
use Rattle.pals_model.specs.RoundTexts.{line_end, text_of, report}
use Rattle.pals_report.specs.ClockEndsAndVerdicts.{clock_end_line}
use Rattle.pals_runs.specs.declared.journal.JournalEntry.{JournalEntry}
use Rattle.pals_runs.specs.declared.phase.Phase.TheVariants.{Done}
use Rattle.pals_runs.specs.declared.journal.Stop.{Stop}
use Rattle.pals_runs.specs.declared.verdicts.Verdict.TheVariants.{Sound}
use Rattle.pals_runs.specs.JournalLines.{entry_line}
use Rattle.bus_machine.specs.Plans.{plan_of}
use Rattle.bus_machine.specs.BusStates.{BusState, node_at, finished_by_all}
use Rattle.bus_machine.specs.RunParameters.{Run}
use Rattle.bus_machine.specs.ActionsAndTargets.{target}
use Rattle.run_laws.specs.TextLines.{lines_of}
use Rattle.run_laws.specs.TraceVerdicts.{verdict}
use Rattle.run_laws.specs.RunGuarantees.{KeepsClauses}
use Rattle.run_laws.specs.ListRunEndsAndStops.{AllAtEnd}
use Rattle.run_laws.specs.Meetings.{AllDone}
use Rattle.run_laws.specs.Runs.{Runs, HasEnded, lists_in}
use Rattle.run_texts.specs.declared.run_report.RunReport.{RunReport}
use Rattle.run_texts.specs.declared.run_report.RunReport.TheVariants.{Completed, Stopped, ClockEnded}

-- the nodes have kept to clocks with these lists from the opening of a run on, in some order, and this is what they
-- have left
pub record RunOutcome (run : Run) (clocks : Clocks) : Type 0 where
  pub later : Clocks
  pub lists : lists_in later ≡ lists_in clocks
  pub journal : List JournalEntry
  pub state : BusState
  pub runs : Runs run later journal state
  pub keeps : KeepsClauses run later journal state

abbrev pub journal_text : Run → List JournalEntry → List ℕ
journal_text run journal = text_of (map (entry_line run.design) journal)

-- ---- all nodes are done
-- the rows of all rounds, which are the composition's, and in a trace the journal; an audit finds such a trace sound
pub record IsCompletedRun (run : Run) (clocks : Clocks) (trace : Bool) (text : List ℕ) : Type 0 where
  pub outcome : RunOutcome run clocks
  pub done : AllDone run outcome.state
  pub going : outcome.state.stop ≡ None
  pub text_is : text ≡ report run.design run.env run.rounds ++ (if trace then journal_text run outcome.journal else [])
  pub sound : trace ≡ true → verdict run (lines_of text) ≡ Sound run.rounds None

-- ---- the run has stopped
-- the rows of the rounds that all nodes have finished, and the journal; an audit finds it sound, with that stop
pub record IsStoppedRun (run : Run) (clocks : Clocks) (text : List ℕ) : Type 0 where
  pub outcome : RunOutcome run clocks
  pub why : Stop
  pub stop : outcome.state.stop ≡ Some why
  pub text_is : text ≡ report run.design run.env (finished_by_all run outcome.state) ++ journal_text run outcome.journal
  pub sound : verdict run (lines_of text) ≡ Sound (finished_by_all run outcome.state) (Some why)

-- ---- a clock has ended
-- a node's list holds no reading for this target, which is its next one
abbrev pub EndsAt : Run → Clocks → BusState → ℕ → ℕ → Type 0
EndsAt run Meet s node goal = ⊥
EndsAt run (Lists lists) s node goal =
    (ended : HasEnded run lists s node) × (target (plan_of run.design node) ended.0 ≡ goal)

-- each node is done or its list has ended, and the first whose list has ended is named, with the target that it waits
-- for
pub record IsEndedRun (run : Run) (clocks : Clocks) (text : List ℕ) : Type 0 where
  pub outcome : RunOutcome run clocks
  pub going : outcome.state.stop ≡ None
  pub all : AllAtEnd run outcome.later outcome.state
  pub node : ℕ
  pub goal : ℕ
  pub ends : EndsAt run outcome.later outcome.state node goal
  pub first : (other : ℕ) → other < node → (node_at outcome.state other).phase ≡ Done
  pub text_is : text ≡ clock_end_line run.design node goal ++ line_end

abbrev pub TellsRun : Run → Clocks → Bool → RunReport → Type 0
TellsRun run clocks trace (Completed text) = IsCompletedRun run clocks trace text.items
TellsRun run clocks trace (Stopped text) = IsStoppedRun run clocks text.items
TellsRun run clocks trace (ClockEnded text) = IsEndedRun run clocks text.items
