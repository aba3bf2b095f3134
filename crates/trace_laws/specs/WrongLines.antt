-- The meaning of a wrong line of a trace: nodes that respect alarms, releases and due times can produce the lines
-- before it, and no such nodes can produce the lines up to it.
use Rattle.std.specs.Prelude.{◌≡◌, ◌≢◌, ℕ, suc, ◌-◌, ◌*◌, ◌<◌, List, ◌++◌, length, map, take, drop, All, Option}
use Rattle.pals_runs.specs.declared.journal.JournalEntry.{JournalEntry}
use Rattle.pals_runs.specs.declared.journal.Stop.{Stop}
use Rattle.pals_runs.specs.declared.verdicts.TraceRule.{TraceRule}
use Rattle.pals_runs.specs.JournalLines.{entry_line}
use Rattle.pals_model.specs.RoundTexts.{report_lines}
use Rattle.bus_machine.specs.BusStates.{BusState, finished_by_all}
use Rattle.bus_machine.specs.RunParameters.{Run}
use Rattle.run_laws.specs.EntriesOfDesigns.{IsEntryIn}
use Rattle.run_laws.specs.HistoriesAndTraces.{History, IsTraceOf, IsStoppedOrDone}
use Rattle.run_laws.specs.TraceVerdicts.{report_size, row_size}
use Rattle.pals_runs.specs.declared.verdicts.TraceRule.TheVariants as rule

-- ---- journals
-- a history of the design has just these lines
pub record HasLines (run : Run) (lines : List (List ℕ)) : Type 0 where
  pub journal : List JournalEntry
  pub state : BusState
  pub history : History run journal state
  pub of_design : All (IsEntryIn run.design) journal
  pub lines_are : map (entry_line run.design) journal ≡ lines

-- the lines of some history begin with these
pub record BeginsHistory (run : Run) (lines : List (List ℕ)) : Type 0 where
  pub later : List (List ℕ)
  pub has : HasLines run (lines ++ later)

-- the lines after the report
abbrev pub journal_lines : List (List ℕ) → List (List ℕ)
journal_lines lines = drop (report_size lines) lines

-- ---- wrong lines
-- the line of the journal at this index of the trace is the first that no history has: the lines of the journal before
-- it begin a history's, and with it they begin none
pub record IsFirstWrong (run : Run) (lines : List (List ℕ)) (index : ℕ) : Type 0 where
  pub before : BeginsHistory run (take (index - report_size lines) (journal_lines lines))
  pub with_it : ¬ BeginsHistory run (take (suc (index - report_size lines)) (journal_lines lines))

-- no trace begins with the lines up to this index
abbrev pub NoTraceBegins : Run → List (List ℕ) → ℕ → Type 0
NoTraceBegins run lines index =
    (later : List (List ℕ)) (rounds : ℕ) (stop : Option Stop)
    → ¬ IsTraceOf run (take (suc index) lines ++ later) rounds stop

-- the first lines of the composition's rows
pub record BeginsReport (run : Run) (lines : List (List ℕ)) : Type 0 where
  pub rounds : ℕ
  pub later : List (List ℕ)
  pub rows_are : lines ++ later ≡ report_lines run.design run.env rounds

-- ---- wrong ends
-- a history has just the lines of the journal, and it is not over
pub record GoesOn (run : Run) (lines : List (List ℕ)) : Type 0 where
  pub has : HasLines run (journal_lines lines)
  pub not_over : ¬ IsStoppedOrDone run has.state

-- a history that is over has just the lines of the journal, and the report has another number of rounds than all nodes
-- finished
pub record CountsOthers (run : Run) (lines : List (List ℕ)) : Type 0 where
  pub has : HasLines run (journal_lines lines)
  pub over : IsStoppedOrDone run has.state
  pub other : (rows : ℕ) → report_size lines ≡ rows * row_size run.design → rows ≢ finished_by_all run has.state

-- some history begins with the lines of the journal, and none has just these: the stop after an early arrival is missing
pub record LacksStop (run : Run) (lines : List (List ℕ)) : Type 0 where
  pub begins : BeginsHistory run (journal_lines lines)
  pub not_all : ¬ HasLines run (journal_lines lines)

-- ---- the whole
-- the rules that a line breaks at which no stop is owed
abbrev pub IsOfEvents : TraceRule → Type 0
IsOfEvents why = (why ≢ rule.Row) × (why ≢ rule.Text) × (why ≢ rule.Stop)

-- a trace that is wrong at an index by a rule
pub record IsWrongBy (run : Run) (lines : List (List ℕ)) (index : ℕ) (why : TraceRule) : Type 0 where
  -- at any line
  pub line : index < length lines → NoTraceBegins run lines index
  -- in the report, or where it ends inside a row
  pub row : why ≡ rule.Row → BeginsReport run (take index lines)
  -- at a line of the journal
  pub journal : why ≢ rule.Row → index < length lines → IsFirstWrong run lines index
  pub before : IsOfEvents why → index < length lines
      → HasLines run (take (index - report_size lines) (journal_lines lines))
  -- at the end
  pub stop : why ≡ rule.Stop → index ≡ length lines → LacksStop run lines
  pub unfinished : why ≡ rule.Unfinished → (index ≡ length lines) × GoesOn run lines
  pub count : why ≡ rule.Count → (index ≡ length lines) × CountsOthers run lines
