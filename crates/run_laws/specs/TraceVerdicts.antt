-- The verdict on the trace of a run: the rows of its report, and then its journal, which replays.
use Rattle.std.specs.Prelude.{ℕ, ◌+◌, ◌/◌, ◌%◌, nat_eq, Bool, true, false, not, ◌&&◌, if◌then◌else◌, List, [], ◌∷◌}
use Rattle.std.specs.Prelude.{length, map, take, drop, bytes_eq, position, Option, Some, None, is_some, is_none}
use Rattle.std.specs.Prelude.{slice_index_or, slice_set}
use Rattle.std.specs.List.{list_all, enumerate_from, position_or_len}
use Rattle.std.specs.Option.{unwrap_or}
use Rattle.pals_model.specs.declared.design.DesignParts.{DesignParts}
use Rattle.pals_model.specs.declared.environment.Env.{Env}
use Rattle.pals_model.specs.RoundTexts.{composed_lines}
use Rattle.pals_runs.specs.declared.phase.Phase.{Phase}
use Rattle.pals_runs.specs.declared.phase.Phase.TheVariants.{Waiting, Running, Between, Holding, Done}
use Rattle.pals_runs.specs.declared.journal.JournalEntry.{JournalEntry}
use Rattle.pals_runs.specs.declared.verdicts.TraceRule.{TraceRule}
use Rattle.pals_runs.specs.declared.verdicts.Verdict.{Verdict}
use Rattle.pals_runs.specs.declared.verdicts.Verdict.TheVariants.{Sound, Wrong}
use Rattle.bus_machine.specs.Nodes.{NodeState}
use Rattle.run_laws.specs.LineForms.{form_of}
use Rattle.run_laws.specs.EntriesInLines.{entry_of_line}
use Rattle.run_laws.specs.EntryEventsAndReadings.{Timed, timed, has_reading, event_of}
use Rattle.run_laws.specs.TraceRules.{broken, is_line_of, reading_of}
use Rattle.bus_machine.specs.BusStates.{BusState, opening, finished_by_all}
use Rattle.bus_machine.specs.RunParameters.{Run}
use Rattle.bus_machine.specs.Machine.{BusEvent, after}
use Rattle.bus_machine.specs.Replay.{entries}
use Rattle.pals_runs.specs.declared.journal.JournalEntry.TheVariants as entry
use Rattle.pals_runs.specs.declared.verdicts.TraceRule.TheVariants as rule

-- ---- the report: the lines before the first that has a journal line's form
abbrev pub report_size : List (List ℕ) → ℕ
report_size lines = position_or_len (λ line. is_some (form_of line)) lines

-- each row has a line for its round, one for each component and one for each root out port
abbrev pub row_size : DesignParts → ℕ
row_size design = 1 + length design.components + length design.taps

-- the composition's line at a place of the report
abbrev pub line_at : DesignParts → Env → ℕ → List ℕ
line_at design env at = slice_index_or (composed_lines design env (at / row_size design)) (at % row_size design) []

-- the first line of the report that is another, or the line after it where its last row is not whole
abbrev pub wrong_row : DesignParts → Env → List (List ℕ) → Option ℕ
wrong_row design env report =
    let other : Option ℕ = position (λ numbered. not (bytes_eq numbered.1 (line_at design env numbered.0)))
    (enumerate_from 0 report) in
    if is_some other then other else if nat_eq (length report % row_size design) 0 then None else Some (length report)

-- ---- the journal, line by line
-- a replay, with the last reading of each node, and the stop that the next line must state
pub record Audit : Type 0 where
  pub bus : BusState
  pub readings : List ℕ
  pub owed : Option JournalEntry

abbrev pub opening_audit : Run → Audit
opening_audit run = record { bus = opening run; readings = map (λ (_ : NodeState). 0) (opening run).nodes; owed = None }

abbrev pub noted : List ℕ → Option Timed → List ℕ
noted readings None = readings
noted readings (Some t) = slice_set readings t.node (reading_of t)

abbrev pub second_entry : List JournalEntry → Option JournalEntry
second_entry [] = None
second_entry (e ∷ []) = None
second_entry (e ∷ other ∷ es) = Some other

abbrev pub audit_event : Run → Audit → List ℕ → Option BusEvent → Audit
audit_event run a readings None = record a { readings = readings; owed = None }
audit_event run a readings (Some e) =
    record { bus = after run a.bus e; readings = readings; owed = second_entry (entries run a.bus e) }

-- a stop that is owed has had its event
abbrev pub audit_after : Run → Audit → JournalEntry → Audit
audit_after run a e =
    audit_event run a (noted a.readings (timed run.design e)) (if is_some a.owed then None else event_of run.design e)

-- the first rule that a line breaks
abbrev pub line_broken : Run → Audit → Option JournalEntry → Option TraceRule
line_broken run a None = Some rule.Text
line_broken run a (Some e) =
    if not (has_reading (timed run.design e)) then Some rule.Text
    else if is_some a.owed then (if is_line_of run.design e a.owed then None else Some rule.Stop)
    else broken run a.bus a.readings e

-- ---- the end
abbrev pub is_done : Phase → Bool
is_done Waiting = false
is_done (Running step) = false
is_done (Between steps) = false
is_done Holding = false
is_done Done = true

abbrev pub end_broken : Run → ℕ → Audit → Option TraceRule
end_broken run rows a =
    if is_some a.owed then Some rule.Stop
    else if is_none a.bus.stop
    && not (list_all (λ (n : NodeState). is_done n.phase) a.bus.nodes) then Some rule.Unfinished
    else if nat_eq rows (finished_by_all run a.bus) then None
    else Some rule.Count

abbrev pub wrong_or : ℕ → Option TraceRule → Verdict → Verdict
wrong_or index None otherwise = otherwise
wrong_or index (Some why) otherwise = Wrong index why

abbrev pub entry_or : Option JournalEntry → JournalEntry
entry_or o = unwrap_or o (entry.Drop (record { 0 = 0 }) 0)

-- the verdict on the journal's lines from this index on
abbrev pub journal_verdict : Run → ℕ → ℕ → Audit → List (List ℕ) → Verdict
journal_verdict run rows index a [] = wrong_or index (end_broken run rows a) (Sound rows a.bus.stop)
journal_verdict run rows index a (line ∷ lines) =
    wrong_or index (line_broken run a (entry_of_line run.design line))
    (journal_verdict run rows (index + 1) (audit_after run a (entry_or (entry_of_line run.design line))) lines)

-- ---- the whole
abbrev pub trace_verdict : Run → ℕ → Option ℕ → List (List ℕ) → Verdict
trace_verdict run size (Some index) lines = Wrong index rule.Row
trace_verdict run size None lines =
    journal_verdict run (size / row_size run.design) size (opening_audit run) (drop size lines)

abbrev pub verdict : Run → List (List ℕ) → Verdict
verdict run lines =
    trace_verdict run (report_size lines) (wrong_row run.design run.env (take (report_size lines) lines)) lines
