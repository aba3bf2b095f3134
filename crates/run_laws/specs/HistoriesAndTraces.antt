-- Histories of the nodes of a run, whose events respect the times of the design; and traces, which record them.
use Rattle.std.specs.Prelude.{◌≡◌, ◌≢◌, ◌⊎◌, ℕ, ◌≤◌, true, List, [], ◌++◌, map, All, Option, Some, None}
use Rattle.pals_model.specs.declared.flight_copy.FlightCopy.{FlightCopy}
use Rattle.pals_model.specs.Flights.{oldest}
use Rattle.pals_model.specs.RoundTexts.{report_lines}
use Rattle.pals_runs.specs.declared.journal.Stop.{Stop}
use Rattle.pals_runs.specs.declared.journal.JournalEntry.{JournalEntry}
use Rattle.pals_runs.specs.JournalLines.{entry_line}
use Rattle.bus_machine.specs.Plans.{plan_of, link_at}
use Rattle.bus_machine.specs.NodeEvents.{next_step}
use Rattle.bus_machine.specs.AlarmsAndReleases.{start_alarm, step_alarm, release_reading}
use Rattle.bus_machine.specs.BusStates.{BusState, opening, node_at, flight_at, finished_by_all}
use Rattle.bus_machine.specs.RunParameters.{Run}
use Rattle.bus_machine.specs.Machine.{BusEvent, Start, Step, Finish, Send, Arrive, Drop, Repeat, IsStep}
use Rattle.bus_machine.specs.Replay.{entries}
use Rattle.run_laws.specs.JournalReadings.{latest}
use Rattle.run_laws.specs.TraceRules.{is_due}
use Rattle.run_laws.specs.Runs.{NoneDue}
use Rattle.run_laws.specs.EntriesOfDesigns.{IsEntryIn}
use Rattle.run_laws.specs.Meetings.{AllDone}

-- ---- readings
-- a node's clock shows a reading no less than its last one in the journal, and no less than this time
pub record IsRead (run : Run) (journal : List JournalEntry) (node : ℕ) (reading : Option ℕ) (least : ℕ) : Type 0 where
  pub at : ℕ
  pub reading_is : reading ≡ Some at
  pub rises : latest run.design node journal ≤ at
  pub from_then : least ≤ at

-- ---- events
-- a step is not before its own time in the round
pub record StepsInTime (run : Run) (journal : List JournalEntry) (s : BusState) (node : ℕ)
    (reading : Option ℕ) : Type 0 where
  pub step : ℕ
  pub next : next_step (node_at s node).phase ≡ Some step
  pub read : IsRead run journal node reading (step_alarm (plan_of run.design node) (node_at s node) step)

-- a start is not before its round's alarm, and all messages that are due to the node have arrived
pub record StartsInTime (run : Run) (journal : List JournalEntry) (s : BusState) (node : ℕ)
    (reading : Option ℕ) : Type 0 where
  pub read : IsRead run journal node reading (start_alarm (plan_of run.design node) (node_at s node))
  pub taken : NoneDue run s node reading

-- an arrival is read from its target's clock, and the message is due by then
pub record ArrivesInTime (run : Run) (journal : List JournalEntry) (s : BusState) (link round : ℕ)
    (reading : Option ℕ) : Type 0 where
  pub read : IsRead run journal (link_at run.design link).target.0 reading 0
  pub copy : FlightCopy
  pub is_copy : oldest round (flight_at s link) ≡ Some copy
  pub due : is_due reading copy ≡ true

-- an event respects the times of the design; a send is not before its round's release, and no message is lost or
-- repeated
abbrev pub IsInTime : Run → List JournalEntry → BusState → BusEvent → Type 0
IsInTime run journal s (Start node reading) = StartsInTime run journal s node.0 reading
IsInTime run journal s (Step node reading) = StepsInTime run journal s node.0 reading
IsInTime run journal s (Finish node) = Unit {0}
IsInTime run journal s (Send node reading) =
    IsRead run journal node.0 reading (release_reading (plan_of run.design node.0) (node_at s node.0))
IsInTime run journal s (Arrive link round reading) = ArrivesInTime run journal s link.0 round reading
IsInTime run journal s (Drop link round) = ⊥
IsInTime run journal s (Repeat link round) = ⊥

-- ---- histories
-- the journal and the state that events leave, one after another, from the opening on: each is allowed by the
-- machine, and in time
pub data History (run : Run) : List JournalEntry → BusState → Type 0 where
  opens : History run [] (opening run)
  goes_on : {journal : List JournalEntry} {s t : BusState} (e : BusEvent) → History run journal s → IsStep run s e t
      → IsInTime run journal s e
      → History run (journal ++ entries run s e) t

-- ---- traces
-- the run has stopped, or all nodes are done
abbrev pub IsStoppedOrDone : Run → BusState → Type 0
IsStoppedOrDone run s = (s.stop ≢ None) ⊎ AllDone run s

-- the report of the rounds that all nodes have finished, and then the lines of the journal
abbrev pub trace_of : Run → List JournalEntry → BusState → List (List ℕ)
trace_of run journal s = report_lines run.design run.env (finished_by_all run s) ++ map (entry_line run.design) journal

-- the lines are the report of the rounds that all nodes have finished, followed by the journal of a history that is
-- over: it has this stop, or all nodes are done. Its entries name nodes and links of the design, with numbers within
-- their limits
pub record IsTraceOf (run : Run) (lines : List (List ℕ)) (rounds : ℕ) (stop : Option Stop) : Type 0 where
  pub journal : List JournalEntry
  pub state : BusState
  pub lines_are : lines ≡ trace_of run journal state
  pub of_design : All (IsEntryIn run.design) journal
  pub history : History run journal state
  pub over : IsStoppedOrDone run state
  pub rounds_are : rounds ≡ finished_by_all run state
  pub stop_is : stop ≡ state.stop
