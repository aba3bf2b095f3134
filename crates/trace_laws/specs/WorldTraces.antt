-- The trace of a list of timed events: the events of its nodes, each arrival postponed to the start that reads it.
use Rattle.std.specs.Prelude.{◌≡◌, ℕ, zero, suc, ◌≤◌, ◌<◌, List, [], ◌∷◌, ◌++◌, map, length, Option, Some, None}
use Rattle.pals_base.specs.declared.basic_types.NodeNo.{NodeNo}
use Rattle.pals_model.specs.declared.design.DesignParts.{DesignParts}
use Rattle.pals_model.specs.Delays.{delay_of}
use Rattle.pals_model.specs.IncomingAndOutgoingLinks.{links_into}
use Rattle.pals_model.specs.RoundTexts.{report_lines}
use Rattle.pals_runs.specs.declared.journal.Arrived.TheVariants.{Kept}
use Rattle.pals_runs.specs.declared.journal.JournalEntry.{JournalEntry}
use Rattle.pals_runs.specs.declared.events_and_faults.Event.{Event}
use Rattle.pals_runs.specs.declared.verdicts.Verdict.TheVariants.{Sound, Wrong}
use Rattle.pals_runs.specs.JournalLines.{entry_line}
use Rattle.bus_machine.specs.BusStates.{BusState, node_at, finished_by_all}
use Rattle.bus_machine.specs.RunParameters.{Run}
use Rattle.bus_machine.specs.Machine.{Start, Step, Finish, Send}
use Rattle.bus_machine.specs.Replay.{entries}
use Rattle.run_laws.specs.HistoriesAndTraces.{History, IsTraceOf}
use Rattle.run_laws.specs.Meetings.{AllDone}
use Rattle.run_laws.specs.TraceVerdicts.{verdict}
use Rattle.run_laws.specs.Worlds.{World, reading_at, opening_world, world_after}
use Rattle.run_laws.specs.EventLists.{world_left}
use Rattle.pals_runs.specs.declared.events_and_faults.Event.TheVariants as event
use Rattle.pals_runs.specs.declared.journal.JournalEntry.TheVariants as entry
use Rattle.pals_runs.specs.declared.verdicts.TraceRule.TheVariants as rule

-- ---- the journal
-- the arrivals that a start reads, link by link, with the reading of the start; the first round has none
abbrev pub arrivals_at : DesignParts → NodeNo → Option ℕ → ℕ → List JournalEntry
arrivals_at design node reading zero = []
arrivals_at design node reading (suc round) =
    map (λ number. entry.Arrive (record { 0 = number }) round reading Kept) (links_into design node.0)

-- the entries of an event: a start after the arrivals that it reads, and none of an arrival itself
abbrev pub recorded : Run → World → Event → List JournalEntry
recorded run w (event.Pass time readings) = []
recorded run w (event.Start node) =
    let reading = Some (reading_at w node.0) in
    arrivals_at run.design node reading (node_at w.bus node.0).count ++ entries run w.bus (Start node reading)
recorded run w (event.Step node) = entries run w.bus (Step node (Some (reading_at w node.0)))
recorded run w (event.Finish node) = entries run w.bus (Finish node)
recorded run w (event.Send node) = entries run w.bus (Send node (Some (reading_at w node.0)))
recorded run w (event.Arrive link round) = []
recorded run w (event.Drop link round) = []
recorded run w (event.Repeat link round) = []

abbrev pub recorded_from : Run → World → List Event → List JournalEntry
recorded_from run w [] = []
recorded_from run w (e ∷ events) = recorded run w e ++ recorded_from run (world_after run w e) events

-- the journal of a list from the opening on
abbrev pub journal_of : Run → List Event → List JournalEntry
journal_of run events = recorded_from run (opening_world run) events

-- ---- the trace
abbrev pub bus_left : Run → List Event → BusState
bus_left run events = (world_left run (opening_world run) events).bus

-- the report of the rounds that all nodes have finished, and the lines of the journal
abbrev pub trace_of_events : Run → List Event → List (List ℕ)
trace_of_events run events =
    report_lines run.design run.env (finished_by_all run (bus_left run events))
    ++ map (entry_line run.design) (journal_of run events)

-- ---- the law
-- each message of the run takes a time within the network's bounds, as each of `world_run` does
abbrev pub IsCarriedInTime : Run → Type 0
IsCarriedInTime run = (link round : ℕ) → link < length run.design.links
    → (run.design.gamma.mu_min ≤ delay_of run.delays link round)
    × (delay_of run.delays link round ≤ run.design.gamma.mu_max)

-- the journal is that of a history; if all nodes are done, the trace is one of all rounds and is judged sound; if not,
-- it is unfinished, and nothing else is wrong with it
pub record IsRecorded (run : Run) (events : List Event) : Type 0 where
  pub state : BusState
  pub history : History run (journal_of run events) state
  pub trace : AllDone run (bus_left run events) → IsTraceOf run (trace_of_events run events) run.rounds None
  pub sound : AllDone run (bus_left run events) → verdict run (trace_of_events run events) ≡ Sound run.rounds None
  pub unfinished : ¬ AllDone run (bus_left run events)
      → verdict run (trace_of_events run events) ≡ Wrong (length (trace_of_events run events)) rule.Unfinished
