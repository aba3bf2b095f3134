-- The replay of a journal: the events of a run from its opening on, each with its entries.
use Rattle.std.specs.Prelude.{ℕ, List, [], ◌∷◌, ◌++◌, Option, Some, None}
use Rattle.std.specs.Option.{unwrap_or}
use Rattle.pals_base.specs.declared.basic_types.NodeNo.{NodeNo}
use Rattle.pals_runs.specs.declared.journal.Stop.{Stop}
use Rattle.pals_runs.specs.declared.journal.JournalEntry.{JournalEntry}
use Rattle.bus_machine.specs.Nodes.{round_of}
use Rattle.bus_machine.specs.NodeEvents.{next_step}
use Rattle.bus_machine.specs.BusStates.{BusState, opening, node_at}
use Rattle.bus_machine.specs.RunParameters.{Run}
use Rattle.bus_machine.specs.MissedMessages.{missing_link}
use Rattle.bus_machine.specs.Machine.{BusEvent, Start, Step, Finish, Send, Arrive, Drop, Repeat, IsStep, arrival}
use Rattle.bus_machine.specs.Machine.{missed_stop, early_stop}
use Rattle.pals_runs.specs.declared.journal.JournalEntry.TheVariants as entry

abbrev pub stop_entry : Option Stop → List JournalEntry
stop_entry None = []
stop_entry (Some why) = entry.Stopped why ∷ []

-- a start has the entry of its round; a missed start has only the entry of its stop
abbrev pub start_entry : Run → BusState → NodeNo → Option ℕ → Option ℕ → JournalEntry
start_entry run s node reading None = entry.Start node (node_at s node.0).count reading
start_entry run s node reading (Some link) = entry.Stopped (missed_stop run s node reading link)

-- the entries of an event, with the result of its step; an early arrival also has the entry of its stop
abbrev pub entries : Run → BusState → BusEvent → List JournalEntry
entries run s (Start node reading) = start_entry run s node reading (missing_link run s node.0) ∷ []
entries run s (Step node reading) =
    entry.Step node (round_of (node_at s node.0)) (unwrap_or (next_step (node_at s node.0).phase) 0) reading ∷ []
entries run s (Finish node) = entry.Finish node (round_of (node_at s node.0)) ∷ []
entries run s (Send node reading) = entry.Send node (round_of (node_at s node.0)) reading ∷ []
entries run s (Arrive link round reading) =
    entry.Arrive link round reading (arrival run s link round)
    ∷ stop_entry (early_stop link round reading (arrival run s link round))
entries run s (Drop link round) = entry.Drop link round ∷ []
entries run s (Repeat link round) = entry.Repeat link round ∷ []

-- the steps of a journal lead from the opening state to this one
pub data Replays (run : Run) : List JournalEntry → BusState → Type 0 where
  opens : Replays run [] (opening run)
  goes_on : {journal : List JournalEntry} {s t : BusState} (e : BusEvent) → Replays run journal s → IsStep run s e t
      → Replays run (journal ++ entries run s e) t
