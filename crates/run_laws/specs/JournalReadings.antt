-- What a journal shows of a node: the readings of its starts, of its sends and of all its actions, and the last
-- reading of its clock.
use Rattle.std.specs.Prelude.{ℕ, nat_eq, if◌then◌else◌, List, [], ◌∷◌, Option, Some, None}
use Rattle.std.specs.List.{flat_map, fold}
use Rattle.std.specs.Option.{unwrap_or}
use Rattle.pals_base.specs.declared.basic_types.NodeNo.{NodeNo}
use Rattle.pals_model.specs.declared.design.DesignParts.{DesignParts}
use Rattle.pals_runs.specs.declared.journal.JournalEntry.{JournalEntry}
use Rattle.run_laws.specs.EntryEventsAndReadings.{Timed, timed}
use Rattle.pals_runs.specs.declared.journal.JournalEntry.TheVariants as entry

-- ---- readings, in the order of the journal
abbrev pub listed : Option ℕ → List ℕ
listed None = []
listed (Some at) = at ∷ []

abbrev pub if_at : ℕ → NodeNo → Option ℕ → List ℕ
if_at node j reading = if nat_eq j.0 node then listed reading else []

abbrev pub start_in : ℕ → JournalEntry → List ℕ
start_in node (entry.Start j round reading) = if_at node j reading
start_in node _ = []

abbrev pub send_in : ℕ → JournalEntry → List ℕ
send_in node (entry.Send j round reading) = if_at node j reading
send_in node _ = []

-- a start, a step or a send
abbrev pub act_in : ℕ → JournalEntry → List ℕ
act_in node (entry.Start j round reading) = if_at node j reading
act_in node (entry.Step j round step reading) = if_at node j reading
act_in node (entry.Send j round reading) = if_at node j reading
act_in node _ = []

-- the readings of the starts: position r has the reading of round r
abbrev pub starts : ℕ → List JournalEntry → List ℕ
starts node journal = flat_map (start_in node) journal

-- the readings of the sends: position r has the reading of round r
abbrev pub sends : ℕ → List JournalEntry → List ℕ
sends node journal = flat_map (send_in node) journal

abbrev pub acts : ℕ → List JournalEntry → List ℕ
acts node journal = flat_map (act_in node) journal

-- ---- the last reading of a node's clock that the journal shows, 0 if it shows none
abbrev pub last_of : ℕ → ℕ → Option Timed → ℕ
last_of node before None = before
last_of node before (Some t) = if nat_eq t.node node then unwrap_or t.reading 0 else before

abbrev pub latest : DesignParts → ℕ → List JournalEntry → ℕ
latest design node journal = fold (λ before e. last_of node before (timed design e)) 0 journal
