-- The readings of a journal do not fall.
use Rattle.std.specs.Prelude.{◌≡◌, ℕ, ◌≤◌, List, [], ◌∷◌, ◌++◌, Some}
use Rattle.std.specs.Option.{unwrap_or}
use Rattle.pals_runs.specs.declared.journal.JournalEntry.{JournalEntry}
use Rattle.bus_machine.specs.RunParameters.{Run}
use Rattle.run_laws.specs.EntryEventsAndReadings.{Timed, timed}
use Rattle.run_laws.specs.JournalReadings.{latest}
use Rattle.run_laws.specs.Runs.{target_of}
use Rattle.run_laws.specs.proof.RunQuantifiers.{InRuns, InMeetings}
use Rattle.run_laws.specs.NodeLinkQuantifiers.{EachNode}

-- a line's reading is no less than the last one of its node
abbrev pub LinesRise : Run → List JournalEntry → List JournalEntry → Type 0
LinesRise run front [] = Unit {0}
LinesRise run front (e ∷ es) =
    ((t : Timed) → timed run.design e ≡ Some t → latest run.design t.node front ≤ unwrap_or t.reading 0)
    × LinesRise run (front ++ e ∷ []) es

abbrev pub ReadingsRise : Type 0
ReadingsRise = InRuns (λ run clocks journal s. LinesRise run [] journal)

-- where nodes meet, no reading so far is greater than the target of a node that is not done
abbrev pub ReadingsAreBelowTargets : Type 0
ReadingsAreBelowTargets = InMeetings (λ run journal s. EachNode run (λ node. (other least : ℕ)
    → target_of run s node ≡ Some least → latest run.design other journal ≤ least))
