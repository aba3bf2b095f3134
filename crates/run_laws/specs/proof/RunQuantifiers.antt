-- What it is to hold in each run of a design: with any clocks, with list clocks, and with nodes that meet.
use Rattle.std.specs.Prelude.{List}
use Rattle.pals_clock.specs.ClockStates.{ClockState}
use Rattle.pals_runs.specs.declared.journal.JournalEntry.{JournalEntry}
use Rattle.bus_machine.specs.BusStates.{BusState}
use Rattle.bus_machine.specs.RunParameters.{Run}
use Rattle.bus_machine.specs.proof.AgreementLaws.{IsRunOf}
use Rattle.pals_clock.specs.declared.clock.Clocks.{Clocks}
use Rattle.pals_clock.specs.declared.clock.Clocks.TheVariants.{Meet, Lists}
use Rattle.run_laws.specs.Runs.{Runs}

-- in each run of a design, with any clocks
abbrev pub InRuns : (Run → Clocks → List JournalEntry → BusState → Type 0) → Type 0
InRuns P =
    (run : Run) (clocks : Clocks) (journal : List JournalEntry) (s : BusState) → IsRunOf run → Runs run clocks journal s
    → P run clocks journal s

-- in each run whose clocks are lists
abbrev pub InListRuns : (Run → List ClockState → List JournalEntry → BusState → Type 0) → Type 0
InListRuns P =
    (run : Run) (clocks : List ClockState) (journal : List JournalEntry) (s : BusState) → IsRunOf run
    → Runs run (Lists clocks) journal s → P run clocks journal s

-- in each run whose nodes meet
abbrev pub InMeetings : (Run → List JournalEntry → BusState → Type 0) → Type 0
InMeetings P =
    (run : Run) (journal : List JournalEntry) (s : BusState) → IsRunOf run → Runs run Meet journal s → P run journal s
