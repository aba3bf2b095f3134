-- Laws of the machine: a run of a design agrees with the composition at its opening, after each step, and after each
-- journal.
use Rattle.std.specs.Prelude.{◌≤◌, List}
use Rattle.pals_model.specs.DesignRules.{IsDesign}
use Rattle.pals_runs.specs.declared.journal.JournalEntry.{JournalEntry}
use Rattle.bus_machine.specs.BusStates.{BusState, opening}
use Rattle.bus_machine.specs.RunParameters.{Run}
use Rattle.bus_machine.specs.Machine.{BusEvent, IsStep}
use Rattle.bus_machine.specs.Replay.{Replays}
use Rattle.bus_machine.specs.Agreement.{Agrees}

-- a run of a design has one round or more
pub record IsRunOf (run : Run) : Type 0 where
  pub design : IsDesign run.design
  pub rounds : 1 ≤ run.rounds

-- at its opening it agrees with the composition
abbrev pub OpeningAgrees : Type 0
OpeningAgrees = (run : Run) → IsRunOf run → Agrees run (opening run)

-- each step keeps the agreement, losses and repeats included
abbrev pub StepKeepsAgreement : Type 0
StepKeepsAgreement =
    (run : Run) (s t : BusState) (e : BusEvent) → IsRunOf run → Agrees run s → IsStep run s e t → Agrees run t

-- what a journal replays to agrees
abbrev pub ReplayAgrees : Type 0
ReplayAgrees =
    (run : Run) (journal : List JournalEntry) (s : BusState) → IsRunOf run → Replays run journal s → Agrees run s
