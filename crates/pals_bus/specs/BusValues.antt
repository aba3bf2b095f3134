-- What contracts see of a bus.
use Rattle.std.specs.Prelude.{◌≡◌, Bool, List, ◌++◌}
use Rattle.step_code.specs.declared.instr.CodeParts.{CodeParts}
use Rattle.pals_runs.specs.declared.journal.JournalEntry.{JournalEntry}
use Rattle.bus_machine.specs.BusStates.{BusState}
use Rattle.bus_machine.specs.RunParameters.{Run}
use Rattle.bus_machine.specs.Machine.{BusEvent, IsStep}
use Rattle.bus_machine.specs.Replay.{entries}

-- its run, the codes of its nodes, its state, and its journal
pub record BusValue : Type 0 where
  pub run : Run
  pub codes : List CodeParts
  -- whether its nodes meet
  pub meeting : Bool
  pub closed : Bool
  pub state : BusState
  pub journal : List JournalEntry

-- an event is a step of the machine, and is recorded in the journal
pub record Happens (old : BusValue) (e : BusEvent) (new : BusValue) : Type 0 where
  pub step : IsStep old.run old.state e new.state
  pub journal : new.journal ≡ old.journal ++ entries old.run old.state e
  pub others : new ≡ record old { state = new.state; journal = new.journal }
