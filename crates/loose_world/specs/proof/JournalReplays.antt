-- The replay of the journal of a loose world: a law for every run of a design.
use Rattle.std.specs.Prelude.{ℕ, false, List}
use Rattle.step_code.specs.declared.instr.CodeParts.{CodeParts}
use Rattle.pals_runs.specs.declared.events_and_faults.Event.{Event}
use Rattle.bus_machine.specs.RunParameters.{Run}
use Rattle.bus_machine.specs.proof.AgreementLaws.{IsRunOf}
use Rattle.pals_bus.specs.BusValues.{BusValue}
use Rattle.pals_bus.specs.proof.OpeningNodes.{opening_bus}
use Rattle.loose_world.specs.declared.loose_run.LooseEnd.{LooseEnd}
use Rattle.loose_world.specs.LooseRuns.{RunsLoosely}
use Rattle.loose_world.specs.proof.BusAfterEvents.{IsReplayed}

-- however a list of loose events ends, the journal leads to the state of the bus: after all events, if each happens
-- without a stop; after the event that gives a stop, which ends the journal; and before the event that is not allowed
abbrev pub JournalReplays : Type 0
JournalReplays =
    (run : Run) (programs : List CodeParts) (events : List Event) (how : LooseEnd) (t : BusValue)
    (lines : List (List ℕ))
    → IsRunOf run → RunsLoosely (opening_bus run programs false) events how t lines
    → IsReplayed run t
