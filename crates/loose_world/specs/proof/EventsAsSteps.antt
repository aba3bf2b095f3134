-- The law that loose events are steps of the machine, from the opening of a run to a state.
use Rattle.std.specs.Prelude.{ℕ, false, List}
use Rattle.step_code.specs.declared.instr.CodeParts.{CodeParts}
use Rattle.pals_runs.specs.declared.events_and_faults.Event.{Event}
use Rattle.pals_runs.specs.declared.journal.JournalEntry.{JournalEntry}
use Rattle.bus_machine.specs.BusStates.{BusState, opening}
use Rattle.bus_machine.specs.RunParameters.{Run}
use Rattle.pals_bus.specs.BusValues.{BusValue}
use Rattle.pals_bus.specs.proof.OpeningNodes.{opening_bus}
use Rattle.loose_world.specs.declared.loose_run.LooseEnd.{LooseEnd}
use Rattle.loose_world.specs.LooseRuns.{RunsLoosely}
use Rattle.loose_world.specs.LooseEventsAsSteps.{AllStep, StepsToFault, StepsToStop}
use Rattle.loose_world.specs.declared.loose_run.LooseEnd.TheVariants as end

-- how a list of loose events ends, at a state and with a journal
abbrev pub StepsTo : Run → List Event → LooseEnd → BusState → List JournalEntry → Type 0
StepsTo run events end.All t journal = AllStep run (opening run) events t journal
StepsTo run events (end.Stopped why) t journal = StepsToStop run events why t journal
StepsTo run events (end.Refused index fault) t journal = StepsToFault run events index fault

-- what happens on a bus, whatever codes its nodes have, is steps of the machine
abbrev pub EventsAreSteps : Type 0
EventsAreSteps =
    (run : Run) (programs : List CodeParts) (events : List Event) (how : LooseEnd) (t : BusValue)
    (lines : List (List ℕ))
    → RunsLoosely (opening_bus run programs false) events how t lines → StepsTo run events how t.state t.journal
