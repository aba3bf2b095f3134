-- A bus after a list of events, whatever its clocks read: the effect of each event, the events that lead to a bus, and
-- that its journal replays to it.
use Rattle.std.specs.Prelude.{◌≡◌, ◌⊎◌, ℕ, false, List}
use Rattle.step_code.specs.declared.instr.CodeParts.{CodeParts}
use Rattle.pals_runs.specs.declared.events_and_faults.Event.{Event}
use Rattle.bus_machine.specs.RunParameters.{Run}
use Rattle.bus_machine.specs.Machine.{BusEvent, Start, Step, Finish, Send, Arrive, Drop, Repeat}
use Rattle.bus_machine.specs.Agreement.{Agrees}
use Rattle.bus_machine.specs.Replay.{Replays}
use Rattle.pals_bus.specs.BusValues.{BusValue, Happens}
use Rattle.pals_bus.specs.proof.OpeningNodes.{opening_bus}
use Rattle.loose_world.specs.LooseRuns.{InTurn}
use Rattle.pals_runs.specs.declared.events_and_faults.Event.TheVariants as event

-- ---- one event
-- an event of the bus as an event of a world, without the clock reading
abbrev pub event_of : BusEvent → Event
event_of (Start node reading) = event.Start node
event_of (Step node reading) = event.Step node
event_of (Finish node) = event.Finish node
event_of (Send node reading) = event.Send node
event_of (Arrive link round reading) = event.Arrive link round
event_of (Drop link round) = event.Drop link round
event_of (Repeat link round) = event.Repeat link round

-- time passes, and the bus stays as it is
pub record Rests (s : BusValue) (e : Event) (t : BusValue) : Type 0 where
  pub time : ℕ
  pub readings : List ℕ
  pub is_pass : e ≡ event.Pass time readings
  pub same : t ≡ s

-- the bus makes the event, with some reading of a clock or with none
pub record Makes (s : BusValue) (e : Event) (t : BusValue) : Type 0 where
  pub what : BusEvent
  pub is_what : event_of what ≡ e
  pub happens : Happens s what t

abbrev pub Undergoes : BusValue → Event → BusValue → Type 0
Undergoes s e t = Rests s e t ⊎ Makes s e t

-- ---- a list of events
-- the events happen on a bus in order from the opening of a run on, and these are the lines; the codes of the nodes do
-- not matter
pub record IsLeftBy (run : Run) (events : List Event) (t : BusValue) (lines : List (List ℕ)) : Type 0 where
  pub programs : List CodeParts
  pub undergone : InTurn Undergoes (opening_bus run programs false) events t lines

-- a bus belongs to this run; the journal leads from the run's opening to the state of the bus; and the bus agrees with
-- the composition
pub record IsReplayed (run : Run) (t : BusValue) : Type 0 where
  pub run_is : t.run ≡ run
  pub replays : Replays run t.journal t.state
  pub agrees : Agrees run t.state
