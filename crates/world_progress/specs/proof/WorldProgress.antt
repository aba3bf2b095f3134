-- How a world continues within the bounds.
use Rattle.std.specs.Prelude.{◌≡◌, ◌≢◌, ℕ, suc, List, ◌++◌, None}
use Rattle.pals_runs.specs.declared.events_and_faults.Event.{Event}
use Rattle.bus_machine.specs.RunParameters.{Run}
use Rattle.run_laws.specs.Meetings.{AllDone}
use Rattle.run_laws.specs.Worlds.{World, opening_world, bus_event}
use Rattle.run_laws.specs.EventFaults.{fault_of}
use Rattle.run_laws.specs.EventLists.{IsWithin, world_left}
use Rattle.pals_runs.specs.declared.events_and_faults.Event.TheVariants as event

-- a nanosecond can pass, at some readings of the clocks; or an event of a node or of a message can occur
pub data CanGoOn (run : Run) (w : World) : Type 0 where
  time_passes : (readings : List ℕ) → fault_of run w (event.Pass (suc w.time) readings) ≡ None → CanGoOn run w
  event_occurs : (e : Event) → bus_event w e ≢ None → fault_of run w e ≡ None → CanGoOn run w

-- further events within the bounds, after which all nodes have done all rounds
pub record CanFinish (run : Run) (events : List Event) : Type 0 where
  pub later : List Event
  pub within : IsWithin run (opening_world run) (events ++ later)
  pub done : AllDone run (world_left run (opening_world run) (events ++ later)).bus
