-- The world after a list of events, when a list goes right, and that no event of a list has a fault.
use Rattle.std.specs.Prelude.{◌≡◌, ℕ, suc, ◌<◌, ◌≤◌, List, [], ◌∷◌, ◌++◌, length, None, ◌+◌}
use Rattle.pals_base.specs.declared.basic_types.LinkNo.{LinkNo}
use Rattle.pals_runs.specs.declared.journal.Arrived.TheVariants.{Kept}
use Rattle.pals_runs.specs.declared.events_and_faults.Event.{Event}
use Rattle.bus_machine.specs.BusStates.{node_at}
use Rattle.bus_machine.specs.RunParameters.{Run}
use Rattle.bus_machine.specs.Machine.{arrival}
use Rattle.bus_machine.specs.Agreement.{Agrees}
use Rattle.run_laws.specs.Worlds.{World, opening_world, world_after}
use Rattle.pals_runs.specs.declared.events_and_faults.Event.TheVariants as event
use Rattle.run_laws.specs.EventFaults.{fault_of}

abbrev pub world_left : Run → World → List Event → World
world_left run w [] = w
world_left run w (e ∷ events) = world_left run (world_after run w e) events

-- the run has no stop, the nodes agree with the composition, and no node has started two rounds more than another
pub record IsInStep (run : Run) (w : World) : Type 0 where
  pub no_stop : w.bus.stop ≡ None
  pub agrees : Agrees run w.bus
  pub close : (one other : ℕ) → one < length run.design.components → other < length run.design.components
      → (node_at w.bus one).count ≤ suc (node_at w.bus other).count

-- after each prefix of these events from the opening on, the world is in step, and each arriving message is stored
pub record GoRight (run : Run) (events : List Event) : Type 0 where
  pub in_step : (before later : List Event) → events ≡ before ++ later
      → IsInStep run (world_left run (opening_world run) before)
  pub kept : (before later : List Event) (link : LinkNo) (round : ℕ)
      → events ≡ before ++ event.Arrive link round ∷ later
      → arrival run (world_left run (opening_world run) before).bus link round ≡ Kept

-- none of them has a fault in its turn
abbrev pub IsWithin : Run → World → List Event → Type 0
IsWithin run w [] = Unit {0}
IsWithin run w (e ∷ events) = (fault_of run w e ≡ None) × IsWithin run (world_after run w e) events
