-- A list of events in a world.
use Rattle.std.specs.Prelude.{◌≡◌, ℕ, ◌≤◌, List, length, take, Some, slice_get}
use Rattle.pals_runs.specs.declared.events_and_faults.Event.{Event}
use Rattle.pals_runs.specs.declared.events_and_faults.EventFault.{EventFault}
use Rattle.run_laws.specs.EventFaults.{fault_of}
use Rattle.run_laws.specs.EventLists.{IsWithin, world_left}
use Rattle.timed_world.specs.proof.WorldValuesAndMoves.{WorldValue, world_of}
use Rattle.timed_world.specs.declared.event_list.WorldEnd.{WorldEnd}
use Rattle.timed_world.specs.declared.event_list.WorldEnd.TheVariants as end

-- these events happened in order, none of them with a fault
pub record Leads (old : WorldValue) (events : List Event) (new : WorldValue) : Type 0 where
  pub within : IsWithin old.bus.run (world_of old) events
  pub left : world_of new ≡ world_left old.bus.run (world_of old) events
  pub others : new.bus ≡ record old.bus { state = new.bus.state; journal = new.bus.journal }

-- the event of this index has this fault, and those before it happened
pub record EndsAt (old : WorldValue) (events : List Event) (index : ℕ) (why : EventFault)
    (new : WorldValue) : Type 0 where
  pub event : Event
  pub is_event : slice_get events index ≡ Some event
  pub before : Leads old (take index events) new
  pub fault : fault_of old.bus.run (world_of new) event ≡ Some why

-- how a list of events ends
abbrev pub ListEnds : WorldValue → List Event → WorldEnd → WorldValue → Type 0
ListEnds old events end.All new = Leads old events new
ListEnds old events (end.At index why) new = EndsAt old events index why new

-- the result if memory runs out: a prefix of the events happened
pub record IsCutShort (old : WorldValue) (events : List Event) (new : WorldValue) : Type 0 where
  pub count : ℕ
  pub few : count ≤ length events
  pub before : Leads old (take count events) new
