-- Laws of worlds whose events are within the bounds, at every run of a design.
use Rattle.std.specs.Prelude.{◌≡◌, ◌≢◌, ◌⊎◌, Option, Some, ℕ, suc, ◌<◌, ◌≤◌, List, ◌∷◌, ◌++◌, length, None}
use Rattle.pals_base.specs.declared.basic_types.LinkNo.{LinkNo}
use Rattle.pals_base.specs.declared.basic_types.PortValue.{PortValue}
use Rattle.pals_base.specs.declared.limits.TheConstants.{READING, ROUNDS}
use Rattle.pals_runs.specs.declared.journal.Arrived.TheVariants.{Kept}
use Rattle.pals_runs.specs.declared.phase.Phase.TheVariants.{Done}
use Rattle.pals_runs.specs.declared.events_and_faults.Event.{Event}
use Rattle.bus_machine.specs.NodeEvents.{slot_at}
use Rattle.bus_machine.specs.BusStates.{node_at, flight_at}
use Rattle.bus_machine.specs.Plans.{link_at}
use Rattle.bus_machine.specs.RunParameters.{Run}
use Rattle.bus_machine.specs.MissedMessages.{rounds_sent_on}
use Rattle.bus_machine.specs.Machine.{arrival}
use Rattle.bus_machine.specs.proof.AgreementLaws.{IsRunOf}
use Rattle.run_laws.specs.Worlds.{World, reading_at, opening_world, world_after}
use Rattle.run_laws.specs.Deadlines.{node_deadline, message_deadline}
use Rattle.run_laws.specs.EventFaults.{fault_of}
use Rattle.run_laws.specs.EventLists.{IsWithin, IsInStep, GoRight, world_left}
use Rattle.run_laws.specs.proof.WorldInvariant.{Flies, IsInSlot, IsTaken, IsNowhere, KeepsTime}
use Rattle.pals_runs.specs.declared.events_and_faults.Event.TheVariants as event

-- ---- one event
abbrev pub OpeningKeepsTime : Type 0
OpeningKeepsTime = (run : Run) → IsRunOf run → KeepsTime run (opening_world run)

-- each event without a fault keeps it
abbrev pub EventKeepsTime : Type 0
EventKeepsTime =
    (run : Run) (w : World) (e : Event) → IsRunOf run → KeepsTime run w → fault_of run w e ≡ None
    → KeepsTime run (world_after run w e)

-- an arrival without a fault is stored
abbrev pub ArrivalsAreKept : Type 0
ArrivalsAreKept =
    (run : Run) (w : World) (link : LinkNo) (round : ℕ) → IsRunOf run → KeepsTime run w
    → fault_of run w (event.Arrive link round) ≡ None
    → arrival run w.bus link round ≡ Kept

-- no node has started two rounds more than another
abbrev pub CountsAreClose : Type 0
CountsAreClose =
    (run : Run) (w : World) (one other : ℕ) → IsRunOf run → KeepsTime run w → one < length run.design.components
    → other < length run.design.components
    → (node_at w.bus one).count ≤ suc (node_at w.bus other).count

-- each round that a link's source has sent is in flight, in the slot or taken, and no other is anywhere
pub record StandsOnce (run : Run) (w : World) (number : ℕ) (count : ℕ) (slot : Option (List PortValue))
    (round : ℕ) : Type 0 where
  pub sent : round < rounds_sent_on run w.bus number
      → Flies count slot (flight_at w.bus number) round
      ⊎ (IsInSlot count slot (flight_at w.bus number) round ⊎ IsTaken count (flight_at w.bus number) round)
  pub unsent : rounds_sent_on run w.bus number ≤ round → IsNowhere count slot (flight_at w.bus number) round

abbrev pub MessagesStandOnce : Type 0
MessagesStandOnce =
    (run : Run) (w : World) (number round : ℕ) → KeepsTime run w → number < length run.design.links
    → StandsOnce run w number (node_at w.bus (link_at run.design number).target.0).count
    (slot_at (node_at w.bus (link_at run.design number).target.0) (link_at run.design number).in_port) round

-- no last allowed time, and no reading of a node that is not done, is above what a reading may be
pub record TimesInRange (run : Run) (w : World) : Type 0 where
  pub nodes : (node last : ℕ) → node < length run.design.components → node_deadline run w node ≡ Some last
      → last ≤ READING
  pub messages : (number round : ℕ) → number < length run.design.links → round < rounds_sent_on run w.bus number
      → message_deadline run w number round ≤ READING
  pub clocks : (node : ℕ) → node < length run.design.components → (node_at w.bus node).phase ≢ Done
      → reading_at w node ≤ READING

abbrev pub TimesAreReadings : Type 0
TimesAreReadings = (run : Run) (w : World) → IsRunOf run → run.rounds ≤ ROUNDS → KeepsTime run w → TimesInRange run w

-- ---- a list of events
abbrev pub ListsAreInStep : Type 0
ListsAreInStep =
    (run : Run) (before later : List Event) → IsRunOf run → IsWithin run (opening_world run) (before ++ later)
    → IsInStep run (world_left run (opening_world run) before)

abbrev pub ListsKeepArrivals : Type 0
ListsKeepArrivals = (run : Run) (before later : List Event) (link : LinkNo) (round : ℕ) → IsRunOf run
    → IsWithin run (opening_world run) (before ++ event.Arrive link round ∷ later)
    → arrival run (world_left run (opening_world run) before).bus link round ≡ Kept

-- a list within the bounds goes right
abbrev pub ListsGoRight : Type 0
ListsGoRight =
    (run : Run) (events : List Event) → IsRunOf run → IsWithin run (opening_world run) events → GoRight run events
