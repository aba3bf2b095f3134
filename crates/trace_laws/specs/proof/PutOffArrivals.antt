-- The bus of a history in relation to the bus of a world, with each arrival postponed to the start that reads it: the
-- nodes are the world's with empty slots, and the messages in the world's slots are in flight.
use Rattle.std.specs.Prelude.{◌≡◌, ℕ, ◌+◌, ◌-◌, ◌*◌, ◌≤◌, List, map, All, drop, Option, Some, None}
use Rattle.pals_base.specs.declared.basic_types.PortValue.{PortValue}
use Rattle.pals_base.specs.PeriodBoundAndReleases.{alarm}
use Rattle.pals_base.specs.UpwardNumbers.{upwards}
use Rattle.pals_model.specs.declared.flight_copy.FlightCopy.{FlightCopy}
use Rattle.pals_runs.specs.declared.journal.JournalEntry.{JournalEntry}
use Rattle.bus_machine.specs.Nodes.{NodeState}
use Rattle.bus_machine.specs.NodeEvents.{slot_at}
use Rattle.bus_machine.specs.BusStates.{BusState, node_at, flight_at}
use Rattle.bus_machine.specs.MissedMessages.{rounds_sent_on}
use Rattle.bus_machine.specs.Plans.{link_at}
use Rattle.bus_machine.specs.RunParameters.{Run}
use Rattle.run_laws.specs.Worlds.{World, reading_at}
use Rattle.run_laws.specs.NodeLinkQuantifiers.{EachNode, EachLink}
use Rattle.run_laws.specs.JournalReadings.{latest}
use Rattle.run_laws.specs.EntriesOfDesigns.{IsEntryIn}
use Rattle.run_laws.specs.HistoriesAndTraces.{History}

-- ---- nodes
abbrev pub no_message : Option (List PortValue) → Option (List PortValue)
no_message slot = None

-- a node with no message in its slots
abbrev pub emptied : NodeState → NodeState
emptied n = record n { slots = map no_message n.slots }

-- ---- flights
-- a copy is due after every start of its own round, and by the alarm of the next one
pub record IsDueBetween (run : Run) (copy : FlightCopy) : Type 0 where
  pub due : ℕ
  pub due_is : copy.due ≡ Some due
  pub late : alarm run.design.period copy.round + 2 * run.design.gamma.eps ≤ due
  pub early : due ≤ alarm run.design.period (copy.round + 1)

-- the copies without the first one, if its message is in the slot
abbrev pub flying : Option (List PortValue) → List FlightCopy → List FlightCopy
flying None flight = flight
flying (Some tuple) flight = drop 1 flight

abbrev pub rounds_of : List FlightCopy → List ℕ
rounds_of flight = map (λ (copy : FlightCopy). copy.round) flight

-- the copies of a link: the copies of the rounds that its source has sent, from the last round that its target has
-- started on
pub record LinkIsPutOff (run : Run) (w t : BusState) (number target port : ℕ) : Type 0 where
  pub rounds : rounds_of (flight_at t number)
      ≡ upwards ((node_at w target).count - 1) (rounds_sent_on run w number - ((node_at w target).count - 1))
  pub flight : flight_at w number ≡ flying (slot_at (node_at w target) port) (flight_at t number)
  pub due : All (IsDueBetween run) (flight_at t number)

abbrev pub LinksArePutOff : Run → BusState → BusState → Type 0
LinksArePutOff run w t = EachLink run (λ number.
    LinkIsPutOff run w t number (link_at run.design number).target.0 (link_at run.design number).in_port)

-- ---- the whole
pub record IsPutOff (run : Run) (w : World) (journal : List JournalEntry) (t : BusState) : Type 0 where
  pub history : History run journal t
  pub of_design : All (IsEntryIn run.design) journal
  pub going : t.stop ≡ None
  pub nodes : t.nodes ≡ map emptied w.bus.nodes
  pub links : LinksArePutOff run w.bus t
  pub read : EachNode run (λ node. latest run.design node journal ≤ reading_at w node)
