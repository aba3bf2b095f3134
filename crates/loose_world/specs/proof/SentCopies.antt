-- The flights directly after a send: on each link from its node, a copy with the message of the round.
use Rattle.std.specs.Prelude.{◌≡◌, ℕ, ◌+◌, Some, Contains}
use Rattle.pals_model.specs.declared.flight_copy.FlightCopy.{FlightCopy}
use Rattle.pals_model.specs.IncomingAndOutgoingLinks.{links_from}
use Rattle.pals_model.specs.Composition.{msg}
use Rattle.pals_model.specs.Flights.{oldest}
use Rattle.bus_machine.specs.BusStates.{node_at, flight_at}
use Rattle.pals_bus.specs.BusValues.{BusValue}

-- a round of a node has just been sent: on each link from the node a copy is in flight, the oldest with this round's
-- message
pub record HasSent (t : BusValue) (node round : ℕ) : Type 0 where
  pub count : (node_at t.state node).count ≡ round + 1
  pub copies : (link : ℕ) → Contains (links_from t.run.design node) link
      → (copy : FlightCopy) × (oldest round (flight_at t.state link) ≡ Some copy)
      × (copy.tuple ≡ msg t.run.design t.run.env link round)
