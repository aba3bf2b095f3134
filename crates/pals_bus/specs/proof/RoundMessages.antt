-- The messages of a node's round, link by link.
use Rattle.std.specs.Prelude.{◌≡◌, ℕ, ◌-◌, ◌<◌, ◌≤◌, nat_eq, Bool, if◌then◌else◌, List, [], ◌∷◌, ◌++◌, length, filter}
use Rattle.std.specs.Prelude.{take, All, Option, Some, slice_get, slice_index_or}
use Rattle.pals_base.specs.declared.basic_types.LinkNo.{LinkNo}
use Rattle.pals_base.specs.declared.basic_types.PortValue.{PortValue}
use Rattle.pals_model.specs.declared.design.Link.{Link}
use Rattle.pals_model.specs.declared.delays.Delays.{Delays}
use Rattle.pals_model.specs.declared.flight_copy.FlightCopy.{FlightCopy}
use Rattle.pals_model.specs.Delays.{delay_of}
use Rattle.link_buffers.specs.proof.Flights.{FlightState, flight_of}
use Rattle.bus_machine.specs.LinkEvents.{sent_copy}
use Rattle.bus_machine.specs.Plans.{no_link}
use Rattle.pals_bus.specs.proof.OutOfRangeDefaults.{no_flight}

-- a link from a node
abbrev pub is_from : ℕ → Link → Bool
is_from node link = nat_eq link.source.0 node

-- the number of links from a node before one
abbrev pub place_of : ℕ → List Link → ℕ → ℕ
place_of node links number = length (filter (is_from node) (take number links))

-- ---- room
-- the first links have room for a message, where they are from the node
abbrev pub HasRoomFor : ℕ → ℕ → List Link → List FlightState → Type 0
HasRoomFor node first links flights =
    (number : ℕ) (link : Link) → number < first → slice_get links number ≡ Some link → link.source.0 ≡ node
    → 1 ≤ (slice_index_or flights number no_flight).spare

-- each of these links has room for a message
abbrev pub HasRoomOn : List LinkNo → List FlightState → Type 0
HasRoomOn numbers flights = All (λ link. 1 ≤ (slice_index_or flights link.0 no_flight).spare) numbers

abbrev pub NoLessRoom : List FlightState → List FlightState → Type 0
NoLessRoom old new =
    (number : ℕ) → (slice_index_or old number no_flight).spare ≤ (slice_index_or new number no_flight).spare

-- ---- sending
-- a flight with one more copy, in the room that was there
abbrev pub with_copy : FlightState → FlightCopy → FlightState
with_copy flight copy = flight_of (flight.copies ++ copy ∷ []) (flight.spare - 1)

-- a link's flight after the send
abbrev pub sent_flight : ℕ → List Link → Delays → ℕ → Option ℕ → List (List PortValue) → ℕ → FlightState → FlightState
sent_flight node links delays round reading messages number flight =
    if is_from node (slice_index_or links number no_link)
    then with_copy flight (sent_copy round reading (delay_of delays number round)
    (slice_index_or messages (place_of node links number) []))
    else flight

-- the first flights are those after the send, and the others are as before
pub record AreSent (node : ℕ) (links : List Link) (delays : Delays) (round : ℕ) (reading : Option ℕ)
    (messages : List (List PortValue)) (first : ℕ) (old new : List FlightState) : Type 0 where
  pub count : length new ≡ length old
  pub sent : (number : ℕ) → number < first
      → slice_index_or new number no_flight
      ≡ sent_flight node links delays round reading messages number (slice_index_or old number no_flight)
  pub others : (number : ℕ) → first ≤ number → slice_index_or new number no_flight ≡ slice_index_or old number no_flight
