-- Messages put into flight, and taken out of it.
use Rattle.std.specs.Prelude.{ℕ, List, length, Option, slice_index_or, slice_set}
use Rattle.std.specs.Arc.{arc_value}
use Rattle.pals_base.specs.declared.basic_types.LinkNo.{LinkNo}
use Rattle.pals_base.specs.declared.basic_types.PortValue.{PortValue}
use Rattle.pals_model.specs.declared.flight_copy.FlightCopy.{FlightCopy}
use Rattle.pals_model.specs.Flights.{without_oldest}
use Rattle.link_buffers.specs.proof.Flights.{FlightState}
use Rattle.link_buffers.specs.proof.DueQueues.{QueueState}
use Rattle.bus_machine.specs.Plans.{link_at}
use Rattle.pals_bus.specs.declared.bus_fields.BusFields.{BusFields}
use Rattle.pals_bus.specs.proof.OutOfRangeDefaults.{no_flight, no_queue}
use Rattle.pals_bus.specs.proof.BusInvariant.{copies_in}
use Rattle.pals_bus.specs.proof.DueQueues.{with_due}
use Rattle.pals_bus.specs.proof.RoundMessages.{AreSent}

-- ---- a link's flight, and the queue of its target
abbrev pub flight_on : BusFields → LinkNo → FlightState
flight_on f link = slice_index_or f.flights link.0 no_flight

abbrev pub target_of : BusFields → LinkNo → ℕ
target_of f link = (link_at (arc_value f.design) link.0).target.0

abbrev pub queue_to : BusFields → LinkNo → QueueState
queue_to f link = slice_index_or f.queues (target_of f link) no_queue

-- ---- one message
-- the queues, with one more copy in that of its target
abbrev pub queues_with : BusFields → LinkNo → FlightCopy → List QueueState
queues_with f link copy = slice_set f.queues (target_of f link) (with_due (queue_to f link) copy.due link copy.round)

-- the copies in flight, without the oldest one of a message
abbrev pub copies_without : BusFields → LinkNo → ℕ → List (List FlightCopy)
copies_without f link round = slice_set (copies_in f.flights) link.0 (without_oldest round (flight_on f link).copies)

-- ---- the messages of a node's round
-- the flights after they are sent
abbrev pub IsRoundSent : BusFields → ℕ → ℕ → Option ℕ → List (List PortValue) → List FlightState → Type 0
IsRoundSent f node round reading messages flights =
    AreSent node (arc_value f.design).links f.delays round reading messages (length (arc_value f.design).links)
    f.flights flights
