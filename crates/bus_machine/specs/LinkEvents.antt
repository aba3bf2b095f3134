-- What happens to the messages of a link: a node sends them, they arrive, are lost, or come twice.
use Rattle.std.specs.Prelude.{ℕ, ◌+◌, List, [], ◌∷◌, ◌++◌, Bool, Option, Some, None, is_some, option_map}
use Rattle.pals_base.specs.declared.basic_types.PortValue.{PortValue}
use Rattle.pals_model.specs.declared.flight_copy.FlightCopy.{FlightCopy}
use Rattle.pals_model.specs.Flights.{oldest}

-- a message that is sent at a reading is due when the link's delay is over; without a reading it is never due
abbrev pub sent_copy : ℕ → Option ℕ → ℕ → List PortValue → FlightCopy
sent_copy round reading delay tuple =
    record { round = round; due = option_map (λ sent. sent + delay) reading; tuple = tuple }

-- whether a copy of this round is in flight
abbrev pub is_in_flight : ℕ → List FlightCopy → Bool
is_in_flight round flight = is_some (oldest round flight)

abbrev pub tuple_in : Option FlightCopy → List PortValue
tuple_in None = []
tuple_in (Some copy) = copy.tuple

-- ---- Arrive and Drop: the oldest copy of the round leaves the flight
abbrev pub arriving : ℕ → List FlightCopy → List PortValue
arriving round flight = tuple_in (oldest round flight)

-- ---- Repeat: one more copy, as the newest, with the oldest one's tuple and due reading
abbrev pub once_more : Option FlightCopy → List FlightCopy
once_more None = []
once_more (Some copy) = copy ∷ []

abbrev pub repeated : ℕ → List FlightCopy → List FlightCopy
repeated round flight = flight ++ once_more (oldest round flight)
