-- What a flight holds: copies that are on their way, and room for more.
use Rattle.std.specs.Prelude.{ℕ, nat_le, Bool, false, List, map, filter}
use Rattle.std.specs.Option.{option_map_or}
use Rattle.pals_model.specs.declared.flight_copy.FlightCopy.{FlightCopy}

-- the copies in order of adding, and how many more have room
pub record FlightState : Type 0 where
  pub copies : List FlightCopy
  pub spare : ℕ

abbrev pub flight_of : List FlightCopy → ℕ → FlightState
flight_of list room = record { copies = list; spare = room }

-- a copy whose due reading is at most this one
abbrev pub is_due : ℕ → FlightCopy → Bool
is_due reading copy = option_map_or (λ due. nat_le due reading) copy.due false

-- the rounds of the copies that are due
abbrev pub due_rounds : ℕ → List FlightCopy → List ℕ
due_rounds reading copies = map (λ copy. copy.round) (filter (is_due reading) copies)
