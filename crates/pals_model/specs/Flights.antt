-- The copies of messages that are under way on a link, in order of adding.
use Rattle.std.specs.Prelude.{ℕ, nat_eq, Bool, List, ◌++◌, Option, find}
use Rattle.std.specs.List.{before_first, after_first}
use Rattle.pals_model.specs.declared.flight_copy.FlightCopy.{FlightCopy}

-- a copy of the message of this round
abbrev pub is_of : ℕ → FlightCopy → Bool
is_of round copy = nat_eq copy.round round

-- the first of the copies of a round, if there is one
abbrev pub oldest : ℕ → List FlightCopy → Option FlightCopy
oldest round copies = find (is_of round) copies

-- the others in their order, or all copies if none belongs to this round
abbrev pub without_oldest : ℕ → List FlightCopy → List FlightCopy
without_oldest round copies = before_first (is_of round) copies ++ after_first (is_of round) copies
