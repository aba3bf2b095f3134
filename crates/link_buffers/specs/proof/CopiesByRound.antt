-- The copies of a flight, kept by round.
use Rattle.std.specs.Prelude.{◌≡◌, ℕ, nat_eq, ◌<◌, ◌==◌, Bool, false, not, ◌&&◌, List, [], length, AllPairs, find}
use Rattle.std.specs.Prelude.{filter}
use Rattle.std.specs.List.{list_any}
use Rattle.std.specs.Option.{option_map_or}
use Rattle.pals_model.specs.declared.flight_copy.FlightCopy.{FlightCopy}
use Rattle.pals_model.specs.Flights.{is_of}
use Rattle.link_buffers.specs.declared.copies_by_round.RoundCopies.{RoundCopies}
use Rattle.link_buffers.specs.proof.Flights.{is_due}

-- the entry of this round
abbrev pub is_for : ℕ → RoundCopies → Bool
is_for round entry = nat_eq entry.round round

-- the copies of a round, from the oldest to the newest
abbrev pub copies_of : ℕ → List RoundCopies → List FlightCopy
copies_of round rounds = option_map_or (λ entry. entry.copies) (find (is_for round) rounds) []

-- the rounds rise strictly
abbrev pub AreRising : List RoundCopies → Type 0
AreRising rounds = AllPairs (λ earlier later. earlier.round < later.round) rounds

-- the copies of each round are the copies in a list that have this round, in the same order
abbrev pub AreByRound : List RoundCopies → List FlightCopy → Type 0
AreByRound rounds copies = (round : ℕ) → copies_of round rounds ≡ filter (is_of round) copies

-- two tables have the same copies of each round
abbrev pub HaveSameCopies : List RoundCopies → List RoundCopies → Type 0
HaveSameCopies old new = (round : ℕ) → copies_of round new ≡ copies_of round old

-- two tables have the same copies of each round except one
abbrev pub HaveSameOthers : ℕ → List RoundCopies → List RoundCopies → Type 0
HaveSameOthers round old new = (other : ℕ) → nat_eq round other ≡ false → copies_of other new ≡ copies_of other old

-- a round has a copy that is due
abbrev pub has_due : ℕ → RoundCopies → Bool
has_due reading entry = list_any (is_due reading) entry.copies

-- a round has copies
abbrev pub has_copies : RoundCopies → Bool
has_copies entry = not (length entry.copies == 0)

-- the entry belongs to this round, and has copies
abbrev pub has_copies_for : ℕ → RoundCopies → Bool
has_copies_for round entry = is_for round entry && has_copies entry
