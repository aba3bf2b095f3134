-- The readings that a scripted clock selects. The clock is a list of readings.
use Rattle.std.specs.Prelude.{ℕ, nat_lt, if◌then◌else◌, List, [], ◌∷◌}

-- the readings from the first one that is at least the target
abbrev pub remaining_from : List ℕ → ℕ → List ℕ
remaining_from [] target = []
remaining_from (reading ∷ later) target = if nat_lt reading target then remaining_from later target else reading ∷ later

-- the first reading, if there is one, before the later selections
abbrev pub picked : List ℕ → List ℕ → List ℕ
picked [] answers = []
picked (reading ∷ later) answers = reading ∷ answers

-- The selected readings for these targets. The clock is at its last selected reading, which is the first of the
-- remaining readings. For each target it selects that reading if it is at least the target, else the first later
-- reading that is. It ends at the first target without such a reading.
abbrev pub picks : List ℕ → List ℕ → List ℕ
picks readings [] = []
picks readings (target ∷ targets) = picked (remaining_from readings target)
    (picks (remaining_from readings target) targets)
