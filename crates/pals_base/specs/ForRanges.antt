-- The range of a loop.
use Rattle.std.specs.Prelude.{ℕ, zero, suc, ℤ, pos, negsuc, ◌+ℤ◌, ◌-ℤ◌, List, [], ◌∷◌}

-- n numbers, from `low` on
abbrev pub counted_from : ℤ → ℕ → List ℤ
counted_from low zero = []
counted_from low (suc n) = low ∷ counted_from (low +ℤ pos 1) n

-- how many numbers are in the range from low to low + d; 0 if d is negative
abbrev pub count_of : ℤ → ℕ
count_of (pos d) = suc d
count_of (negsuc d) = 0

-- the range of a loop, from the low end to the high end
abbrev pub numbers : ℤ → ℤ → List ℤ
numbers low high = counted_from low (count_of (high -ℤ low))
