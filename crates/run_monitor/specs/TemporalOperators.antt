-- The past-time operators over all rounds up to one; a test gives the value of an operand at each round.
use Rattle.std.specs.Prelude.{ℕ, zero, suc, ◌-◌, Bool, false, ◌&&◌, List}
use Rattle.std.specs.List.{list_any, list_all}
use Rattle.pals_base.specs.UpwardNumbers.{upwards}

-- the rounds from 0 to n
abbrev pub rounds_to : ℕ → List ℕ
rounds_to n = upwards 0 (suc n)

-- the rounds after m, up to n
abbrev pub rounds_after : ℕ → ℕ → List ℕ
rounds_after m n = upwards (suc m) (n - m)

-- at the round before, and not in the first round
abbrev pub previously : (ℕ → Bool) → ℕ → Bool
previously p zero = false
previously p (suc n) = p n

-- at some round up to n
abbrev pub once : (ℕ → Bool) → ℕ → Bool
once p n = list_any p (rounds_to n)

-- at all rounds up to n
abbrev pub always : (ℕ → Bool) → ℕ → Bool
always p n = list_all p (rounds_to n)

-- q at some round m up to n, and p at all rounds after m up to n
abbrev pub since : (ℕ → Bool) → (ℕ → Bool) → ℕ → Bool
since p q n = list_any (λ m. q m && list_all p (rounds_after m n)) (rounds_to n)
