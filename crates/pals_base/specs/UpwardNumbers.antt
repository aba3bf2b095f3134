-- Numbers that count up.
use Rattle.std.specs.Prelude.{ℕ, zero, suc, List, [], ◌∷◌}

-- n numbers, from `from` on
abbrev pub upwards : ℕ → ℕ → List ℕ
upwards from zero = []
upwards from (suc n) = from ∷ upwards (suc from) n
