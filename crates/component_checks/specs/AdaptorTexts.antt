-- The names of adaptors, and the position in `at n`.
use Rattle.std.specs.Prelude.{ℕ, ◌+◌, ◌*◌, ◌-◌, drop, Bool, ◌&&◌, nat_eq, nat_le, List, [], ◌∷◌, codes, Option, Some}
use Rattle.std.specs.Prelude.{None, if◌then◌else◌}
use Rattle.std.specs.List.{starts_with}
use Rattle.std.specs.Str.{bytes_eq}
use Rattle.pals_base.specs.declared.allowed_adaptors.Adaptor.{Adaptor}
use Rattle.pals_base.specs.declared.allowed_adaptors.Adaptor.TheVariants.{Repeat, First, Last, At, Latest, Max, Min}
use Rattle.pals_base.specs.declared.allowed_adaptors.Adaptor.TheVariants.{Average}

abbrev pub is_digit : ℕ → Bool
is_digit c = nat_le 48 c && nat_le c 57

abbrev pub is_first_digit : ℕ → Bool
is_first_digit c = nat_le 49 c && nat_le c 57

-- a number of one or two digits, the first of which is not 0
abbrev pub position_number : List ℕ → Option ℕ
position_number [] = None
position_number (d ∷ []) = if is_first_digit d then Some (d - 48) else None
position_number (c ∷ d ∷ []) = if is_first_digit c && is_digit d then Some (10 * (c - 48) + (d - 48)) else None
position_number (c ∷ d ∷ e ∷ rest) = None

abbrev pub at_position : Option ℕ → Option Adaptor
at_position None = None
at_position (Some n) = Some (At n)

abbrev pub adaptor_named : List ℕ → Option Adaptor
adaptor_named text =
    if bytes_eq text (codes "repeat") then Some Repeat
    else if bytes_eq text (codes "first") then Some First
    else if bytes_eq text (codes "last") then Some Last
    else if bytes_eq text (codes "latest") then Some Latest
    else if bytes_eq text (codes "max") then Some Max
    else if bytes_eq text (codes "min") then Some Min
    else if bytes_eq text (codes "average") then Some Average
    else if starts_with nat_eq text (codes "at ") then at_position (position_number (drop 3 text))
    else None
