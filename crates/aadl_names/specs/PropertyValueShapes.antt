-- The shapes of values that recognised properties have: times, ranges, texts, references and initial values.
use Rattle.std.specs.Prelude.{ℕ, ◌*◌, ◌-◌, ◌==◌, pos, Bool, true, false, not, ◌&&◌, ◌||◌, nat_le, nat_eq, take, drop}
use Rattle.std.specs.Prelude.{List, [], ◌∷◌, length, codes, Option, Some, None, if◌then◌else◌}
use Rattle.std.specs.List.{starts_with}
use Rattle.std.specs.Str.{bytes_eq}
use Rattle.aadl_lex.specs.Rules.{whole_len, decimal, most}
use Rattle.aadl_tree.specs.Names.{Reference, Identifier, same_name}
use Rattle.aadl_tree.specs.Values.{UnsignedNumber, whole_figure, real_figure, Quantity, Value, list, text, named}
use Rattle.aadl_tree.specs.Values.{number, no_values, value}

-- a time's unit in nanoseconds
abbrev pub unit_of : List ℕ → Option ℕ
unit_of name =
    if same_name name (codes "ns") then Some 1
    else if same_name name (codes "us") then Some 1000
    else if same_name name (codes "ms") then Some 1000000
    else if same_name name (codes "sec") then Some 1000000000
    else if same_name name (codes "min") then Some 60000000000
    else if same_name name (codes "hr") then Some 3600000000000
    else None

abbrev pub whole_of : UnsignedNumber → Option ℕ
whole_of (whole_figure (pos n)) = Some n
whole_of (whole_figure n) = None
whole_of (real_figure bytes) = None

abbrev pub is_signed : {X : Type 0} → Option X → Bool
is_signed None = false
is_signed (Some x) = true

abbrev pub times : Option ℕ → Option ℕ → Option ℕ
times (Some n) (Some m) = Some (n * m)
times (Some n) None = None
times None m = None

abbrev pub unit_in : Option (Identifier ℕ) → Option ℕ
unit_in None = None
unit_in (Some x) = unit_of x.spelling

-- a time in nanoseconds: a whole number without a sign, and a unit
unfoldable pub time_in : Quantity ℕ → Option ℕ
time_in x = if is_signed x.number.sign then None else times (whole_of x.number.figure) (unit_in x.unit)

abbrev pub pair_of : Option ℕ → Option ℕ → Option (ℕ × ℕ)
pair_of (Some low) (Some high) = Some (low, high)
pair_of (Some low) None = None
pair_of None high = None

abbrev pub time_of : Value ℕ → Option ℕ
time_of (number low None) = time_in low
time_of _ = None

abbrev pub range_of : Value ℕ → Option (ℕ × ℕ)
range_of (number low (Some high)) = pair_of (time_in low) (time_in high)
range_of _ = None

-- the bytes between the quotes of a string
abbrev pub unquoted : List ℕ → List ℕ
unquoted bytes = take (length bytes - 2) (drop 1 bytes)

abbrev pub text_of : Value ℕ → Option (List ℕ)
text_of (text bytes) = Some (unquoted bytes)
text_of _ = None

abbrev pub reference_of : Value ℕ → Option (Reference ℕ)
reference_of (named x) = Some x
reference_of _ = None

abbrev pub only_text : Value ℕ → Option (List ℕ)
only_text (list (value v no_values)) = text_of v
only_text _ = None

-- digits with `_` between them, at most the maximum number
abbrev pub is_number : List ℕ → Bool
is_number [] = false
is_number (c ∷ cs) = whole_len (c ∷ cs) == length (c ∷ cs) && not (c == 95) && nat_le (decimal (c ∷ cs)) most

abbrev pub is_initial : List ℕ → Bool
is_initial bytes =
    bytes_eq bytes (codes "true") || bytes_eq bytes (codes "false") || is_number bytes
    || (starts_with nat_eq bytes (codes "-") && is_number (drop 1 bytes))

abbrev pub is_initial_text : Option (List ℕ) → Bool
is_initial_text None = false
is_initial_text (Some bytes) = is_initial bytes
