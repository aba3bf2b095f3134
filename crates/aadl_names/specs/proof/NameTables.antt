-- What names stand for in a table of folded names, which are compared without regard to case.
use Rattle.std.specs.Prelude.{ℕ, List, Option}
use Rattle.std.specs.Map.{lookup}
use Rattle.std.specs.Str.{bytes_eq, str_to_ascii_lowercase}

-- a name with its capitals made small
abbrev pub folded : List ℕ → List ℕ
folded name = str_to_ascii_lowercase name

abbrev pub value_of : {V : Type 0} → List (List ℕ × V) → List ℕ → Option V
value_of table name = lookup (λ key. bytes_eq (folded name) key) table
