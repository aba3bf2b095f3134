-- The position of a byte in a text: its line, and its column in that line, both from 1.
use Rattle.std.specs.Prelude.{ℕ, ◌+◌, nat_eq, not, codes, decimal, List, ◌++◌, take, count_by}
use Rattle.std.specs.List.{suffix_len}

-- the lines that end before it, and its own
abbrev pub line_of : List ℕ → ℕ → ℕ
line_of text at = count_by (λ byte. nat_eq byte 10) (take at text) + 1

-- the bytes before it without a line end after them, and the byte itself
abbrev pub column_of : List ℕ → ℕ → ℕ
column_of text at = suffix_len (λ byte. not (nat_eq byte 10)) (take at text) + 1

-- `LINE:COLUMN`; a position after the end counts as the end
abbrev pub position_text : List ℕ → ℕ → List ℕ
position_text text at = decimal (line_of text at) ++ codes ":" ++ decimal (column_of text at)
