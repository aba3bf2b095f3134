-- Prefixes of texts: the state of the buffer after a call that could not append its whole text.
use Rattle.std.specs.Prelude.{ℕ, ◌≡◌, List, ◌++◌, length, drop}

-- a text begins with another one, followed by any text
abbrev pub BeginsWith : List ℕ → List ℕ → Type 0
BeginsWith text start = text ≡ start ++ drop (length start) text
