-- The abstract value of a reader's terminals: each is a spot with its kind and place, and words among them are
-- spelled as words.
use Rattle.std.specs.Prelude.{ℕ, ◌≡◌, ◌-◌, Bool, true, List, All, map, take, drop}
use Rattle.aadl_lex.specs.Rules.{is_word}
use Rattle.aadl_tree.specs.Terminals.{PlainTerminal, word, whole, real, quoted, unread, mark, other, PlacedTerminal}
use Rattle.aadl_grammar.specs.declared.terminal.Terminal.{Terminal}
use Rattle.aadl_grammar.specs.declared.terminal.TerminalClass.{TerminalClass}
use Rattle.aadl_grammar.specs.declared.terminal.TerminalClass.TheVariants as t

-- the bytes of a text between two places
abbrev pub between : List ℕ → ℕ → ℕ → List ℕ
between text start end = take (end - start) (drop start text)

-- the grammar's terminal for these bytes
abbrev pub kind_with : TerminalClass → List ℕ → PlainTerminal
kind_with t.Word bytes = word bytes
kind_with (t.Whole n) bytes = whole n
kind_with t.Real bytes = real bytes
kind_with t.Quoted bytes = quoted bytes
kind_with t.Unread bytes = unread bytes
kind_with (t.Mark m) bytes = mark m
kind_with t.Other bytes = other bytes

abbrev pub spot_of : List ℕ → Terminal → PlacedTerminal
spot_of text x = record { kind = kind_with x.kind (between text x.start x.end); at = x.start }

abbrev pub spots_of : List ℕ → List Terminal → List PlacedTerminal
spots_of text ts = map (spot_of text) ts

-- its bytes are a word
abbrev pub is_word_at : List ℕ → Terminal → Bool
is_word_at text x = is_word (between text x.start x.end)

-- the bytes of each word terminal are a word
abbrev pub AreWords : List ℕ → List Terminal → Type 0
AreWords text ts = All (λ (x : Terminal). x.kind ≡ t.Word → is_word_at text x ≡ true) ts
