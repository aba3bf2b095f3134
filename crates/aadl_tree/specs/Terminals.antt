-- The terminals of the grammar, and the terminals of a text's tokens.
use Rattle.std.specs.Prelude.{ℕ, ℤ, Bool, true, false, List, [], ◌∷◌, map, Option, Some, None}
use Rattle.aadl_lex.specs.declared.token.Token.{Token}
use Rattle.aadl_lex.specs.declared.token.TokenKind.{TokenKind}
use Rattle.aadl_lex.specs.TokensAndFirstFaults.{bytes_of}
use Rattle.aadl_tree.specs.declared.mark.Mark.{Mark}
use Rattle.aadl_tree.specs.KeywordsAndSymbols.{keyword_of, symbol_of}
use Rattle.aadl_lex.specs.declared.token.TokenKind.TheVariants as class
use Rattle.aadl_tree.specs.declared.mark.Mark.TheVariants as k

-- a terminal
pub data PlainTerminal : Type 0 where
  -- a word other than a keyword
  word : List ℕ → PlainTerminal
  -- a whole number, by its value
  whole : ℤ → PlainTerminal
  -- a real, a string, an annex of another language, by their bytes
  real : List ℕ → PlainTerminal
  quoted : List ℕ → PlainTerminal
  unread : List ℕ → PlainTerminal
  -- a keyword or a symbol
  mark : Mark → PlainTerminal
  -- bytes that are not a symbol; no text has such a token
  other : List ℕ → PlainTerminal

abbrev pub word_kind : List ℕ → Option Mark → PlainTerminal
word_kind bytes (Some m) = mark m
word_kind bytes None = word bytes

abbrev pub symbol_kind : List ℕ → Option Mark → PlainTerminal
symbol_kind bytes (Some m) = mark m
symbol_kind bytes None = other bytes

-- the terminal of a token's class and its bytes, inside a behaviour annex or outside
abbrev pub class_kind : Bool → TokenKind → List ℕ → PlainTerminal
class_kind inside class.Word bytes = word_kind bytes (keyword_of inside bytes)
class_kind inside (class.Whole n) bytes = whole n
class_kind inside class.Real bytes = real bytes
class_kind inside class.Quoted bytes = quoted bytes
class_kind inside class.Symbol bytes = symbol_kind bytes (symbol_of bytes)
class_kind inside class.AnnexOpen bytes = mark k.AnnexOpen
class_kind inside class.AnnexClose bytes = mark k.AnnexClose
class_kind inside class.Unread bytes = unread bytes

abbrev pub kind_of : Bool → List ℕ → Token → PlainTerminal
kind_of inside text t = class_kind inside t.kind (bytes_of text t)

-- whether the text after a token is inside a behaviour annex
abbrev pub inside_behind : Bool → TokenKind → Bool
inside_behind inside class.AnnexOpen = true
inside_behind inside class.AnnexClose = false
inside_behind inside _ = inside

-- a terminal and its place in the text
pub record PlacedTerminal : Type 0 where
  pub kind : PlainTerminal
  pub at : ℕ

-- the terminals of tokens at their places, starting inside or outside a behaviour annex
abbrev pub spots_from : Bool → List ℕ → List Token → List PlacedTerminal
spots_from inside text [] = []
spots_from inside text (t ∷ ts) =
    record { kind = kind_of inside text t; at = t.start } ∷ spots_from (inside_behind inside t.kind) text ts

-- the terminals of a whole text
abbrev pub placed_terminals : List ℕ → List Token → List PlacedTerminal
placed_terminals text tokens = spots_from false text tokens

abbrev pub kinds_of : List PlacedTerminal → List PlainTerminal
kinds_of placed_terminals = map (λ s. s.kind) placed_terminals
