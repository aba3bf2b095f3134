-- The keywords that can occur in a text of the grammar, outside or inside behaviour annexes.
use Rattle.std.specs.Prelude.{◌≡◌, ◌≢◌, Bool, List, Contains}
use Rattle.std.specs.Char.{is_ascii_lowercase}
use Rattle.std.specs.List.{list_all}
use Rattle.aadl_tree.specs.declared.mark.Mark.{Mark}
use Rattle.aadl_tree.specs.KeywordsAndSymbols.{mark_text}
use Rattle.aadl_grammar.specs.proof.GrammarSymbols.{the, Symbol, Row}
use Rattle.aadl_grammar.specs.proof.ParseTable.{rows}
use Rattle.aadl_tree.specs.declared.mark.Mark.TheVariants as k

-- the mark consists of letters
abbrev pub is_word : Mark → Bool
is_word m = list_all is_ascii_lowercase (mark_text m)

-- The symbol is expected first, or after the first terminal of another such symbol. The inside of an annex begins
-- after `{**`.
pub data Stands (first : List Symbol) : Symbol → Type 0 where
  at_first : (x : Symbol) → Contains first x → Stands first x
  later : (x y : Symbol) (row : Row) → Stands first x → Contains (rows x) row → row.first ≢ the k.AnnexOpen
      → Contains row.wanted y → Stands first y

-- a symbol that can be expected begins with this keyword or symbol
pub record CanCome (first : List Symbol) (m : Mark) : Type 0 where
  pub symbol : Symbol
  pub row : Row
  pub stands : Stands first symbol
  pub among : Contains (rows symbol) row
  pub begins : row.first ≡ the m
