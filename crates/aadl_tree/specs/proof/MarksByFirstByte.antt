-- The keywords that begin with a letter, and the symbols that begin with a byte.
use Rattle.std.specs.Prelude.{ℕ, Bool, ◌==◌, List, slice_index}
use Rattle.std.specs.List.{filter}
use Rattle.std.specs.Char.{to_ascii_lowercase}
use Rattle.aadl_tree.specs.declared.mark.Mark.{Mark}
use Rattle.aadl_tree.specs.KeywordsAndSymbols.{mark_text, keywords, symbols}

-- the keywords that begin with this letter, in lower case, inside or outside
unfoldable pub keywords_from : Bool → ℕ → List Mark
keywords_from inside letter = filter (λ m. to_ascii_lowercase (slice_index (mark_text m) 0) == letter) (keywords inside)

-- the symbols that begin with this byte
unfoldable pub symbols_from : ℕ → List Mark
symbols_from byte = filter (λ m. slice_index (mark_text m) 0 == byte) symbols
