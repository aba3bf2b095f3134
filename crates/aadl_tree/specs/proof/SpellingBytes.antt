-- The bytes of a word, independent of their storage.
use Rattle.std.specs.Prelude.{ℕ, List, string_bytes}
use Rattle.aadl_tree.specs.declared.spelling.SpellingBytes as source
use Rattle.aadl_tree.specs.declared.spelling.SpellingBytes.TheVariants as variants

abbrev pub spelled : source.SpellingBytes → List ℕ
spelled (variants.Inline text) = text.bytes
spelled (variants.Allocated text) = string_bytes text
