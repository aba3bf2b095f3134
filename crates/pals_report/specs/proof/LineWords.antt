-- The text of each kind of word in a line: bytes, numbers, loop slots, ports and tuples.
use Rattle.std.specs.Prelude.{ℕ, codes, decimal, List, ◌++◌}
use Rattle.std.specs.Fmt.{signed_decimal}
use Rattle.pals_model.specs.RoundTexts.{tuple_text}
use Rattle.pals_report.specs.declared.line_word.LineWord.{LineWord}
use Rattle.pals_report.specs.declared.line_word.LineWord.TheVariants.{Bytes, Number, Wide, Signed, LoopSlot, Port}
use Rattle.pals_report.specs.declared.line_word.LineWord.TheVariants.{Tuple}

abbrev pub word_text : LineWord → List ℕ
word_text (Bytes bytes) = bytes.now
word_text (Number number) = decimal number
word_text (Wide number) = decimal number
word_text (Signed number) = signed_decimal number
word_text (LoopSlot number) = codes "#" ++ decimal number
word_text (Port path name) = path.now ++ codes "." ++ name.now
word_text (Tuple kind tuple) = tuple_text kind tuple.now
