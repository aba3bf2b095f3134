-- The arguments of a program.
use Rattle.std.specs.Prelude.{ℕ, List, [], drop, map, string_bytes, Result, Ok, Err, String}
use Rattle.std.specs.Vec.Iter.{into_iter_items}
use Rattle.std.specs.declared.vec.IntoIter.{IntoIter}

-- The arguments after the program's name; none if they were not read.
abbrev pub words_of : {Z E : Type 0} → Result (IntoIter (String Z) Z) E → List (List ℕ)
words_of (Ok arguments) = map string_bytes (drop 1 (into_iter_items arguments))
words_of (Err error) = []
