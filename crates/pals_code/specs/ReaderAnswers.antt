-- The program's output for its arguments and the bytes of a reader: a status and a text.
use Rattle.std.specs.Prelude.{ℕ, List, Option}
use Rattle.pals_code.specs.Answers.{root_of, reading, IsAnswer}
use Rattle.program_edge.specs.ExposedBytes.{reader_before, reader_after}

-- An answer for the words' root to a reader, by its remaining bytes before the call and after it, if they are known.
-- Some number of reads failed.
abbrev pub IsAnswerTo : List (List ℕ) → Option (List ℕ) → Option (List ℕ) → ℕ → List ℕ → Type 0
IsAnswerTo words before after status text = (failed : ℕ)
    × IsAnswer (root_of words) (reading (reader_before before) (reader_after before after failed)) status text
