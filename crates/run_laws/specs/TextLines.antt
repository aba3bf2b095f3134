-- The lines of a text: the bytes between its line feeds, without an empty last line.
use Rattle.std.specs.Prelude.{ℕ, nat_eq, if◌then◌else◌, List, [], ◌∷◌, length}
use Rattle.std.specs.List.{slice_split}
use Rattle.pals_model.specs.RoundTexts.{is_line_feed}

-- ---- texts
-- without an empty last line
abbrev pub without_end : List (List ℕ) → List (List ℕ)
without_end [] = []
without_end (line ∷ []) = if nat_eq (length line) 0 then [] else line ∷ []
without_end (line ∷ next ∷ lines) = line ∷ without_end (next ∷ lines)

-- the lines of a text: the bytes between its line feeds
abbrev pub lines_of : List ℕ → List (List ℕ)
lines_of text = without_end (slice_split is_line_feed text)
