-- The lines of a row's text that are not taken yet.
use Rattle.std.specs.Prelude.{◌≡◌, ℕ, ◌≤◌, List, length, drop}
use Rattle.pals_model.specs.RoundTexts.{text_of}
use Rattle.trace_audit.specs.declared.row_text.RowText.{RowText}

pub record HasLeft (row : RowText) (lines : List (List ℕ)) : Type 0 where
  pub within : row.place ≤ length row.text.items
  pub text : drop row.place row.text.items ≡ text_of lines
