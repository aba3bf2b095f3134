-- Laws of the lines of rounds and reports.
use Rattle.std.specs.Prelude.{◌≡◌, ◌≢◌, ℕ, List, [], ◌∷◌, ◌++◌, All, Option}
use Rattle.std.specs.List.{slice_split}
use Rattle.pals_model.specs.declared.design.DesignParts.{DesignParts}
use Rattle.pals_model.specs.declared.environment.Env.{Env}
use Rattle.pals_model.specs.declared.part.Part.{Part}
use Rattle.pals_model.specs.RoundTexts.{text_of, row_lines, row, composed_lines, report, report_lines, is_line_feed}
use Rattle.pals_model.specs.DesignRules.{IsDesign}

-- a line has no LF inside
abbrev pub IsLine : List ℕ → Type 0
IsLine line = All (λ byte. byte ≢ 10) line

-- each line of a row is one, whatever the parts
abbrev pub RowHasLines : Type 0
RowHasLines =
    (design : DesignParts) (part_of : ℕ → Option Part) (round : ℕ) → IsDesign design
    → All IsLine (row_lines design part_of round)

abbrev pub ReportHasLines : Type 0
ReportHasLines = (design : DesignParts) (env : Env) (n : ℕ) → IsDesign design → All IsLine (report_lines design env n)

-- a text of lines splits at its LFs into these lines, and is empty after the last LF
abbrev pub IsSplitInto : List ℕ → List (List ℕ) → Type 0
IsSplitInto text lines = slice_split is_line_feed text ≡ lines ++ [] ∷ []

abbrev pub TextSplits : Type 0
TextSplits = (lines : List (List ℕ)) → All IsLine lines → IsSplitInto (text_of lines) lines

abbrev pub RowSplits : Type 0
RowSplits =
    (design : DesignParts) (env : Env) (round : ℕ) → IsDesign design
    → IsSplitInto (row design env round) (composed_lines design env round)

abbrev pub ReportSplits : Type 0
ReportSplits =
    (design : DesignParts) (env : Env) (n : ℕ) → IsDesign design
    → IsSplitInto (report design env n) (report_lines design env n)
