-- Laws of the lines of texts and reports: the lines of a report are the composition's, and no line of a report has the
-- form of a journal line.
use Rattle.std.specs.Prelude.{◌≡◌, ℕ, List, All, None}
use Rattle.pals_model.specs.declared.design.DesignParts.{DesignParts}
use Rattle.pals_model.specs.declared.environment.Env.{Env}
use Rattle.pals_model.specs.proof.CompositionLaws.TextLines.{IsLine}
use Rattle.pals_model.specs.RoundTexts.{text_of, report_lines}
use Rattle.pals_model.specs.DesignRules.{IsDesign}
use Rattle.run_laws.specs.LineForms.{form_of}
use Rattle.run_laws.specs.TraceVerdicts.{wrong_row}
use Rattle.run_laws.specs.TextLines.{lines_of}

-- the text of lines has these lines
abbrev pub TextsHaveLines : Type 0
TextsHaveLines = (lines : List (List ℕ)) → All IsLine lines → lines_of (text_of lines) ≡ lines

-- ---- reports
-- the rows of a report are the composition's, and whole
abbrev pub ReportsHaveRows : Type 0
ReportsHaveRows =
    (design : DesignParts) (env : Env) (rounds : ℕ) → wrong_row design env (report_lines design env rounds) ≡ None

-- no line of it has the form of a journal's line
abbrev pub ReportsHaveNoForms : Type 0
ReportsHaveNoForms =
    (design : DesignParts) (env : Env) (rounds : ℕ) → IsDesign design
    → All (λ line. form_of line ≡ None) (report_lines design env rounds)
