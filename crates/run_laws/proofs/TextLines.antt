-- A text that is made of lines has these lines: the claim TextsHaveLines.
use Rattle.std.proofs.Common.{◌≡◌, ℕ, List, [], ◌∷◌, ◌++◌, refl, ap, ◌∙◌}
use Rattle.pals_model.proofs.TextLineLaws.{text_splits}
use Rattle.run_laws.specs.TextLines.{without_end}
use Rattle.run_laws.specs.proof.ReportLines.{TextsHaveLines}

ended : (lines : List (List ℕ)) → without_end (lines ++ [] ∷ []) ≡ lines
ended [] = refl
ended (line ∷ []) = refl
ended (line ∷ next ∷ lines) = ap (λ ls. line ∷ ls) (ended (next ∷ lines))

pub texts_have_lines : TextsHaveLines
texts_have_lines lines each = ap without_end (text_splits lines each) ∙ ended lines
