-- The line of a processor's sum.
use Rattle.std.specs.Prelude.{ℕ, codes, decimal, Bool, List, [], ◌∷◌}
use Rattle.pals_runs.specs.JournalLines.{spaced}
use Rattle.round_budget.specs.BudgetText.{fit_word}

-- the line of a processor of this name: a sum, the longest execution, and whether the sum fits
abbrev pub sum_line : List ℕ → ℕ → ℕ → Bool → List ℕ
sum_line name sum longest fits =
    spaced (codes "processor" ∷ name ∷ codes "sum" ∷ decimal sum ∷ codes "of" ∷ decimal longest ∷ fit_word fits ∷ [])
