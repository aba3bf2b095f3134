-- Rows of frames grow by one a round, and the text with them.
use Rattle.std.specs.Prelude.{◌≡◌, ℕ, suc, ◌<◌, List, [], ◌∷◌, ◌++◌, length}
use Rattle.pals_model.specs.declared.design.DesignParts.{DesignParts}
use Rattle.pals_model.specs.declared.environment.Env.{Env}
use Rattle.pals_model.specs.Composition.{comp}
use Rattle.pals_model.specs.RoundTexts.{text_of}
use Rattle.pals_runs.specs.Formula.{Formula}
use Rattle.run_monitor.specs.FormulaSemantics.{holds, frame_rows}
use Rattle.run_monitor.specs.WatchText.{watched_lines, watched_rows}

-- it has a row for each round
abbrev pub HistoryHasRounds : Type 0
HistoryHasRounds = (design : DesignParts) (env : Env) (rounds : ℕ) → length (frame_rows design env rounds) ≡ rounds

-- each round adds its frames
abbrev pub HistoryGoesOn : Type 0
HistoryGoesOn = (design : DesignParts) (env : Env) (rounds : ℕ) →
    frame_rows design env (suc rounds) ≡ frame_rows design env rounds ++ (comp design env (suc rounds)).frames ∷ []

-- the value of a formula at a round equals its value when that round was the last one
abbrev pub SaidAtOnce : Type 0
SaidAtOnce = (f : Formula) (design : DesignParts) (env : Env) (round rounds : ℕ) → round < rounds →
    holds f (frame_rows design env rounds) round ≡ holds f (frame_rows design env (suc round)) round

-- so each round adds its lines
abbrev pub RowsGoOn : Type 0
RowsGoOn = (design : DesignParts) (env : Env) (rounds : ℕ) (properties : List (List ℕ × Formula)) →
    watched_rows design env (suc rounds) properties
    ≡ watched_rows design env rounds properties
    ++ text_of (watched_lines properties (frame_rows design env (suc rounds)) rounds)
