-- The text of watched properties: the value of each at each round, and the first round at which one is false.
use Rattle.std.specs.Prelude.{ℕ, codes, decimal, Bool, true, false, List, [], ◌∷◌, ◌++◌, map, flat_map, slice_index_or}
use Rattle.std.specs.Prelude.{Option, Some, None}
use Rattle.pals_base.specs.declared.frames.Frame.{Frame}
use Rattle.pals_base.specs.UpwardNumbers.{upwards}
use Rattle.pals_model.specs.declared.design.DesignParts.{DesignParts}
use Rattle.pals_model.specs.declared.environment.Env.{Env}
use Rattle.pals_model.specs.RoundTexts.{text_of, round_line}
use Rattle.pals_runs.specs.Formula.{Formula}
use Rattle.run_monitor.specs.declared.false_property.FalseProperty.{FalseProperty}
use Rattle.run_monitor.specs.FormulaSemantics.{holds, frame_rows}
use Rattle.run_monitor.specs.FalseProperties.{first_false}

-- a property is a name and its formula; they come in byte order of their names
abbrev pub names_of : List (List ℕ × Formula) → List (List ℕ)
names_of properties = map (λ p. p.0) properties

abbrev pub formulas_of : List (List ℕ × Formula) → List Formula
formulas_of properties = map (λ p. p.1) properties

-- ---- a round
abbrev pub truth_text : Bool → List ℕ
truth_text true = codes "true"
truth_text false = codes "false"

abbrev pub verdict_line : List ℕ → Bool → List ℕ
verdict_line name verdict = name ++ codes " " ++ truth_text verdict

abbrev pub watched_lines : List (List ℕ × Formula) → List (List Frame) → ℕ → List (List ℕ)
watched_lines properties h round = round_line round ∷ map (λ p. verdict_line p.0 (holds p.1 h round)) properties

-- ---- the last line
abbrev pub first_false_text : List (List ℕ) → Option FalseProperty → List ℕ
first_false_text names None = codes "none"
first_false_text names (Some v) = slice_index_or names v.property [] ++ codes " " ++ decimal v.round

abbrev pub last_line : ℕ → List ℕ → List ℕ
last_line rounds first = codes "watch rounds " ++ decimal rounds ++ codes " first " ++ first

-- ---- all of it
-- the rows of the first rounds
abbrev pub watched_rows : DesignParts → Env → ℕ → List (List ℕ × Formula) → List ℕ
watched_rows design env rounds properties =
    text_of (flat_map (watched_lines properties (frame_rows design env rounds)) (upwards 0 rounds))

abbrev pub watch_text : DesignParts → Env → ℕ → List (List ℕ × Formula) → List ℕ
watch_text design env rounds properties =
    let first = first_false (formulas_of properties) (frame_rows design env rounds) rounds in
    watched_rows design env rounds properties
    ++ text_of (last_line rounds (first_false_text (names_of properties) first) ∷ [])
