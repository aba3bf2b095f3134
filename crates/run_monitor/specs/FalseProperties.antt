-- The values of formulas over the rounds of a design, and the first round at which one is false.
use Rattle.std.specs.Prelude.{ℕ, Bool, not, List, [], ◌∷◌, map, position, Option, None}
use Rattle.std.specs.Option.{option_map, option_or}
use Rattle.std.specs.List.{list_any}
use Rattle.pals_base.specs.declared.frames.Frame.{Frame}
use Rattle.pals_base.specs.UpwardNumbers.{upwards}
use Rattle.pals_model.specs.declared.design.DesignParts.{DesignParts}
use Rattle.pals_model.specs.declared.environment.Env.{Env}
use Rattle.pals_runs.specs.Formula.{Formula}
use Rattle.run_monitor.specs.declared.false_property.FalseProperty.{FalseProperty}
use Rattle.run_monitor.specs.FormulaSemantics.{holds, frame_rows}

-- the value of each formula at a round
abbrev pub formula_values : List Formula → List (List Frame) → ℕ → List Bool
formula_values fs h round = map (λ f. holds f h round) fs

-- the first that is false at a round
abbrev pub first_false_at : List Formula → List (List Frame) → ℕ → Option FalseProperty
first_false_at fs h round = option_map (λ k. record { property = k; round = round })
    (position not (formula_values fs h round))

-- the first of these rounds at which one is false, and the first that is false there
abbrev pub first_false_in : List Formula → List (List Frame) → List ℕ → Option FalseProperty
first_false_in fs h [] = None
first_false_in fs h (round ∷ rounds) = option_or (first_false_at fs h round) (first_false_in fs h rounds)

-- that of the first rounds
abbrev pub first_false : List Formula → List (List Frame) → ℕ → Option FalseProperty
first_false fs h rounds = first_false_in fs h (upwards 0 rounds)

-- one is false at some of the first rounds of a design
abbrev pub is_some_false : DesignParts → Env → ℕ → List Formula → Bool
is_some_false design env rounds fs =
    list_any (λ round. list_any not (formula_values fs (frame_rows design env rounds) round)) (upwards 0 rounds)
