-- The value of a formula at a round, over the history of the frames of all components after each round, from round 0.
use Rattle.std.specs.Prelude.{ℕ, ℤ, pos, Bool, not, ◌&&◌, ◌||◌, is_some, List, [], slice_index_or, int_le, int_lt, suc}
use Rattle.std.specs.Prelude.{map}
use Rattle.pals_base.specs.declared.frames.Frame.{Frame}
use Rattle.pals_base.specs.ExpressionValues.{same_number}
use Rattle.pals_model.specs.Composition.{no_frame, comp}
use Rattle.pals_runs.specs.declared.forms.Compare.{Compare}
use Rattle.pals_runs.specs.declared.forms.Compare.TheVariants.{Eq, Ne, Lt, Le, Gt, Ge}
use Rattle.pals_runs.specs.Formula.{Formula, Var, Halted, Not, And, Or, Previous, Once, Historically, Since}
use Rattle.run_monitor.specs.TemporalOperators.{previously, once, always, since}
use Rattle.pals_base.specs.UpwardNumbers.{upwards}
use Rattle.pals_model.specs.declared.design.DesignParts.{DesignParts}
use Rattle.pals_model.specs.declared.environment.Env.{Env}

-- ---- one round
abbrev pub frame_in : List Frame → ℕ → Frame
frame_in row node = slice_index_or row node no_frame

abbrev pub variable_in : Frame → ℕ → ℤ
variable_in frame variable = slice_index_or frame.vars variable (pos 0)

abbrev pub compares : Compare → ℤ → ℤ → Bool
compares Eq a b = same_number a b
compares Ne a b = not (same_number a b)
compares Lt a b = int_lt a b
compares Le a b = int_le a b
compares Gt a b = int_lt b a
compares Ge a b = int_le b a

-- ---- formulas
unfoldable pub holds : Formula → List (List Frame) → ℕ → Bool
holds (Var node variable op number) h n =
    compares op (variable_in (frame_in (slice_index_or h n []) node) variable) number
holds (Halted node) h n = is_some (frame_in (slice_index_or h n []) node).halt
holds (Not f) h n = not (holds f h n)
holds (And f g) h n = holds f h n && holds g h n
holds (Or f g) h n = holds f h n || holds g h n
holds (Previous f) h n = previously (holds f h) n
holds (Once f) h n = once (holds f h) n
holds (Historically f) h n = always (holds f h) n
holds (Since f g) h n = since (holds f h) (holds g h) n

-- the frames of all components after each of the first rounds
abbrev pub frame_rows : DesignParts → Env → ℕ → List (List Frame)
frame_rows design env rounds = map (λ round. (comp design env (suc round)).frames) (upwards 0 rounds)
