-- The value of a formula in the next round, from one bit for each subformula: its value at the last round.
use Rattle.std.specs.Prelude.{Bool, true, false, not, ◌&&◌, ◌||◌, is_some, List, [], ◌∷◌, length, Option, Some, None}
use Rattle.pals_base.specs.declared.frames.Frame.{Frame}
use Rattle.pals_runs.specs.Formula.{Formula, Var, Halted, Not, And, Or, Previous, Once, Historically, Since}
use Rattle.run_monitor.specs.FormulaSemantics.{frame_in, variable_in, compares, holds}

-- a formula's bit, or this before the first round
abbrev pub bit_of : Bool → Option (Formula → Bool) → Formula → Bool
bit_of first None f = first
bit_of first (Some bits) f = bits f

-- the value of a formula in the next round of these frames
abbrev pub next_value : Option (Formula → Bool) → List Frame → Formula → Bool
next_value bits row (Var node variable op number) = compares op (variable_in (frame_in row node) variable) number
next_value bits row (Halted node) = is_some (frame_in row node).halt
next_value bits row (Not f) = not (next_value bits row f)
next_value bits row (And f g) = next_value bits row f && next_value bits row g
next_value bits row (Or f g) = next_value bits row f || next_value bits row g
next_value bits row (Previous f) = bit_of false bits f
next_value bits row (Once f) = bit_of false bits (Once f) || next_value bits row f
next_value bits row (Historically f) = bit_of true bits (Historically f) && next_value bits row f
next_value bits row (Since f g) = (bit_of false bits (Since f g) && next_value bits row f) || next_value bits row g

-- the bits after a history: each formula's value at its last round; false before the first
abbrev pub bits_after : List (List Frame) → Option (Formula → Bool)
bits_after [] = None
bits_after (row ∷ h) = Some (λ f. holds f (row ∷ h) (length h))
