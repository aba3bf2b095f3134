-- For each place the loop with the highest start in whose body it lies.
use Rattle.std.specs.Prelude.{◌≡◌, ℕ, ◌<◌, nat_lt, Bool, false, not, List, [], ◌∷◌, length, filter, Option, Some, None}
use Rattle.std.specs.Prelude.{slice_get}
use Rattle.step_code.specs.declared.instr.Instr.{Instr}
use Rattle.step_code.specs.declared.loops.LoopSpan.{LoopSpan}
use Rattle.step_code.specs.Loops.{loops_below, around}

abbrev pub first : List LoopSpan → Option LoopSpan
first [] = None
first (l ∷ ls) = Some l

abbrev pub innermost : List Instr → ℕ → Option LoopSpan
innermost code p = first (around code p)

-- these are the innermost loops of the first places
pub record AreInnermost (code : List Instr) (found : List (Option LoopSpan)) : Type 0 where
  pub each : (p : ℕ) → p < length found → slice_get found p ≡ Some (innermost code p)

-- a loop, and the loops that start below it
abbrev pub outwards : List Instr → Option LoopSpan → List LoopSpan
outwards code None = []
outwards code (Some l) = l ∷ loops_below code l.start

abbrev pub StartsBelow : ℕ → Option LoopSpan → Type 0
StartsBelow p None = Unit {0}
StartsBelow p (Some l) = l.start < p

-- the loops around a place are among a loop and the loops that start below it
pub record ComesFrom (code : List Instr) (p : ℕ) (candidate : Option LoopSpan) : Type 0 where
  pub starts : StartsBelow p candidate
  pub same : around code p ≡ filter (λ l. nat_lt p l.exit) (outwards code candidate)

abbrev pub ends_by : Option LoopSpan → ℕ → Bool
ends_by None p = false
ends_by (Some l) p = not (nat_lt p l.exit)

abbrev pub starts_from : Option LoopSpan → ℕ → Bool
starts_from None p = false
starts_from (Some l) p = not (nat_lt l.start p)
