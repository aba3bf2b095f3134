-- The loops of a code, and those round a place.
use Rattle.std.specs.Prelude.{ℕ, zero, suc, ◌+◌, ◌-◌, nat_lt, nat_eq, ◌-ℤ◌, Bool, false, ◌&&◌, if◌then◌else◌, List, []}
use Rattle.std.specs.Prelude.{◌∷◌, filter, Option, Some, None, slice_get}
use Rattle.pals_base.specs.ForRanges.{count_of}
use Rattle.pals_base.specs.ExpressionValues.{same_number}
use Rattle.step_code.specs.declared.instr.Instr.{Instr}
use Rattle.step_code.specs.declared.instr.Instr.TheVariants.{LoopStart, LoopNext}
use Rattle.step_code.specs.declared.loops.LoopSpan.{LoopSpan}

abbrev pub turns_of : LoopSpan → ℕ
turns_of l = count_of (l.high -ℤ l.low)

-- whether an instruction is the LoopNext of a loop that starts here
abbrev pub closes : LoopSpan → Option Instr → Bool
closes l (Some (LoopNext slot high to)) = nat_eq slot l.slot && same_number high l.high && nat_eq to (l.start + 1)
closes l other = false

abbrev pub if_loop : List Instr → LoopSpan → Option LoopSpan
if_loop code l = if nat_lt 0 l.exit && closes l (slice_get code (l.exit - 1)) then Some l else None

-- the loop that starts at a place
abbrev pub loop_from : List Instr → ℕ → Option Instr → Option LoopSpan
loop_from code place (Some (LoopStart slot low high exit)) =
    if_loop code (record { start = place; exit = exit; slot = slot; low = low; high = high })
loop_from code place other = None

abbrev pub loop_at : List Instr → ℕ → Option LoopSpan
loop_at code place = loop_from code place (slice_get code place)

abbrev pub with_loop : Option LoopSpan → List LoopSpan → List LoopSpan
with_loop None loops = loops
with_loop (Some l) loops = l ∷ loops

-- the loops that start below a place, the highest start first
abbrev pub loops_below : List Instr → ℕ → List LoopSpan
loops_below code zero = []
loops_below code (suc n) = with_loop (loop_at code n) (loops_below code n)

-- the loops in whose bodies a place lies, the highest start first
abbrev pub around : List Instr → ℕ → List LoopSpan
around code place = filter (λ l. nat_lt place l.exit) (loops_below code place)
