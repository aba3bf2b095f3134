-- To which places an instruction may lead, and how many instructions the heaviest path makes.
use Rattle.std.specs.Prelude.{ℕ, zero, suc, ◌+◌, ◌*◌, max, Bool, true, false, if◌then◌else◌, List, [], ◌∷◌, ◌++◌}
use Rattle.std.specs.Prelude.{length, map, Option, Some, None, option_to_list, slice_get}
use Rattle.step_code.specs.declared.instr.Instr.{Instr}
use Rattle.step_code.specs.declared.instr.Instr.TheVariants.{Jump, JumpZero, LoopStart, End}
use Rattle.step_code.specs.declared.instr.CodeParts.{CodeParts}
use Rattle.step_code.specs.Loops.{turns_of, around}

-- the place to which an instruction jumps
abbrev pub jump_of : Instr → Option ℕ
jump_of (Jump to) = Some to
jump_of (JumpZero to) = Some to
jump_of (LoopStart slot low high exit) = Some exit
jump_of other = None

-- whether the next place may follow
abbrev pub may_go_on : Instr → Bool
may_go_on (Jump to) = false
may_go_on (End state) = false
may_go_on other = true

-- the next place, where it may follow
abbrev pub next_of : ℕ → Instr → Option ℕ
next_of place i = if may_go_on i then Some (place + 1) else None

-- the places to which an instruction leads, except LoopNext's way back
abbrev pub forward_successors : ℕ → Option Instr → List ℕ
forward_successors place None = []
forward_successors place (Some i) = option_to_list (jump_of i) ++ option_to_list (next_of place i)

abbrev pub forward_successors_at : List Instr → ℕ → List ℕ
forward_successors_at code place = forward_successors place (slice_get code place)

abbrev pub product : List ℕ → ℕ
product [] = 1
product (n ∷ ns) = n * product ns

abbrev pub greatest : List ℕ → ℕ
greatest [] = 0
greatest (n ∷ ns) = max n (greatest ns)

-- an instruction weighs the product of the turns of the loops round it
abbrev pub weight_at : List Instr → ℕ → ℕ
weight_at code place = product (map turns_of (around code place))

-- the maximum weight of a path of at most n instructions
abbrev pub heaviest : List Instr → ℕ → ℕ → ℕ
heaviest code zero place = 0
heaviest code (suc n) place = weight_at code place + greatest (map (heaviest code n) (forward_successors_at code place))

abbrev pub entry_weight : List Instr → Option ℕ → ℕ
entry_weight code None = 0
entry_weight code (Some e) = heaviest code (length code) e

-- the maximum weight of a path from an entry
abbrev pub weight : List Instr → List (Option ℕ) → ℕ
weight code entries = greatest (map (entry_weight code) entries)

abbrev pub weight_of : CodeParts → ℕ
weight_of c = weight c.instrs c.entries
