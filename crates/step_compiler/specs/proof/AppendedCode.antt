-- A part of the code is laid out at the end of the existing code.
use Rattle.std.specs.Prelude.{◌≡◌, ℕ, List, ◌++◌, length}
use Rattle.step_code.specs.declared.instr.Instr.{Instr}

-- the code that is laid out follows the existing code
abbrev pub Adds : List Instr → List Instr → (ℕ → List Instr) → Type 0
Adds old new laid = new ≡ old ++ laid (length old)
