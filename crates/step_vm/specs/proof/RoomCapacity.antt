-- Whether a room has enough for a code.
use Rattle.std.specs.Prelude.{◌≡◌, ℕ, ◌+◌, length}
use Rattle.step_code.specs.declared.instr.CodeParts.{CodeParts}

-- the number of a room's cells, and of its slots
pub record Capacity : Type 0 where
  pub cells : ℕ
  pub slots : ℕ

-- a cell for each instruction, and a slot for each variable and each loop
pub record IsRoomOf (c : CodeParts) (room : Capacity) : Type 0 where
  pub cells : room.cells ≡ length c.instrs
  pub slots : room.slots ≡ c.vars + c.loops
