-- The slots and ports that an instruction names are there.
use Rattle.std.specs.Prelude.{ℕ, ◌<◌}
use Rattle.step_code.specs.declared.instr.Instr.{Instr}
use Rattle.step_code.specs.declared.instr.Instr.TheVariants.{Load, Store, Port, Fresh, LoopStart, LoopNext, Emit}

-- the slot or the port that it names is there
abbrev pub FindsSlotsAndPorts : ℕ → ℕ → ℕ → Instr → Type 0
FindsSlotsAndPorts slots ins outs (Load x) = x < slots
FindsSlotsAndPorts slots ins outs (Store x) = x < slots
FindsSlotsAndPorts slots ins outs (Port x) = x < ins
FindsSlotsAndPorts slots ins outs (Fresh x) = x < ins
FindsSlotsAndPorts slots ins outs (Emit x) = x < outs
FindsSlotsAndPorts slots ins outs (LoopStart slot low high exit) = slot < slots
FindsSlotsAndPorts slots ins outs (LoopNext slot high to) = slot < slots
FindsSlotsAndPorts slots ins outs other = Unit {0}
