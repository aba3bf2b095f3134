-- Three examples of step code: a counter, a surface that moves towards its input, and a loop in a loop.
use Rattle.std.specs.Prelude.{pos, [], ◌∷◌, Some, None}
use Rattle.pals_base.specs.declared.frames.Frame.{Frame}
use Rattle.step_code.specs.declared.instr.Instr.TheVariants.{Push, Load, Store, Port, Add, Sub, Lt, Gt, Jump, JumpZero}
use Rattle.step_code.specs.declared.instr.Instr.TheVariants.{LoopStart, LoopNext, Emit, End}
use Rattle.step_code.specs.declared.instr.CodeParts.{CodeParts}

-- adds an input and 1 to a variable, and gives it
abbrev pub counter : CodeParts
counter = record {
  instrs = Load 0 ∷ Port 0 ∷ Add ∷ Push (pos 1) ∷ Add ∷ Store 0 ∷ Load 0 ∷ Emit 0 ∷ End 0 ∷ [];
  entries = Some 0 ∷ [];
  vars = 1;
  loops = 0;
  ins = 1;
  outs = 1;
}

-- a frame of it at 4
abbrev pub at_four : Frame
at_four = record { state = 0; vars = pos 4 ∷ []; held = pos 0 ∷ []; halt = None }

-- moves a variable by 1 towards an input, and gives it
abbrev pub surface : CodeParts
surface = record {
  instrs =
      Jump 1 ∷ Port 0 ∷ Load 0 ∷ Gt ∷ JumpZero 12 ∷ Load 0 ∷ Push (pos 1) ∷ Add ∷ Store 0 ∷ Load 0 ∷ Emit 0 ∷ End 0
      ∷ Port 0 ∷ Load 0 ∷ Lt ∷ JumpZero 23 ∷ Load 0 ∷ Push (pos 1) ∷ Sub ∷ Store 0 ∷ Load 0 ∷ Emit 0 ∷ End 0
      ∷ Load 0 ∷ Emit 0 ∷ End 0 ∷ [];
  entries = Some 0 ∷ None ∷ [];
  vars = 1;
  loops = 0;
  ins = 1;
  outs = 1;
}

-- sets a variable in a loop of 4 turns inside a loop of 3 turns
abbrev pub nested : CodeParts
nested = record {
  instrs =
      LoopStart 1 (pos 1) (pos 3) 6 ∷ LoopStart 2 (pos 1) (pos 4) 5 ∷ Load 2 ∷ Store 0 ∷ LoopNext 2 (pos 4) 2
      ∷ LoopNext 1 (pos 3) 1 ∷ End 0 ∷ [];
  entries = Some 0 ∷ [];
  vars = 1;
  loops = 2;
  ins = 0;
  outs = 0;
}
