-- The memory of a job.
use Rattle.std.specs.Prelude.{◌≡◌, List, length, Option, Some, None}
use Rattle.pals_base.specs.declared.basic_types.PortValue.{PortValue}
use Rattle.pals_base.specs.declared.frames.Frame.{Frame}
use Rattle.step_code.specs.declared.instr.CodeParts.{CodeParts}
use Rattle.step_vm.specs.proof.RoomCapacity.{IsRoomOf}
use Rattle.pals_node.specs.declared.job_memory.Memory.{Memory}
use Rattle.pals_node.specs.proof.NodeAndJobValues.{JobValue}

-- a frame has a code's numbers of variables and in ports
pub record HasSizes (code : CodeParts) (frame : Frame) : Type 0 where
  pub vars : length frame.vars ≡ code.vars
  pub held : length frame.held ≡ code.ins

-- memory that a step of a code can take
pub record IsMemoryFor (code : CodeParts) (memory : Memory) : Type 0 where
  pub frame : HasSizes code memory.frame
  pub inputs : length memory.inputs ≡ code.ins
  pub result : HasSizes code memory.result
  pub outs : length memory.outs.items ≡ code.outs
  pub room : IsRoomOf code memory.room

-- if there is memory, a step of a code can take it
abbrev pub HasMemory : CodeParts → Option Memory → Type 0
HasMemory code None = Unit {0}
HasMemory code (Some memory) = IsMemoryFor code memory

-- the frame before a step is in its memory
pub record IsFilled (code : CodeParts) (frame : Frame) (inputs : List PortValue) (memory : Memory) : Type 0 where
  pub frame_is : memory.frame ≡ frame
  pub inputs_are : memory.inputs ≡ inputs
  pub result_is : memory.result ≡ frame
  pub outs_are : length memory.outs.items ≡ code.outs
  pub room_is : IsRoomOf code memory.room

-- what a job leaves once its result is taken, with a frame and outputs in its place
pub record IsLeft (job : JobValue) (frame : Frame) (outs : List PortValue) (memory : Memory) : Type 0 where
  pub frame_is : memory.frame ≡ job.work.frame
  pub inputs_are : memory.inputs ≡ job.work.inputs
  pub result_is : memory.result ≡ frame
  pub outs_are : memory.outs.items ≡ outs
  pub room_is : IsRoomOf job.code memory.room
