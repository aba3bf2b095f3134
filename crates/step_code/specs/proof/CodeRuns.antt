-- Runs of step code from an entry on, when one is over, and what a step leaves: a frame and outputs, unless it is
-- stuck or unfinished.
use Rattle.std.specs.Prelude.{◌≡◌, ℕ, zero, suc, ℤ, Bool, true, false, List, [], length, take, Option, Some, None}
use Rattle.std.specs.Prelude.{slice_get}
use Rattle.pals_base.specs.declared.basic_types.Trap.{Trap}
use Rattle.pals_base.specs.declared.frames.Frame.{Frame}
use Rattle.pals_base.specs.declared.basic_types.PortValue.{PortValue}
use Rattle.pals_base.specs.SingleStep.{Fired, holding}
use Rattle.step_code.specs.declared.instr.Instr.{Instr}
use Rattle.step_code.specs.declared.instr.CodeParts.{CodeParts}
use Rattle.step_code.specs.InstructionEffects.{Next, Goes, Ends, Traps, Sticks, StepInputs, step}
use Rattle.step_code.specs.SuccessorsAndWeights.{weight_of}
use Rattle.step_code.specs.InstructionsPerStep.{silent, step_inputs, slots_of}

-- how a run ends
pub data CodeOutcome : Type 0 where
  Ended : (state : ℕ) (slots : List ℤ) (outs : List PortValue) → CodeOutcome
  Trapped : Trap → CodeOutcome
  Stuck : CodeOutcome
  Unfinished : CodeOutcome

abbrev pub Continuation : Type 0
Continuation = ℕ → List ℤ → List ℤ → List PortValue → CodeOutcome

abbrev pub then_run : Next → Continuation → CodeOutcome
then_run (Goes place stack slots outs) rest = rest place stack slots outs
then_run (Ends state slots outs) rest = Ended state slots outs
then_run (Traps trap) rest = Trapped trap
then_run Sticks rest = Stuck

-- at most n instructions, one after another
abbrev pub run : List Instr → StepInputs → ℕ → Continuation
run code s zero place stack slots outs = Unfinished
run code s (suc n) place stack slots outs =
    then_run (step (slice_get code place) s place stack slots outs) (run code s n)

-- ---- a step of a node
-- what a step of code leaves, unless it is stuck or unfinished
pub data Executed : Type 0 where
  Leaves : Fired → Executed
  IsStuck : Executed
  IsUnfinished : Executed

abbrev pub what_is_left : CodeParts → Frame → CodeOutcome → Executed
what_is_left c held (Ended state slots outs) =
    Leaves (record { frame = record held { state = state; vars = take c.vars slots }; outs = outs })
what_is_left c held (Trapped trap) = Leaves (record { frame = record held { halt = Some trap }; outs = silent c })
what_is_left c held Stuck = IsStuck
what_is_left c held Unfinished = IsUnfinished

-- from a place on, within the code's weight
abbrev pub run_from : CodeParts → Frame → List PortValue → ℕ → CodeOutcome
run_from c held inputs place =
    run c.instrs (step_inputs held.held inputs) (weight_of c) place [] (slots_of c held.vars) (silent c)

abbrev pub from_entry : CodeParts → Frame → List PortValue → Option (Option ℕ) → CodeOutcome
from_entry c held inputs (Some (Some e)) = run_from c held inputs e
from_entry c held inputs (Some None) = Stuck
from_entry c held inputs None = Stuck

-- a halted frame runs nothing
abbrev pub unless_halted : CodeParts → Frame → Option Trap → CodeOutcome → Executed
unless_halted c held None ran = what_is_left c held ran
unless_halted c held (Some trap) ran = Leaves (record { frame = held; outs = silent c })

-- a step of code: it holds each present input first
abbrev pub exec : CodeParts → Frame → List PortValue → Executed
exec c frame inputs =
    let held : Frame = record frame { held = holding frame.held inputs } in
    unless_halted c held frame.halt (from_entry c held inputs (slice_get c.entries frame.state))

-- ---- frames
abbrev pub has_entry : Option (Option ℕ) → Bool
has_entry (Some (Some e)) = true
has_entry (Some None) = false
has_entry None = false

-- the frame fits the code: its state has an entry, and it has as many variables and held inputs
pub record FitsCode (c : CodeParts) (frame : Frame) : Type 0 where
  pub entry : has_entry (slice_get c.entries frame.state) ≡ true
  pub vars : length frame.vars ≡ c.vars
  pub held : length frame.held ≡ c.ins

-- the frame, and inputs, have the code's numbers of variables and in ports
pub record HasCodeSizes (c : CodeParts) (frame : Frame) (inputs : List PortValue) : Type 0 where
  pub vars : length frame.vars ≡ c.vars
  pub ins : length frame.held ≡ c.ins
  pub inputs' : length inputs ≡ c.ins

abbrev pub IsOver : CodeOutcome → Type 0
IsOver (Ended state slots outs) = Unit {0}
IsOver (Trapped trap) = Unit {0}
IsOver Stuck = Unit {0}
IsOver Unfinished = ⊥
