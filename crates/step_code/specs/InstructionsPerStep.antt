-- How many instructions a step makes when the code runs.
use Rattle.std.specs.Prelude.{ℕ, zero, suc, ℤ, pos, List, [], ◌++◌, map, replicate, Option, Some, None, slice_get}
use Rattle.pals_base.specs.declared.basic_types.Trap.{Trap}
use Rattle.pals_base.specs.declared.frames.Frame.{Frame}
use Rattle.pals_base.specs.declared.basic_types.PortValue.{PortValue}
use Rattle.pals_base.specs.declared.basic_types.PortValue.TheVariants.{Absent}
use Rattle.pals_base.specs.SingleStep.{holding, is_present}
use Rattle.step_code.specs.declared.instr.Instr.{Instr}
use Rattle.step_code.specs.declared.instr.CodeParts.{CodeParts}
use Rattle.step_code.specs.InstructionEffects.{Next, Goes, Ends, Traps, Sticks, StepInputs, step}
use Rattle.step_code.specs.SuccessorsAndWeights.{weight_of}

-- ---- a run
-- how many of at most n instructions are made from a place on, the last one counted too
abbrev pub then_count : Next → (ℕ → List ℤ → List ℤ → List PortValue → ℕ) → ℕ
then_count (Goes place stack slots outs) rest = rest place stack slots outs
then_count (Ends state slots outs) rest = 0
then_count (Traps trap) rest = 0
then_count Sticks rest = 0

abbrev pub count : List Instr → StepInputs → ℕ → ℕ → List ℤ → List ℤ → List PortValue → ℕ
count code s zero place stack slots outs = 0
count code s (suc n) place stack slots outs =
    suc (then_count (step (slice_get code place) s place stack slots outs) (count code s n))

-- ---- where a step begins
abbrev pub silent : CodeParts → List PortValue
silent c = replicate c.outs Absent

abbrev pub step_inputs : List ℤ → List PortValue → StepInputs
step_inputs held inputs = record { held = held; fresh = map is_present inputs }

-- the slots at the start: the variables, and 0 for each loop
abbrev pub slots_of : CodeParts → List ℤ → List ℤ
slots_of c vars = vars ++ replicate c.loops (pos 0)

-- ---- a step
abbrev pub instructions_made_from : CodeParts → Frame → List PortValue → Option (Option ℕ) → ℕ
instructions_made_from c held inputs (Some (Some e)) =
    count c.instrs (step_inputs held.held inputs) (weight_of c) e [] (slots_of c held.vars) (silent c)
instructions_made_from c held inputs (Some None) = 0
instructions_made_from c held inputs None = 0

-- a halted frame makes none
abbrev pub unless_halted : Option Trap → ℕ → ℕ
unless_halted None n = n
unless_halted (Some trap) n = 0

-- how many instructions a step makes, one that traps too
abbrev pub instructions_made : CodeParts → Frame → List PortValue → ℕ
instructions_made c frame inputs =
    let held : Frame = record frame { held = holding frame.held inputs } in
    unless_halted frame.halt (instructions_made_from c held inputs (slice_get c.entries frame.state))
