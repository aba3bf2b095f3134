-- The results of the machine, compared with the definitions.
use Rattle.std.specs.Prelude.{◌≡◌, ℕ, ℤ, List, [], ◌∷◌, Some, length, take, replicate, ◌+◌, Result}
use Rattle.pals_base.specs.declared.frames.Frame.{Frame}
use Rattle.pals_base.specs.declared.basic_types.PortValue.{PortValue}
use Rattle.pals_base.specs.declared.basic_types.PortValue.TheVariants.{Absent}
use Rattle.step_code.specs.InstructionEffects.{Next, Goes, Ends, Traps, step, on_result, on_two}
use Rattle.step_vm.specs.declared.instruction_effects.Continuation.{Continuation}
use Rattle.step_vm.specs.declared.steps.RunResult.{RunResult}
use Rattle.step_code.specs.proof.CodeRuns.{CodeOutcome, run}
use Rattle.step_code.specs.InstructionsPerStep.{step_inputs}
use Rattle.step_code.specs.declared.instr.Instr.{Instr}
use Rattle.step_code.specs.declared.instr.CodeParts.{CodeParts}
use Rattle.step_code.specs.SuccessorsAndWeights.{weight_of}
use Rattle.pals_base.specs.declared.basic_types.Trap.{Trap}
use Rattle.pals_base.specs.declared.behaviour.Op.{Op}
use Rattle.step_vm.specs.declared.instruction_effects.CodeInputs.{CodeInputs}
use Rattle.step_vm.specs.declared.instruction_effects.Continuation.TheVariants as onward
use Rattle.step_vm.specs.declared.steps.RunResult.TheVariants as ended
use Rattle.step_code.specs.proof.CodeRuns as outcome

-- a result and its state are the successor of an instruction
abbrev pub Met : Continuation → List ℤ → List ℤ → List PortValue → Next → Type 0
Met (onward.Goes q) stack slots outs next = next ≡ Goes q stack slots outs
Met (onward.Ends state) stack slots outs next = next ≡ Ends state slots outs
Met (onward.Traps trap) stack slots outs next = next ≡ Traps trap

-- what one instruction does at these inputs
abbrev pub done_by : Instr → ℕ → List ℤ → List ℤ → List PortValue → CodeInputs → Next
done_by i place stack slots outs inputs =
    step (Some i) (step_inputs inputs.held.now inputs.present.now) place stack slots outs

-- an answer, and the stack that it leaves, is where a result leads
abbrev pub GivesResult : Continuation → List ℤ → Result ℤ Trap → ℕ → List ℤ → Type 0
GivesResult answer left result place stack =
    (slots : List ℤ) (outs : List PortValue)
    → Met answer left slots outs (on_result result (λ v. Goes (place + 1) (v ∷ stack) slots outs))

-- an answer, and the stack that it leaves, is where an operator on the two topmost numbers leads
abbrev pub GivesBoth : Continuation → List ℤ → Op → ℕ → List ℤ → Type 0
GivesBoth answer left op place stack =
    (slots : List ℤ) (outs : List PortValue) → Met answer left slots outs (on_two op place stack slots outs)

-- ---- runs
-- what a run from an entry comes to
abbrev pub ran : CodeParts → ℕ → List ℤ → List PortValue → CodeInputs → CodeOutcome
ran c entry slots outs inputs =
    run c.instrs (step_inputs inputs.held.now inputs.present.now) (weight_of c) entry [] slots outs

-- how a run has ended, and its result
abbrev pub HasEnded : RunResult → List ℤ → List PortValue → CodeOutcome → Type 0
HasEnded (ended.In state) slots outs o = o ≡ outcome.Ended state slots outs
HasEnded (ended.Trapped trap) slots outs o = o ≡ outcome.Trapped trap

-- the frame and the outputs after it
abbrev pub LeavesBehind : RunResult → List ℤ → Frame → Frame → List PortValue → List PortValue → Type 0
LeavesBehind (ended.In state) slots old new outs outs' =
    (new ≡ record old { state = state; vars = take (length old.vars) slots }) × (outs' ≡ outs)
LeavesBehind (ended.Trapped trap) slots old new outs outs' =
    (new ≡ record old { halt = Some trap }) × (outs' ≡ replicate (length outs) Absent)
