-- Claims that running actions changes variables and outputs as the definition of actions specifies.
use Rattle.std.specs.Prelude.{ℤ, List, [], ◌∷◌, ◌++◌, length, Bool, Result}
use Rattle.std.specs.declared.alloc.Global.{Global}
use Rattle.std.specs.declared.vec.Vec.{Vec}
use Rattle.pals_base.specs.declared.basic_types.Trap.{Trap}
use Rattle.pals_base.specs.declared.frames.Frame.{Frame}
use Rattle.pals_base.specs.declared.basic_types.PortValue.{PortValue}
use Rattle.pals_base.specs.ExpressionAndActionTrees.{Actions, Branches}
use Rattle.pals_base.specs.Actions.{Effect, acts, act_first, with_vars, without_loop}
use Rattle.behaviour_sem.specs.declared.step_inputs.StepInputs.{StepInputs}
use Rattle.behaviour_sem.specs.declared.early_end.EarlyEnd.{EarlyEnd}
use Rattle.behaviour_sem.specs.proof.PartialStepResults.{IsStepResult, IsBranchResult}
use Rattle.behaviour_sem.specs.proof.EvaluationFrames.{seen, fresh}

-- what actions change: the variables, and the outputs so far
abbrev pub Values : Type 0
Values = Vec ℤ Global × List PortValue

abbrev pub effect : List ℤ → List PortValue → Effect
effect variables outputs = record { vars = variables; outs = outputs }

abbrev pub effect_of : Values → Effect
effect_of values = effect values.0.items values.1

-- a run with this answer goes from these values to those as is meant
abbrev pub Runs : Result (Unit {0}) EarlyEnd → (Frame → List Bool → List PortValue → Result Effect Trap) → StepInputs
    → Values → Values → Type 0
Runs result meant inputs before after =
    IsStepResult result (effect_of after) (meant (seen before.0.items inputs) (fresh inputs) before.1)

-- a run with this answer of the first branch whose guard is true, if there is one, goes from these values to those as
-- is meant
abbrev pub RunsFirst : Result Bool EarlyEnd → Branches → StepInputs → Values → Values → Type 0
RunsFirst result branches inputs before after =
    (otherwise : Result Effect Trap)
    → IsBranchResult result (effect_of after) (effect_of before) otherwise
    (act_first branches (seen before.0.items inputs) (fresh inputs) before.1 otherwise)

-- one turn of a loop: its number follows the variables
abbrev pub turn : ℤ → Actions → Frame → List Bool → List PortValue → Result Effect Trap
turn number body frame fresh' outs =
    without_loop (length frame.vars) (acts body (with_vars frame (frame.vars ++ number ∷ [])) fresh' outs)
