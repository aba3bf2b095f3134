-- Claims that a part of a step leads from one state and its outputs so far to another.
use Rattle.std.specs.Prelude.{ℕ, List, Bool, length, None, Result}
use Rattle.pals_base.specs.declared.basic_types.Trap.{Trap}
use Rattle.pals_base.specs.declared.basic_types.PortValue.{PortValue}
use Rattle.pals_base.specs.declared.behaviour.BehaviourParts.{BehaviourParts}
use Rattle.pals_base.specs.ExpressionValues.{on_value}
use Rattle.pals_base.specs.SingleStep.{Fired, along, dispatched, settled}
use Rattle.behaviour_sem.specs.declared.step_inputs.StepInputs.{StepInputs}
use Rattle.behaviour_sem.specs.declared.early_end.EarlyEnd.{EarlyEnd}
use Rattle.behaviour_sem.specs.declared.transitions.StepState.{StepState}
use Rattle.behaviour_sem.specs.proof.PartialStepResults.{IsStepResult}
use Rattle.behaviour_sem.specs.proof.EvaluationFrames.{fresh}

-- the state of a running step, and the outputs so far
abbrev pub StateAndOutputs : Type 0
StateAndOutputs = StepState × List PortValue

-- the state of a running step, as a frame without a trap, and its outputs
abbrev pub fired : StateAndOutputs → StepInputs → Fired
fired at inputs =
    record {
      frame = record { state = at.0.state; vars = at.0.vars.items; held = inputs.held.now; halt = None };
      outs = at.1;
    }

-- a part of a step with this answer leads from here to there as is meant
abbrev pub Leads : Result (Unit {0}) EarlyEnd → (List Bool → Fired → Result Fired Trap) → StepInputs → StateAndOutputs
    → StateAndOutputs → Type 0
Leads result meant inputs before after =
    IsStepResult result (fired after inputs) (meant (fresh inputs) (fired before inputs))

-- the whole step from a state: its dispatch transition, and on to a complete state
abbrev pub reacted : BehaviourParts → ℕ → List Bool → Fired → Result Fired Trap
reacted b state fresh' at =
    on_value (along (dispatched b state) fresh' at) (λ next. settled (length b.states) b fresh' next)
