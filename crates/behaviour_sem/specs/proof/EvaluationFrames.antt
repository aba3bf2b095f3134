-- The frames in which expressions and actions are evaluated, made only of variables and held inputs; and which in
-- ports have a value.
use Rattle.std.specs.Prelude.{ℤ, Bool, List, map, None}
use Rattle.pals_base.specs.declared.frames.Frame.{Frame}
use Rattle.pals_base.specs.SingleStep.{is_present}
use Rattle.behaviour_sem.specs.declared.step_inputs.StepInputs.{StepInputs}

-- a frame with these variables and held inputs; no expression and no action reads its state or its halt
abbrev pub frame_of : List ℤ → List ℤ → Frame
frame_of variables inputs = record { state = 0; vars = variables; held = inputs; halt = None }

abbrev pub seen : List ℤ → StepInputs → Frame
seen variables inputs = frame_of variables inputs.held.now

-- which in ports have a value in this step
abbrev pub fresh : StepInputs → List Bool
fresh inputs = map is_present inputs.present.now
