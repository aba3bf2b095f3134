-- Several steps of a behaviour in sequence: the frame after them, and their outputs.
use Rattle.std.specs.Prelude.{List, [], ◌∷◌, length}
use Rattle.pals_base.specs.declared.frames.Frame.{Frame}
use Rattle.pals_base.specs.declared.basic_types.PortValue.{PortValue}
use Rattle.pals_base.specs.declared.behaviour.BehaviourParts.{BehaviourParts}
use Rattle.pals_base.specs.SingleStep.{fire}
use Rattle.pals_base.specs.Tuples.{columns}

-- the frame after steps at these inputs, one vector for each step
abbrev pub frame_after : BehaviourParts → Frame → List (List PortValue) → Frame
frame_after b frame [] = frame
frame_after b frame (inputs ∷ vectors) = frame_after b (fire b frame inputs).frame vectors

-- the values of the out ports in each of these steps
abbrev pub outputs : BehaviourParts → Frame → List (List PortValue) → List (List PortValue)
outputs b frame [] = []
outputs b frame (inputs ∷ vectors) = (fire b frame inputs).outs ∷ outputs b (fire b frame inputs).frame vectors

-- a frame, and a tuple for each out port
pub record Stepped : Type 0 where
  pub frame : Frame
  pub tuples : List (List PortValue)

-- the steps of a round: the fold of `fire`, with the values of each out port collected in a tuple
abbrev pub steps : BehaviourParts → Frame → List (List PortValue) → Stepped
steps b frame vectors =
    record { frame = frame_after b frame vectors; tuples = columns (length b.outs) (outputs b frame vectors) }
