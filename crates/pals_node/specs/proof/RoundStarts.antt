-- The start of a round: the memory that it reserves, and the node's state after it.
use Rattle.std.specs.Prelude.{◌≡◌, ℕ, ◌+◌, false, List, [], Option, Some, None, length, map, replicate, slice_index_or}
use Rattle.pals_base.specs.declared.basic_types.PortValue.{PortValue}
use Rattle.bus_machine.specs.Nodes.{vectors_of}
use Rattle.pals_base.specs.declared.frames.Frame.{Frame}
use Rattle.pals_runs.specs.declared.phase.Phase.TheVariants.{Running}
use Rattle.pals_node.specs.declared.node_fields_and_events.NodeFields.{NodeFields}
use Rattle.pals_node.specs.declared.node_fields_and_events.RoundRoom.{RoundRoom}
use Rattle.pals_node.specs.proof.NodeAndJobValues.{Program, JobValue, job_value}
use Rattle.pals_base.specs.declared.basic_types.PortValue.TheVariants.{Absent}
use Rattle.pals_base.specs.SingleStep.{initial}
use Rattle.pals_model.specs.declared.part.Part.{Part}
use Rattle.bus_machine.specs.declared.plan.Plan.{Plan}

-- a part of absent values
abbrev pub empty_part : Plan → Part
empty_part plan =
    record { frame = initial plan.behaviour; outs = replicate (length plan.taps) (replicate plan.rate Absent) }

-- what a round needs is made
pub record IsBegun (plan : Plan) (env : List PortValue) (slots : List (Option (List PortValue)))
    (room : RoundRoom) : Type 0 where
  pub vectors_are : room.vectors ≡ vectors_of plan env slots
  pub outs_are : room.outs ≡ replicate (length plan.behaviour.outs) (replicate plan.rate Absent)
  pub messages_are : room.messages ≡ replicate (length plan.out_links) (replicate plan.rate Absent)
  pub part_is : room.part ≡ empty_part plan

-- the job of its first step
abbrev pub first_job_of : Program → ℕ → Frame → List PortValue → List (Option (List PortValue)) → JobValue
first_job_of program round frame env slots =
    job_value program round 0 frame (slice_index_or (vectors_of program.plan env slots) 0 [])

-- a node that runs the first step of its next round, with the reserved memory
abbrev pub begun_with : NodeFields → RoundRoom → NodeFields
begun_with f room = record f {
  count = f.count + 1;
  phase = Running 0;
  slots = map (λ (_ : Option (List PortValue)). None) f.slots;
  vectors = room.vectors;
  outs = room.outs;
  sent = false;
  next_part = Some room.part;
  messages = Some room.messages;
}
