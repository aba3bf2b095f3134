-- What plans and nodes keep.
use Rattle.std.specs.Prelude.{◌≡◌, ℕ, ◌<◌, ◌≤◌, Bool, true, false, List, length, All, Option, Some, None, vec_len}
use Rattle.std.specs.Prelude.{vec_capacity}
use Rattle.std.specs.Arc.{arc_value}
use Rattle.pals_base.specs.declared.limits.TheConstants.{HOUR, RATE, ROUNDS, PORTS}
use Rattle.pals_base.specs.declared.basic_types.PortValue.{PortValue}
use Rattle.pals_base.specs.declared.frames.Frame.{Frame}
use Rattle.pals_base.specs.SingleStep.{HasShape}
use Rattle.pals_base.specs.BehaviourRules.{IsBehaviour}
use Rattle.pals_model.specs.declared.part.Part.{Part}
use Rattle.pals_runs.specs.declared.phase.Phase.{Phase}
use Rattle.pals_runs.specs.declared.phase.Phase.TheVariants.{Waiting, Running, Between, Holding, Done}
use Rattle.step_code.specs.declared.instr.CodeParts.{CodeParts}
use Rattle.step_code.specs.proof.CodeMatchesBehaviour.{Means}
use Rattle.step_code.specs.proof.CodeRuns.{FitsCode}
use Rattle.step_vm.specs.proof.RoomCapacity.{Capacity, IsRoomOf}
use Rattle.bus_machine.specs.declared.plan.Plan.{Plan}
use Rattle.pals_base.specs.Tuples.{with_places}
use Rattle.bus_machine.specs.Nodes.{NodeState}
use Rattle.bus_machine.specs.NodeEvents.{finished, finished_with}
use Rattle.pals_node.specs.declared.node_fields_and_events.NodeFields.{NodeFields}
use Rattle.pals_node.specs.proof.NodeAndJobValues.{Program, NodeValue, with_state}
use Rattle.pals_node.specs.proof.JobMemories.{HasMemory}

-- the numbers of a plan are in range, and its ports are the behaviour's
pub record IsPlan (plan : Plan) : Type 0 where
  pub rate : (1 ≤ plan.rate) × (plan.rate ≤ RATE)
  pub sent : 1 ≤ plan.sent_steps
  pub period : plan.period ≤ HOUR
  pub step_period : plan.step_period ≤ HOUR
  pub offset : plan.release_offset ≤ HOUR
  pub behaviour : IsBehaviour plan.behaviour
  pub inputs : length plan.inputs ≡ length plan.behaviour.ins
  pub few : length plan.inputs ≤ PORTS
  pub out_links : All (λ port. port < length plan.behaviour.outs) plan.out_links
  pub taps : All (λ port. port < length plan.behaviour.outs) plan.taps

-- the code means the behaviour
pub record IsProgram (program : Program) : Type 0 where
  pub plan : IsPlan program.plan
  pub means : Means program.code program.plan.behaviour

-- a job fits its code, and has the room that it needs
pub record IsJob (code : CodeParts) (frame : Frame) (inputs : List PortValue) (result : Frame) (outs : List PortValue)
    (room : Capacity) : Type 0 where
  pub frame_fits : FitsCode code frame
  pub inputs_are : length inputs ≡ code.ins
  pub result_is : result ≡ frame
  pub outs_are : length outs ≡ code.outs
  pub room_is : IsRoomOf code room

-- ---- nodes
-- `count` tuples, of `places` places each
pub record AreTuples (count places : ℕ) (tuples : List (List PortValue)) : Type 0 where
  pub count_is : length tuples ≡ count
  pub places_are : All (λ tuple. length tuple ≡ places) tuples

-- what a round in hand has
pub record HasRound (plan : Plan) (f : NodeFields) : Type 0 where
  pub begun : 1 ≤ f.count
  pub vectors : AreTuples plan.rate (length plan.behaviour.ins) f.vectors
  pub outs : AreTuples (length plan.behaviour.outs) plan.rate f.outs

-- room for the part that the round will leave
pub record IsPartRoom (plan : Plan) (part : Part) : Type 0 where
  pub vars : length part.frame.vars ≡ length plan.behaviour.vars
  pub held : length part.frame.held ≡ length plan.behaviour.ins
  pub outs : AreTuples (length plan.taps) plan.rate part.outs

abbrev pub HasPartRoom : Plan → Option Part → Type 0
HasPartRoom plan None = ⊥
HasPartRoom plan (Some part) = IsPartRoom plan part

-- a step is to be finished, so a part is to come
pub record IsOpen (plan : Plan) (f : NodeFields) (steps : ℕ) : Type 0 where
  pub within : steps < plan.rate
  pub round : HasRound plan f
  pub part : HasPartRoom plan f.next_part
  pub place : vec_len f.parts < vec_capacity f.parts

abbrev pub PhaseKeeps : Plan → NodeFields → Phase → Type 0
PhaseKeeps plan f Waiting = (f.sent ≡ true) × (f.count < f.rounds)
PhaseKeeps plan f (Running step) = IsOpen plan f step
PhaseKeeps plan f (Between steps) = IsOpen plan f steps × (0 < steps)
PhaseKeeps plan f Holding = HasRound plan f × (f.sent ≡ false)
PhaseKeeps plan f Done = (f.sent ≡ true) × (f.count ≡ f.rounds)

-- room for the messages of a round that is not sent
abbrev pub HasMessageRoom : Plan → Bool → Option (List (List PortValue)) → Type 0
HasMessageRoom plan true messages = Unit {0}
HasMessageRoom plan false None = ⊥
HasMessageRoom plan false (Some messages) = AreTuples (length plan.out_links) plan.rate messages

pub record Keeps (f : NodeFields) : Type 0 where
  pub program : IsProgram (arc_value f.plan)
  pub rounds : f.rounds ≤ ROUNDS
  pub count : f.count ≤ f.rounds
  pub frame : HasShape (arc_value f.plan).plan.behaviour f.frame
  pub slots : length f.slots ≡ length (arc_value f.plan).plan.inputs
  pub phase_keeps : PhaseKeeps (arc_value f.plan).plan f f.phase
  pub messages_keep : HasMessageRoom (arc_value f.plan).plan f.sent f.messages
  pub room : IsRoomOf (arc_value f.plan).code f.room
  pub row : length f.row.items ≡ (arc_value f.plan).code.outs
  pub spare : HasMemory (arc_value f.plan).code f.spare

-- what contracts see of a node's fields
abbrev pub state_of : NodeFields → NodeState
state_of f = record {
  count = f.count;
  phase = f.phase;
  frame = f.frame;
  slots = f.slots;
  vectors = f.vectors;
  outs = f.outs;
  sent = f.sent;
  parts = f.parts.items;
}

abbrev pub value_of : NodeFields → NodeValue
value_of f = record { program = arc_value f.plan; rounds = f.rounds; state = state_of f }

-- ---- the end of a step
-- a node whose step is finished
abbrev pub finished_value : NodeFields → ℕ → NodeValue
finished_value f step = with_state (value_of f) (finished (arc_value f.plan).plan f.rounds step (state_of f))

-- a step of a round is completed: its frame and its row of outputs are in the fields
pub record IsStepMade (f : NodeFields) (step : ℕ) : Type 0 where
  pub plan : IsPlan (arc_value f.plan).plan
  pub count : f.count ≤ f.rounds
  pub made : IsOpen (arc_value f.plan).plan f step
  pub frame : HasShape (arc_value f.plan).plan.behaviour f.frame
  pub row : length f.row.items ≡ length (arc_value f.plan).plan.behaviour.outs

-- the state of a node after it
abbrev pub ended_at : Plan → NodeFields → ℕ → NodeState
ended_at plan f step =
    finished_with plan f.rounds step (state_of f) (record { frame = f.frame; outs = f.row.items })
    (with_places step f.row.items f.outs)
