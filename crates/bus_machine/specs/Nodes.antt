-- A node: its state, its outstanding job, and the vectors that its in ports bring to a round.
use Rattle.std.specs.Prelude.{ℕ, ◌-◌, Bool, true, false, List, [], ◌∷◌, map, zip, replicate, Option, Some, None}
use Rattle.std.specs.Prelude.{slice_index_or, if◌then◌else◌}
use Rattle.pals_base.specs.declared.basic_types.PortValue.{PortValue}
use Rattle.pals_base.specs.declared.basic_types.PortValue.TheVariants.{Absent}
use Rattle.pals_base.specs.declared.frames.Frame.{Frame}
use Rattle.pals_base.specs.declared.basic_types.NodeNo.{NodeNo}
use Rattle.pals_base.specs.SingleStep.{initial}
use Rattle.pals_base.specs.Adaptors.{adapt}
use Rattle.pals_base.specs.Tuples.{columns}
use Rattle.pals_model.specs.declared.part.Part.{Part}
use Rattle.pals_runs.specs.declared.phase.Phase.{Phase}
use Rattle.pals_runs.specs.declared.phase.Phase.TheVariants.{Waiting, Running, Between, Holding, Done}
use Rattle.bus_machine.specs.declared.plan.Input.{Input}
use Rattle.bus_machine.specs.declared.plan.Plan.{Plan}
use Rattle.bus_machine.specs.declared.plan.Input.TheVariants as input

pub record NodeState : Type 0 where
  -- how many rounds it has started
  pub count : ℕ
  pub phase : Phase
  pub frame : Frame
  -- the slot of each in port
  pub slots : List (Option (List PortValue))
  -- the inputs of the last round that it started, a vector for each step
  pub vectors : List (List PortValue)
  -- the whole outputs of that round so far, a tuple for each out port
  pub outs : List (List PortValue)
  -- whether that round is sent
  pub sent : Bool
  -- the part of each round that it finished
  pub parts : List Part

-- before round 0: nothing is left to send
abbrev pub opening_node : Plan → NodeState
opening_node plan = record {
  count = 0;
  phase = Waiting;
  frame = initial plan.behaviour;
  slots = map (λ (_ : Input). None) plan.inputs;
  vectors = [];
  outs = [];
  sent = true;
  parts = [];
}

-- the round in hand: the last one that it started
abbrev pub round_of : NodeState → ℕ
round_of n = n.count - 1

-- ---- jobs
-- one step of a round: its inputs, and the frame that it continues from
pub record StepWork : Type 0 where
  pub node : NodeNo
  pub round : ℕ
  pub step : ℕ
  pub frame : Frame
  pub inputs : List PortValue

abbrev pub job_of : Plan → NodeState → ℕ → StepWork
job_of plan n step =
    record {
      node = plan.node;
      round = round_of n;
      step = step;
      frame = n.frame;
      inputs = slice_index_or n.vectors step [];
    }

-- the job that is out
abbrev pub job_in : Plan → NodeState → Phase → Option StepWork
job_in plan n Waiting = None
job_in plan n (Running step) = Some (job_of plan n step)
job_in plan n (Between step) = None
job_in plan n Holding = None
job_in plan n Done = None

abbrev pub job_out : Plan → NodeState → Option StepWork
job_out plan n = job_in plan n n.phase

-- ---- inputs of a round
-- an empty slot, as all are before round 0, brings absent places
abbrev pub message_in : ℕ → Option (List PortValue) → List PortValue
message_in rate None = replicate rate Absent
message_in rate (Some tuple) = tuple

-- the tuple that an in port brings to a node of this rate, from the values of the root in ports and the port's slot
abbrev pub brought : ℕ → List PortValue → Input → Option (List PortValue) → List PortValue
brought rate values input.Nothing slot = replicate rate Absent
brought rate values (input.Root root adaptor) slot = adapt adaptor 1 rate (slice_index_or values root Absent ∷ [])
brought rate values (input.Link source_rate adaptor) slot = adapt adaptor source_rate rate (message_in source_rate slot)

abbrev pub vectors_of : Plan → List PortValue → List (Option (List PortValue)) → List (List PortValue)
vectors_of plan values slots = columns plan.rate (map (λ p. brought plan.rate values p.0 p.1) (zip plan.inputs slots))

-- ---- rounds
-- how many steps of the round in hand are finished, where one is in hand
abbrev pub finished_steps : ℕ → Phase → Option ℕ
finished_steps rate Waiting = None
finished_steps rate (Running step) = Some step
finished_steps rate (Between steps) = Some steps
finished_steps rate Holding = Some rate
finished_steps rate Done = None

-- where a round is neither in hand nor to be sent: the next one is waited for, or all are done
abbrev pub at_rest : Bool → Phase
at_rest true = Done
at_rest false = Waiting

-- how many rounds a node has sent
abbrev pub sent_rounds : NodeState → ℕ
sent_rounds n = if n.sent then n.count else round_of n
