-- What contracts see of plans, jobs and nodes.
use Rattle.std.specs.Prelude.{◌≡◌, ℕ, List}
use Rattle.pals_base.specs.declared.basic_types.PortValue.{PortValue}
use Rattle.pals_base.specs.declared.frames.Frame.{Frame}
use Rattle.pals_base.specs.SingleStep.{Fired}
use Rattle.pals_model.specs.declared.design.DesignParts.{DesignParts}
use Rattle.step_code.specs.declared.instr.CodeParts.{CodeParts}
use Rattle.step_code.specs.proof.CodeRuns.{Leaves, exec}
use Rattle.bus_machine.specs.declared.plan.Plan.{Plan}
use Rattle.bus_machine.specs.Plans.{plan_of}
use Rattle.bus_machine.specs.Nodes.{NodeState, StepWork, job_of, opening_node}

-- a node's configuration: its plan, and the code of its steps
pub record Program : Type 0 where
  pub plan : Plan
  pub code : CodeParts

abbrev pub program_of : DesignParts → ℕ → CodeParts → Program
program_of design node code = record { plan = plan_of design node; code = code }

-- a job: a step of a round, and the code that makes it
pub record JobValue : Type 0 where
  pub code : CodeParts
  pub work : StepWork

abbrev pub job_value : Program → ℕ → ℕ → Frame → List PortValue → JobValue
job_value program round step frame inputs =
    record {
      code = program.code;
      work = record { node = program.plan.node; round = round; step = step; frame = frame; inputs = inputs };
    }

-- what the code of a job leaves
abbrev pub IsResult : JobValue → Fired → Type 0
IsResult job result = exec job.code job.work.frame job.work.inputs ≡ Leaves result

-- a node, of a run of `rounds` rounds
pub record NodeValue : Type 0 where
  pub program : Program
  pub rounds : ℕ
  pub state : NodeState

abbrev pub opening_value : Program → ℕ → NodeValue
opening_value program rounds = record { program = program; rounds = rounds; state = opening_node program.plan }

abbrev pub with_state : NodeValue → NodeState → NodeValue
with_state n state = record n { state = state }

-- the job of a step of a node's round
abbrev pub job_at : NodeValue → ℕ → JobValue
job_at n step = record { code = n.program.code; work = job_of n.program.plan n.state step }
