-- How long after its release each step of a processor is done, and that it is in time whatever its code makes.
use Rattle.std.specs.Prelude.{ℕ, suc, ◌-◌, ◌≤◌, List, [], All, Option, Some, None, slice_get, slice_index_or}
use Rattle.std.specs.List.{Contains}
use Rattle.pals_base.specs.declared.frames.Frame.{Frame}
use Rattle.pals_base.specs.declared.basic_types.PortValue.{PortValue}
use Rattle.pals_base.specs.PeriodBoundAndReleases.{alarm}
use Rattle.step_code.specs.declared.instr.CodeParts.{CodeParts}
use Rattle.step_code.specs.InstructionsPerStep.{instructions_made}
use Rattle.pals_model.specs.declared.design.Component.{Component}
use Rattle.pals_model.specs.declared.design.DesignParts.{DesignParts}
use Rattle.pals_model.specs.declared.environment.Env.{Env}
use Rattle.pals_model.specs.ComponentInputs.{input_vectors}
use Rattle.pals_model.specs.Composition.{comp, no_frame, partial_steps}
use Rattle.round_budget.specs.Budgets.{Release, Served, budget, most_of}
use Rattle.round_budget.specs.ClockedService.{ReachTimes, IsReachedInTime, budget_by, AreInTimeByClock}

-- how long after its release a step is done
abbrev pub response : Served → ℕ
response s = s.done - s.release.time

-- each step is done within the longest execution after its release, and by the next round's alarm
pub record AreInTime (design : DesignParts) (served : List Served) : Type 0 where
  pub responses : All (λ s. response s ≤ design.gamma.alpha_max) served
  pub rounds : All (λ s. s.done ≤ alarm design.period (suc s.release.round)) served

-- the steps of these components execute at most the weight of their codes
abbrev pub AreAtMost : List CodeParts → List ℕ → (Release → ℕ) → Type 0
AreAtMost codes members count = (x : Release) → Contains members x.node → count x ≤ most_of codes x.node

-- ---- the instructions that a code executes in a step of the composition
abbrev pub frame_before : DesignParts → Env → Release → Option Component → Frame
frame_before design env x None = no_frame
frame_before design env x (Some c) = (partial_steps design env x.node x.round c x.step).frame

-- the inputs of the step in the composition
abbrev pub inputs_at : DesignParts → Env → Release → List PortValue
inputs_at design env x =
    slice_index_or (input_vectors design env (comp design env x.round).messages x.node x.round) x.step []

abbrev pub made_in : Option CodeParts → Frame → List PortValue → ℕ
made_in None frame inputs = 0
made_in (Some c) frame inputs = instructions_made c frame inputs

-- the instructions that the component's code executes in that step of the composition
abbrev pub by_exec : DesignParts → Env → List CodeParts → Release → ℕ
by_exec design env codes x =
    made_in (slice_get codes x.node) (frame_before design env x (slice_get design.components x.node))
    (inputs_at design env x)

-- ---- so the steps of a processor are in time, in any number of rounds
pub record RespondInTime (design : DesignParts) (codes : List CodeParts) (nanos : ℕ) (members : List ℕ) : Type 0 where
  -- whatever numbers of instructions they make up to the weights of their codes
  pub weighed : (rounds : ℕ) (count : Release → ℕ) → AreAtMost codes members count
      → AreInTime design (budget design members rounds nanos count)
  -- and if they execute the instructions of their codes in the composition, in every environment
  pub executed : (env : Env) (rounds : ℕ)
      → AreInTime design (budget design members rounds nanos (by_exec design env codes))
  -- and by clocks within the skew, if the processor keeps the order of the timetable
  pub clocked : (rounds : ℕ) (reached : ReachTimes) (count : Release → ℕ) → AreAtMost codes members count
      → ((x : Release) → IsReachedInTime design.gamma reached x)
      → AreInTimeByClock design.gamma reached (budget_by design members rounds nanos reached count)
