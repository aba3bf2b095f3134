-- The times that processors give to the steps of their components.
use Rattle.std.specs.Prelude.{◌≡◌, ℕ, ◌+◌, max, List, All}
use Rattle.std.specs.List.{Contains}
use Rattle.pals_base.specs.declared.period_bound_and_releases.Gamma.{Gamma}
use Rattle.step_code.specs.declared.instr.CodeParts.{CodeParts}
use Rattle.bus_machine.specs.RunParameters.{Run}
use Rattle.round_budget.specs.Budgets.{Release, Served}
use Rattle.round_budget.specs.ClockedService.{ReachTimes, IsReachedInTime, start_time, budget_by}
use Rattle.round_budget.specs.ResponseTimes.{AreAtMost, RespondInTime}
use Rattle.timely_worlds.specs.proof.EventTimes.{EventTimes}

-- a step starts when the processor begins it, or at its last allowed time if it waits longer; it finishes when it is
-- done, and at least the minimum execution time after its start
pub record IsPlaced (g : Gamma) (times : EventTimes) (s : Served) : Type 0 where
  pub starts : times.starts s.release.node s.release.round s.release.step ≡ start_time g s
  pub finishes : times.finishes s.release.node s.release.round s.release.step
      ≡ max s.done (start_time g s + g.alpha_min)

-- a processor that fits serves the steps of the node in the order of the timetable, by any clocks within the skew and
-- for any numbers of instructions up to the weights of the codes
pub record IsServed (run : Run) (codes : List CodeParts) (times : EventTimes) (node : ℕ) : Type 0 where
  pub members : List ℕ
  pub is_member : Contains members node
  pub nanos : ℕ
  pub responds : RespondInTime run.design codes nanos members
  pub reached : ReachTimes
  pub is_near : (x : Release) → IsReachedInTime run.design.gamma reached x
  pub count : Release → ℕ
  pub at_most : AreAtMost codes members count
  pub placed : All (IsPlaced run.design.gamma times) (budget_by run.design members run.rounds nanos reached count)
