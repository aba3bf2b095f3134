-- What a timetable promises where the sum fits: the budget, its lines in each round, and responses in time.
use Rattle.std.proofs.Common.{◌≡◌, ℕ, ◌≤◌, true, List}
use Rattle.std.proofs.lemmas.Bool.{leb-true}
use Rattle.step_code.specs.declared.instr.CodeParts.{CodeParts}
use Rattle.pals_model.specs.declared.design.DesignParts.{DesignParts}
use Rattle.pals_model.specs.DesignRules.{IsDesign}
use Rattle.round_budget.specs.proof.BudgetLaws.{AreMembers, IsWithinBudget}
use Rattle.round_budget.specs.Budgets.{Release, budget, total, fits}
use Rattle.round_budget.specs.ResponseTimes.{AreInTime, AreAtMost, by_exec, RespondInTime}
use Rattle.round_budget.proofs.BudgetLaws.{responses_fit, exec_at_most, rounds_are_apart}
use Rattle.round_budget.proofs.ClockedService.{in_time_by_clock}
use Rattle.round_budget.proofs.TimetableRepetition.{timetable_repeats}
use Rattle.round_budget.specs.proof.TimetableResults.{TimetableIsEach}

pub budgeted_by : (design : DesignParts) (codes : List CodeParts) (nanos : ℕ) (members : List ℕ)
    → AreMembers design members
    → fits design.gamma (total nanos codes members) ≡ true → IsWithinBudget design codes nanos members
budgeted_by design codes nanos members are is =
    record { members_are = are; fits = leb-true (total nanos codes members) design.gamma.alpha_max is }

pub timetable_is_each : (design : DesignParts) (codes : List CodeParts) (nanos : ℕ) (members : List ℕ) → IsDesign design
    → IsWithinBudget design codes nanos members → TimetableIsEach design codes nanos members
timetable_is_each design codes nanos members sound budgeted rounds =
    timetable_repeats design codes nanos members rounds sound budgeted

-- for numbers of instructions up to the weights of the codes, and so for the numbers that the codes execute
pub respond_in_time : (design : DesignParts) (codes : List CodeParts) (nanos : ℕ) (members : List ℕ)
    → IsDesign design → 1 ≤ nanos
    → IsWithinBudget design codes nanos members → RespondInTime design codes nanos members
respond_in_time design codes nanos members sound some budgeted =
    let weighed : (rounds : ℕ) (count : Release → ℕ) → AreAtMost codes members count
    → AreInTime design (budget design members rounds nanos count) =
    λ rounds count most. record {
      responses = responses_fit design codes nanos members rounds count sound budgeted most;
      rounds = rounds_are_apart design codes nanos members rounds count sound budgeted most;
    } in
    record {
      weighed = weighed;
      executed = λ env rounds.
          weighed rounds (by_exec design env codes) (exec_at_most design codes nanos members env sound some budgeted);
      clocked = λ rounds reached count most near.
          in_time_by_clock design codes nanos members rounds reached count sound budgeted most near;
    }
