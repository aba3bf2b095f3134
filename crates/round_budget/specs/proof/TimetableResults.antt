-- The claims that a timetable is that of each round, and why there is none.
use Rattle.std.specs.Prelude.{◌≡◌, ℕ, true, false, List, map, flat_map}
use Rattle.pals_base.specs.UpwardNumbers.{upwards}
use Rattle.step_code.specs.declared.instr.CodeParts.{CodeParts}
use Rattle.pals_model.specs.declared.design.DesignParts.{DesignParts}
use Rattle.round_budget.specs.Budgets.{budget, by_most, total, fits, timetable}
use Rattle.round_budget.specs.proof.LinesFromOwnAlarm.{line_in_round}
use Rattle.round_budget.specs.declared.timetables.BudgetEnd.{BudgetEnd}
use Rattle.round_budget.specs.declared.timetables.BudgetEnd.TheVariants.{Over, Memory}

-- over, with the sum, if and only if it does not fit; otherwise memory ran out
abbrev pub IsEnd : DesignParts → List CodeParts → ℕ → List ℕ → BudgetEnd → Type 0
IsEnd design codes nanos members (Over sum) = (sum ≡ total nanos codes members) × (fits design.gamma sum ≡ false)
IsEnd design codes nanos members Memory = fits design.gamma (total nanos codes members) ≡ true

-- the served steps in any number of rounds, each counted from its round's alarm, are the timetable round by round
abbrev pub TimetableIsEach : DesignParts → List CodeParts → ℕ → List ℕ → Type 0
TimetableIsEach design codes nanos members = (rounds : ℕ) →
    map (line_in_round design) (budget design members rounds nanos (by_most codes))
    ≡ flat_map (λ (round : ℕ). timetable design codes nanos members) (upwards 0 rounds)
