-- Laws of round budgets, at every design.
use Rattle.std.specs.Prelude.{◌≡◌, ◌↔◌, ℕ, ◌+◌, ◌*◌, ◌<◌, ◌≤◌, suc, List, length, map, flat_map, All, AllPairs, IsTrue}
use Rattle.std.specs.List.{Contains}
use Rattle.std.specs.List.Sorted.{IsStrictlyIncreasing}
use Rattle.pals_base.specs.declared.behaviour.BehaviourParts.{BehaviourParts}
use Rattle.pals_base.specs.PeriodBoundAndReleases.{alarm}
use Rattle.pals_base.specs.UpwardNumbers.{upwards}
use Rattle.step_code.specs.declared.instr.CodeParts.{CodeParts}
use Rattle.pals_model.specs.declared.design.DesignParts.{DesignParts}
use Rattle.pals_model.specs.declared.environment.Env.{Env}
use Rattle.pals_model.specs.DesignRules.{IsDesign}
use Rattle.step_compiler.specs.LaidOutCode.{AreLaidOut}
use Rattle.round_budget.specs.BudgetText.{Processor, some_is_over, budget_text}
use Rattle.round_budget.specs.Budgets.{Release, Served, releases, precedes, budget, by_most, total, timetable}
use Rattle.round_budget.specs.ResponseTimes.{response, AreAtMost, by_exec}
use Rattle.round_budget.specs.proof.LinesFromOwnAlarm.{line_in_round}

-- the members of a processor: components of the design, rising
pub record AreMembers (design : DesignParts) (members : List ℕ) : Type 0 where
  pub within : All (λ node. node < length design.components) members
  pub rising : IsStrictlyIncreasing members

-- one step of each member takes no longer than a step may
pub record IsWithinBudget (design : DesignParts) (codes : List CodeParts) (nanos : ℕ) (members : List ℕ) : Type 0 where
  pub members_are : AreMembers design members
  pub fits : total nanos codes members ≤ design.gamma.alpha_max

-- ---- the served steps, whatever their execution times
-- the releases, each once, in order of release and then of component
abbrev pub EachIsServed : Type 0
EachIsServed = (design : DesignParts) (members : List ℕ) (rounds nanos : ℕ) (count : Release → ℕ) (x : Release) →
    Contains (map (λ (s : Served). s.release) (budget design members rounds nanos count)) x
    ↔ Contains (releases design members rounds) x

abbrev pub ServedOnce : Type 0
ServedOnce = (design : DesignParts) (members : List ℕ) (rounds nanos : ℕ) (count : Release → ℕ) →
    length (budget design members rounds nanos count) ≡ length (releases design members rounds)

abbrev pub ServedInOrder : Type 0
ServedInOrder = (design : DesignParts) (members : List ℕ) (rounds nanos : ℕ) (count : Release → ℕ) →
    IsDesign design → AreMembers design members →
    AllPairs (λ s t. IsTrue (precedes s.release t.release)) (budget design members rounds nanos count)

-- no step begins before its release, or before an earlier one is done
abbrev pub NoneBeginsEarly : Type 0
NoneBeginsEarly = (design : DesignParts) (members : List ℕ) (rounds nanos : ℕ) (count : Release → ℕ) →
    All (λ s. (s.release.time ≤ s.begin) × (s.done ≡ s.begin + nanos * count s.release))
    (budget design members rounds nanos count)

abbrev pub OneAtATime : Type 0
OneAtATime = (design : DesignParts) (members : List ℕ) (rounds nanos : ℕ) (count : Release → ℕ) →
    AllPairs (λ s t. s.done ≤ t.begin) (budget design members rounds nanos count)

-- ---- responses
-- each step is done by the longest execution after its release, whatever it takes up to the weight of its code
abbrev pub ResponsesFit : Type 0
ResponsesFit =
    (design : DesignParts) (codes : List CodeParts) (nanos : ℕ) (members : List ℕ) (rounds : ℕ) (count : Release → ℕ) →
    IsDesign design → IsWithinBudget design codes nanos members → AreAtMost codes members count →
    All (λ s. response s ≤ design.gamma.alpha_max) (budget design members rounds nanos count)

-- so by the weights themselves
abbrev pub MostResponsesFit : Type 0
MostResponsesFit = (design : DesignParts) (codes : List CodeParts) (nanos : ℕ) (members : List ℕ) (rounds : ℕ) →
    IsDesign design → IsWithinBudget design codes nanos members →
    All (λ s. response s ≤ design.gamma.alpha_max) (budget design members rounds nanos (by_most codes))

-- and by the instructions that the codes make in the composition, in every environment
abbrev pub ExecResponsesFit : Type 0
ExecResponsesFit =
    (design : DesignParts) (codes : List CodeParts) (nanos : ℕ) (members : List ℕ) (env : Env) (rounds : ℕ) →
    IsDesign design → 1 ≤ nanos → IsWithinBudget design codes nanos members →
    All (λ s. response s ≤ design.gamma.alpha_max) (budget design members rounds nanos (by_exec design env codes))

-- every step of a round is finished at the next round's alarm
abbrev pub RoundsAreApart : Type 0
RoundsAreApart =
    (design : DesignParts) (codes : List CodeParts) (nanos : ℕ) (members : List ℕ) (rounds : ℕ) (count : Release → ℕ) →
    IsDesign design → IsWithinBudget design codes nanos members → AreAtMost codes members count →
    All (λ s. s.done ≤ alarm design.period (suc s.release.round)) (budget design members rounds nanos count)

-- so the timetable of a round is that of each round, counted from the round's own alarm
abbrev pub TimetableRepeats : Type 0
TimetableRepeats = (design : DesignParts) (codes : List CodeParts) (nanos : ℕ) (members : List ℕ) (rounds : ℕ) →
    IsDesign design → IsWithinBudget design codes nanos members →
    map (line_in_round design) (budget design members rounds nanos (by_most codes))
    ≡ flat_map (λ round. timetable design codes nanos members) (upwards 0 rounds)

-- ---- the text
-- codes that are laid out for the same behaviours give one text: it is a function of the design and the processors
abbrev pub TextIsOne : Type 0
TextIsOne =
    (design : DesignParts) (behaviours : List BehaviourParts) (programs others : List CodeParts)
    (processors : List Processor) →
    AreLaidOut behaviours programs → AreLaidOut behaviours others →
    budget_text design programs processors ≡ budget_text design others processors

-- and one answer to whether a processor is over
abbrev pub VerdictIsOne : Type 0
VerdictIsOne =
    (design : DesignParts) (behaviours : List BehaviourParts) (programs others : List CodeParts)
    (processors : List Processor) →
    AreLaidOut behaviours programs → AreLaidOut behaviours others →
    some_is_over design programs processors ≡ some_is_over design others processors
