-- Each release of the first round can be served where the sum fits.
use Rattle.std.proofs.Common.{◌≡◌, ℕ, ◌+◌, ◌*◌, ◌≤◌, List, [], ◌∷◌, length, map, All, suc, refl, subst, arith}
use Rattle.std.specs.List.{sum_by, AllByRecursion as Every}
use Rattle.std.proofs.lemmas.Nat.{mul-le}
use Rattle.std.proofs.lemmas.List.Elements.{All-from_recursion}
use Rattle.list_lemmas.proofs.Elements.{AllByRecursion-map}
use Rattle.pals_base.specs.declared.limits.TheConstants.{HOUR}
use Rattle.pals_base.specs.PeriodBoundAndReleases.{alarm, step_period}
use Rattle.pals_base.specs.UpwardNumbers.{upwards}
use Rattle.step_code.specs.declared.instr.CodeParts.{CodeParts}
use Rattle.pals_model.specs.declared.design.DesignParts.{DesignParts}
use Rattle.pals_model.specs.PortKindsAndRates.{rate_of}
use Rattle.pals_model.specs.DesignRules.{IsDesign}
use Rattle.round_budget.specs.Budgets as budgets
use Rattle.round_budget.specs.Budgets.{release_of, releases_of, releases_in, releases, in_order, most_of, by_most}
use Rattle.round_budget.specs.proof.BudgetLaws.{IsWithinBudget}
use Rattle.round_budget.proofs.ListQuantifiers.{every_both, every_flat_map, every_upwards}
use Rattle.round_budget.proofs.ReleaseOrders.{every_in_order}
use Rattle.round_budget.proofs.FilteredSums.{one_le}
use Rattle.round_budget.proofs.ReleaseTimes.{IsRelease, releases_are}
use Rattle.round_budget.specs.declared.releases.Release.{Release}
use Rattle.round_budget.specs.proof.ReleaseAndLineValues.{release_value}
use Rattle.round_budget.specs.proof.ServableReleases.{CanServe}

-- it is at the round's alarm or later
record ComesLate (design : DesignParts) (x : budgets.Release) : Type 0 where
  late : design.period ≤ x.time
  first : x.round ≡ 0

late_time : (t n : ℕ) → t ≤ (0 + 1) * t + n
late_time t n = omega arith

all_late : (design : DesignParts) (members : List ℕ) → Every (ComesLate design) (releases design members 1)
all_late design members =
    every_flat_map (ComesLate design) (releases_in design members) (0 ∷ [])
    (every_flat_map (ComesLate design) (releases_of design 0) members (all_of members), tt)
  where
    all_of : (ms : List ℕ) → Every (λ node. Every (ComesLate design) (releases_of design 0 node)) ms
    all_of [] = tt
    all_of (m ∷ ms) = (
      AllByRecursion-map (ComesLate design) (release_of design 0 m) (upwards 0 (rate_of design m))
          (every_upwards (λ step. ComesLate design (release_of design 0 m step)) 0 (rate_of design m)
          (λ step above below. record {
            late =
                late_time design.period (step * step_period design.period (rate_of design m));
            first = refl;
          })),
      all_of ms,
    )

soon_time : (t p x : ℕ) → x + p ≤ (1 + 1) * t → t ≤ HOUR → x ≤ 2 * HOUR
soon_time t p x ends short = omega (arith, ends, short)

ends_soon : (design : DesignParts) (x : budgets.Release) (p : ℕ) → x.round ≡ 0
    → x.time + p ≤ alarm design.period (suc x.round) → x.time + p ≤ (1 + 1) * design.period
ends_soon design x p first ends = subst (λ r. x.time + p ≤ alarm design.period (suc r)) first ends

can_serve : (design : DesignParts) (codes : List CodeParts) (nanos : ℕ) (members : List ℕ) → IsDesign design
    → IsWithinBudget design codes nanos members
    → length codes ≡ length design.components → (x : budgets.Release) → IsRelease design members x → ComesLate design x
    → CanServe codes nanos design.period x
can_serve design codes nanos members sound budgeted count x is late =
    let hour = sound.period.1 in
    let small = sound.gamma.execution.1 in
    let whole = budgeted.fits in
    let one : nanos * most_of codes x.node ≤ nanos * sum_by (most_of codes) members =
    mul-le nanos (most_of codes x.node) nanos (sum_by (most_of codes) members) (omega arith)
    (one_le (most_of codes) x.node members is.member) in
    let within = is.within in
    let end = ends_soon design x (step_period design.period (rate_of design x.node)) late.first is.ends in
    record {
      code = omega (arith, within, count);
      late = late.late;
      soon = soon_time design.period (step_period design.period (rate_of design x.node)) x.time end hour;
      short = (let least : nanos * by_most codes x ≤ HOUR = omega (arith, one, whole, small) in least);
    }

pub all_can_serve : (design : DesignParts) (codes : List CodeParts) (nanos : ℕ) (members : List ℕ) → IsDesign design
    → IsWithinBudget design codes nanos members
    → length codes ≡ length design.components
    → Every (CanServe codes nanos design.period) (in_order (releases design members 1))
all_can_serve design codes nanos members sound budgeted count =
    every_in_order (CanServe codes nanos design.period) (releases design members 1)
    (every_both (IsRelease design members) (ComesLate design) (CanServe codes nanos design.period)
    (can_serve design codes nanos members sound budgeted count)
    (releases design members 1) (releases_are design members sound budgeted.members_are 1) (all_late design members))

-- back to the weight of the code
every_of_values : (P : budgets.Release → Type 0) (xs : List Release) → Every P (map release_value xs)
    → Every (λ x. P (release_value x)) xs
every_of_values P [] all = tt
every_of_values P (x ∷ xs) all = (all.0, every_of_values P xs all.1)

pub all_of_values : (P : budgets.Release → Type 0) (xs : List Release) → Every P (map release_value xs)
    → All (λ x. P (release_value x)) xs
all_of_values P xs all = All-from_recursion (λ x. P (release_value x)) xs (every_of_values P xs all)
