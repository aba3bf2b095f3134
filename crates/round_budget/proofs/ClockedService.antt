-- A processor that fits, by clocks within the skew: no step is done later than in the timetable by the skew, and each
-- has times within the bounds of a world.
use Rattle.std.proofs.Common.{ℕ, ◌+◌, ◌-◌, ◌*◌, ◌<◌, ◌≤◌, List, [], ◌∷◌, arith}
use Rattle.std.specs.Prelude.{min}
use Rattle.std.specs.List.{AllByRecursion as Every}
use Rattle.std.proofs.lemmas.List.Elements.{recursion_from_All, All-from_recursion}
use Rattle.list_lemmas.proofs.Elements.{AllByRecursion-weaker}
use Rattle.pals_base.specs.declared.period_bound_and_releases.Gamma.{Gamma}
use Rattle.step_code.specs.declared.instr.CodeParts.{CodeParts}
use Rattle.pals_model.specs.declared.design.DesignParts.{DesignParts}
use Rattle.pals_model.specs.DesignRules.{IsDesign}
use Rattle.round_budget.specs.Budgets.{Release, Served, begins, serve, in_order, releases, budget}
use Rattle.round_budget.specs.ClockedService.{ReachTimes, IsReachedInTime, begins_by, serve_by, budget_by}
use Rattle.round_budget.specs.ClockedService.{KeepsBounds, AreInTimeByClock}
use Rattle.round_budget.specs.ResponseTimes.{response, AreAtMost}
use Rattle.round_budget.specs.proof.BudgetLaws.{IsWithinBudget}
use Rattle.round_budget.proofs.BudgetLaws.{responses_fit}

abbrev IsDoneIn : ℕ → Served → Type 0
IsDoneIn gap s = s.done ≤ s.release.time + gap

abbrev Delayed : Gamma → Served → Type 0
Delayed g s = s.done < s.release.time + g.eps + g.alpha_max

abbrev Keeps : Gamma → ReachTimes → Served → Type 0
Keeps g reached s = Delayed g s × KeepsBounds g reached s

-- one step, where the processor is free less than the skew after it is in the timetable
one_kept : (g : Gamma) (cost : Release → ℕ) (reached : ReachTimes) (free late : ℕ) (x : Release) → 1 ≤ g.eps
    → late < free + g.eps → IsReachedInTime g reached x → begins free x + cost x ≤ x.time + g.alpha_max
    → Keeps g reached (record {
      release = x;
      begin = begins_by reached late x;
      done = begins_by reached late x + cost x;
    })
one_kept g cost reached free late x some behind near here =
    let slow = near.slow in
    let done : begins_by reached late x + cost x < x.time + g.eps + g.alpha_max = omega arith in
    let due : reached x ≤ min (begins_by reached late x) (x.time + g.eps - 1) = omega arith in
    let prompt : min (begins_by reached late x) (x.time + g.eps - 1) < x.time + g.eps = omega arith in
    let before : min (begins_by reached late x) (x.time + g.eps - 1) ≤ begins_by reached late x = omega arith in
    let finish : begins_by reached late x + cost x ≤ min (begins_by reached late x) (x.time + g.eps - 1) + g.alpha_max =
    omega arith in
    (done, record { due = due; prompt = prompt; before = before; finish = finish })

-- all steps, along the timetable
all_kept : (g : Gamma) (cost : Release → ℕ) (reached : ReachTimes) (free late : ℕ) (xs : List Release) → 1 ≤ g.eps
    → late < free + g.eps → ((x : Release) → IsReachedInTime g reached x)
    → Every (IsDoneIn g.alpha_max) (serve cost free xs)
    → Every (Keeps g reached) (serve_by cost reached late xs)
all_kept g cost reached free late [] some behind near all = tt
all_kept g cost reached free late (x ∷ xs) some behind near all =
    let slow : reached x < x.time + g.eps = (near x).slow in
    let next : begins_by reached late x + cost x < begins free x + cost x + g.eps = omega arith in (
      one_kept g cost reached free late x some behind (near x) all.0,
      all_kept g cost reached (begins free x + cost x) (begins_by reached late x + cost x) xs some next near all.1,
    )

done_in : (gap : ℕ) (xs : List Served) → Every (λ s. response s ≤ gap) xs → Every (IsDoneIn gap) xs
done_in gap xs all =
    AllByRecursion-weaker (λ s. response s ≤ gap) (IsDoneIn gap)
    (λ s fits. let soon : s.done - s.release.time ≤ gap = fits in omega arith) xs all

pub in_time_by_clock : (design : DesignParts) (codes : List CodeParts) (nanos : ℕ) (members : List ℕ) (rounds : ℕ)
    (reached : ReachTimes) (count : Release → ℕ) → IsDesign design → IsWithinBudget design codes nanos members
    → AreAtMost codes members count → ((x : Release) → IsReachedInTime design.gamma reached x)
    → AreInTimeByClock design.gamma reached (budget_by design members rounds nanos reached count)
in_time_by_clock design codes nanos members rounds reached count sound budgeted most near =
    let g : Gamma = design.gamma in
    let served : List Served = budget_by design members rounds nanos reached count in
    let timetable : List Served = budget design members rounds nanos count in
    let in_time : Every (IsDoneIn g.alpha_max) timetable =
    done_in g.alpha_max timetable (recursion_from_All (λ s. response s ≤ g.alpha_max) timetable
    (responses_fit design codes nanos members rounds count sound budgeted most)) in
    let all : Every (Keeps g reached) served =
    all_kept g (λ x. nanos * count x) reached 0 0 (in_order (releases design members rounds)) sound.gamma.skew.0
    (let some = sound.gamma.skew.0 in omega arith) near in_time in
    record {
      delayed = All-from_recursion (Delayed g) served
          (AllByRecursion-weaker (Keeps g reached) (Delayed g) (λ s keeps. keeps.0) served all);
      kept = All-from_recursion (KeepsBounds g reached) served
          (AllByRecursion-weaker (Keeps g reached) (KeepsBounds g reached) (λ s keeps. keeps.1) served all);
    }
