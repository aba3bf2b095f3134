-- The times that processors that fit give to the steps of their components meet the bounds.
use Rattle.std.proofs.Common.{◌≡◌, ◌⊎◌, inl, inr, ℕ, zero, suc, ◌+◌, ◌<◌, ◌≤◌, List, [], ◌∷◌, ◌++◌, map, length, refl}
use Rattle.std.proofs.Common.{sym, ap, subst, arith}
use Rattle.std.specs.Prelude.{flat_map, max, ◌*◌}
use Rattle.std.proofs.lemmas.Bool.{cases_eq}
use Rattle.std.specs.List.{AllByRecursion as Every}
use Rattle.std.proofs.lemmas.List.Elements.{recursion_from_All}
use Rattle.pals_base.specs.declared.period_bound_and_releases.Gamma.{Gamma}
use Rattle.pals_base.specs.PeriodBoundAndReleases.{alarm, step_period}
use Rattle.pals_base.specs.UpwardNumbers.{upwards}
use Rattle.pals_model.specs.PortKindsAndRates.{rate_of, rate_in}
use Rattle.step_code.specs.declared.instr.CodeParts.{CodeParts}
use Rattle.step_code.specs.proof.StackHeights.{Member}
use Rattle.bus_machine.specs.Plans.{plan_of}
use Rattle.bus_machine.specs.RunParameters.{Run}
use Rattle.bus_machine.specs.proof.AgreementLaws.{IsRunOf}
use Rattle.round_budget.specs.Budgets.{Release, Served, release_of, releases_of, releases_in, releases, in_order}
use Rattle.round_budget.specs.ClockedService.{ReachTimes, KeepsBounds, begins_by, serve_by, start_time, budget_by}
use Rattle.round_budget.proofs.ListQuantifiers.{every_both, member_of}
use Rattle.round_budget.proofs.ReleaseOrders.{member_in_order}
use Rattle.run_laws.proofs.NodePicksAndRunReplay.{component_is}
use Rattle.timely_worlds.specs.proof.EventTimes.{EventTimes, StepMeetsBounds, StepsMeetBounds}
use Rattle.timely_worlds.specs.proof.ServedSteps.{IsPlaced, IsServed}

-- ---- members of lists
member_left : {X : Type 0} (xs ys : List X) (z : X) → Member xs z → Member (xs ++ ys) z
member_left [] ys z there = absurd there
member_left (x ∷ xs) ys z (inl same) = inl same
member_left (x ∷ xs) ys z (inr later) = inr (member_left xs ys z later)

member_right : {X : Type 0} (xs ys : List X) (z : X) → Member ys z → Member (xs ++ ys) z
member_right [] ys z there = there
member_right (x ∷ xs) ys z there = inr (member_right xs ys z there)

member_flat_map : {X Y : Type 0} (f : X → List Y) (xs : List X) (x : X) (y : Y) → Member xs x → Member (f x) y
    → Member (flat_map f xs) y
member_flat_map f [] x y among there = absurd among
member_flat_map f (z ∷ zs) x y (inl same) there =
    member_left (f z) (flat_map f zs) y (subst (λ a. Member (f a) y) (sym same) there)
member_flat_map f (z ∷ zs) x y (inr later) there =
    member_right (f z) (flat_map f zs) y (member_flat_map f zs x y later there)

member_map : {X Y : Type 0} (f : X → Y) (xs : List X) (x : X) → Member xs x → Member (map f xs) (f x)
member_map f [] x among = absurd among
member_map f (z ∷ zs) x (inl same) = inl (ap f same)
member_map f (z ∷ zs) x (inr later) = inr (member_map f zs x later)

member_upwards : (from n k : ℕ) → from ≤ k → k < from + n → Member (upwards from n) k
member_upwards from zero k above below = absurd (omega arith)
member_upwards from (suc n) k above below = elim (cases_eq from k) [
  | inl same ↦ inl same
  | inr other ↦ inr (member_upwards (suc from) n k (omega arith) (omega arith))
]

-- ---- each release of a member is served
served_at : (P : Served → Type 0) (cost : Release → ℕ) (reached : ReachTimes) (free : ℕ) (xs : List Release)
    (x : Release)
    → Every P (serve_by cost reached free xs) → Member xs x
    → (s : Served) × P s × (s.release ≡ x)
served_at P cost reached free [] x all among = absurd among
served_at P cost reached free (y ∷ ys) x all (inl same) =
    (record { release = y; begin = begins_by reached free y; done = begins_by reached free y + cost y }, all.0, same)
served_at P cost reached free (y ∷ ys) x all (inr later) =
    served_at P cost reached (begins_by reached free y + cost y) ys x all.1 later

module _ (run : Run) (rules : IsRunOf run) (codes : List CodeParts) (times : EventTimes) (node : ℕ)
    (within : node < length run.design.components) (served : IsServed run codes times node) where
  abbrev g : Gamma
  g = run.design.gamma

  abbrev list : List Served
  list = budget_by run.design served.members run.rounds served.nanos served.reached served.count

  abbrev IsKept : Served → Type 0
  IsKept s = KeepsBounds g served.reached s × IsPlaced g times s

  all_kept : Every IsKept list
  all_kept =
      let kept = (served.responds.clocked run.rounds served.reached served.count served.at_most served.is_near).kept in
      every_both (KeepsBounds g served.reached) (IsPlaced g times) IsKept (λ s a b. (a, b)) list
      (recursion_from_All (KeepsBounds g served.reached) list kept)
      (recursion_from_All (IsPlaced g times) list served.placed)

  rate_is : rate_of run.design node ≡ (plan_of run.design node).rate
  rate_is = ap rate_in (component_is run node within)

  released : (round step : ℕ) → round < run.rounds → step < (plan_of run.design node).rate
      → Member (releases run.design served.members run.rounds) (release_of run.design round node step)
  released round step below few =
      let rate = rate_is in
      member_flat_map (releases_in run.design served.members) (upwards 0 run.rounds) round _
      (member_upwards 0 run.rounds round (omega arith) (omega arith))
      (member_flat_map (releases_of run.design round) served.members node _
      (member_of served.members node served.is_member)
      (member_map (release_of run.design round node) (upwards 0 (rate_of run.design node)) step
      (member_upwards 0 (rate_of run.design node) step (omega arith) (omega arith))))

  step_meets : (round step : ℕ) → round < run.rounds → step < (plan_of run.design node).rate
      → StepMeetsBounds g (plan_of run.design node) times node round step
  step_meets round step below few =
      let x : Release = release_of run.design round node step in
      let all = releases run.design served.members run.rounds in
      let found : (s : Served) × IsKept s × (s.release ≡ x) =
      served_at IsKept (λ y. served.nanos * served.count y) served.reached 0 (in_order all) x all_kept
      (member_in_order x all (released round step below few)) in
      let s = found.0 in
      let keeps = found.1.0 in
      let placed = found.1.1 in
      let same = found.2 in
      let starts : times.starts node round step ≡ start_time g s =
      subst (λ (r : Release). times.starts r.node r.round r.step ≡ start_time g s) same placed.starts in
      let finishes : times.finishes node round step ≡ max s.done (start_time g s + g.alpha_min) =
      subst (λ (r : Release). times.finishes r.node r.round r.step ≡ max s.done (start_time g s + g.alpha_min)) same
      placed.finishes in
      let time : s.release.time ≡ x.time = ap (λ (r : Release). r.time) same in
      let period : step * step_period run.design.period (rate_of run.design node)
      ≡ step * (plan_of run.design node).step_period =
      ap (λ k. step * step_period run.design.period k) rate_is in
      let prompt = keeps.prompt in
      let finish = keeps.finish in
      let execution = rules.design.gamma.execution.0 in
      record { prompt = omega arith; shortest = omega arith; longest = omega arith }

pub steps_meet_bounds : (run : Run) (codes : List CodeParts) (times : EventTimes) → IsRunOf run
    → ((node : ℕ) → node < length run.design.components → IsServed run codes times node)
    → StepsMeetBounds run times
steps_meet_bounds run codes times rules served node round step within below few =
    step_meets run rules codes times node within (served node within) round step below few
