-- Proofs of the laws of round budgets: releases are served once and in order, responses are in time, rounds stay
-- apart.
use Rattle.std.proofs.Common.{◌≡◌, ◌⊎◌, inl, inr, ℕ, suc, ◌+◌, ◌-◌, ◌*◌, ◌^◌, ◌<◌, ◌≤◌, List, [], ◌∷◌, Option, Some}
use Rattle.std.proofs.Common.{None, slice_get, All, AllPairs, IsTrue, Contains, sym, ap, ◌∙◌, subst, arith}
use Rattle.std.specs.List.{sum_by, AllByRecursion as Every}
use Rattle.std.proofs.lemmas.Nat.{mul-le}
use Rattle.std.proofs.lemmas.List.Sums.{sum_by-cons}
use Rattle.std.proofs.lemmas.List.Elements.{All-from_recursion}
use Rattle.std.proofs.lemmas.Bool.{cases_lt}
use Rattle.list_lemmas.proofs.Elements.{AllByRecursion-weaker}
use Rattle.list_lemmas.proofs.PairwiseProperties.{Pairs, pairs_weaker, all_pairs_from}
use Rattle.pals_base.specs.declared.frames.Frame.{Frame}
use Rattle.pals_base.specs.declared.basic_types.PortValue.{PortValue}
use Rattle.pals_base.specs.declared.limits.TheConstants.{HOUR}
use Rattle.pals_base.specs.PeriodBoundAndReleases.{alarm}
use Rattle.step_code.specs.declared.instr.CodeParts.{CodeParts}
use Rattle.step_code.specs.CappedWeights.{capped}
use Rattle.step_code.specs.SuccessorsAndWeights.{weight_of}
use Rattle.step_code.specs.proof.StackHeights.{Member}
use Rattle.step_code.proofs.HeaviestPaths.{made_within}
use Rattle.pals_model.specs.declared.design.DesignParts.{DesignParts}
use Rattle.pals_model.specs.declared.environment.Env.{Env}
use Rattle.pals_model.specs.DesignRules.{IsDesign}
use Rattle.round_budget.specs.Budgets.{Release, Served, releases, in_order, precedes, serve, most_of, most_in, by_most}
use Rattle.round_budget.specs.ResponseTimes.{response, AreAtMost, made_in, frame_before, inputs_at, by_exec}
use Rattle.round_budget.specs.proof.BudgetLaws.{AreMembers, IsWithinBudget, EachIsServed, ServedOnce, ServedInOrder}
use Rattle.round_budget.specs.proof.BudgetLaws.{NoneBeginsEarly, OneAtATime, ResponsesFit, MostResponsesFit}
use Rattle.round_budget.specs.proof.BudgetLaws.{ExecResponsesFit, RoundsAreApart}
use Rattle.round_budget.proofs.ListQuantifiers.{every_both, pairs_both, member_of, contains_of}
use Rattle.round_budget.proofs.ReleaseOrders.{NotAfter, every_in_order, pairs_in_order, sorted_in_order}
use Rattle.round_budget.proofs.ReleaseOrders.{length_in_order, member_in_order, in_order_member, strict_numbers}
use Rattle.round_budget.proofs.FilteredSums.{one_le}
use Rattle.round_budget.proofs.ReleaseTimes.{rate_fits, gap_of, AreFar, far_either, IsRelease, releases_are}
use Rattle.round_budget.proofs.ReleaseTimes.{releases_are_far}
use Rattle.round_budget.proofs.TimelyService.{served_releases, length_serve, every_serve, pairs_serve, TakesItsTime}
use Rattle.round_budget.proofs.TimelyService.{none_early, one_at_a_time, IsApart, IsWeighed, all_in_time}

-- ---- the served steps
pub each_is_served : EachIsServed
each_is_served design members rounds nanos count x =
    let cost : Release → ℕ = λ y. nanos * count y in
    let all = releases design members rounds in
    let same = served_releases cost 0 (in_order all) in (
      λ among. contains_of all x
          (in_order_member x all (member_of (in_order all) x (subst (λ ys. Contains ys x) same among))),
      λ among. subst (λ ys. Contains ys x) (sym same)
          (contains_of (in_order all) x (member_in_order x all (member_of all x among))),
    )

pub served_once : ServedOnce
served_once design members rounds nanos count =
    length_serve (λ y. nanos * count y) 0 (in_order (releases design members rounds))
    ∙ length_in_order (releases design members rounds)

pub none_begins_early : NoneBeginsEarly
none_begins_early design members rounds nanos count =
    All-from_recursion (TakesItsTime (λ y. nanos * count y)) _
    (none_early (λ y. nanos * count y) 0 (in_order (releases design members rounds)))

pub one_at_a_time' : OneAtATime
one_at_a_time' design members rounds nanos count =
    all_pairs_from (λ (s t : Served). s.done ≤ t.begin) _
    (one_at_a_time (λ y. nanos * count y) 0 (in_order (releases design members rounds)))

-- ---- in order
record IsBoth (design : DesignParts) (x y : Release) : Type 0 where
  order : NotAfter x y
  far : AreFar design x y

far_in_time : (t s gap : ℕ) → t ≤ s → (t + gap ≤ s) ⊎ (s + gap ≤ t) → t + gap ≤ s
far_in_time t s gap order (inl first) = first
far_in_time t s gap order (inr second) = omega (arith, order, second)

module _ (design : DesignParts) (members : List ℕ) (sound : IsDesign design) (are : AreMembers design members)
    (rounds : ℕ) where
  abbrev ordered : List Release
  ordered = in_order (releases design members rounds)

  ordered_are : Every (IsRelease design members) ordered
  ordered_are =
      every_in_order (IsRelease design members) (releases design members rounds)
      (releases_are design members sound are rounds)

  ordered_are_both : Pairs (IsBoth design) ordered
  ordered_are_both =
      pairs_both NotAfter (AreFar design) (IsBoth design) (λ x y order far. record { order = order; far = far }) ordered
      (sorted_in_order (releases design members rounds))
      (pairs_in_order (AreFar design) (far_either design) (releases design members rounds)
      (releases_are_far design members sound are rounds))

  -- with the property of the first of the two
  record IsAll (x y : Release) : Type 0 where
    both : IsBoth design x y
    first : IsRelease design members x
    second : IsRelease design members y

  with_ends : (xs : List Release) → Every (IsRelease design members) xs → Pairs (IsBoth design) xs → Pairs IsAll xs
  with_ends [] each all = tt
  with_ends (x ∷ xs) each all = (
    every_both (IsRelease design members) (IsBoth design x) (IsAll x)
        (λ y is both. record { both = both; first = each.0; second = is }) xs each.1 all.0,
    with_ends xs each.1 all.1,
  )

  ordered_are_all : Pairs IsAll ordered
  ordered_are_all = with_ends ordered ordered_are ordered_are_both

  strictly : (x y : Release) → IsAll x y → IsTrue (precedes x y)
  strictly x y all =
      let fit = rate_fits design sound x.node all.first.within in
      let time = all.both.order.time in
      let node = all.both.order.node in
      strict_numbers x.time y.time x.node y.node time
      (λ same.
      elim (cases_lt x.node y.node) [
        | inl less ↦ less
        | inr not_less ↦ (
            let below = node same in
            let one : x.node ≡ y.node = omega (arith, below, not_less) in
            let apart = far_in_time x.time y.time (gap_of design x.node) time (all.both.far.far one) in
            let real = fit.real in
            absurd (omega (arith, apart, same, real)))
      ])

  far_enough : (x y : Release) → IsAll x y → IsApart design.gamma.alpha_max x y
  far_enough x y all = record {
    order = all.both.order.time;
    apart = λ one. (
        let fit = rate_fits design sound x.node all.first.within in
        let long = fit.long in
        let apart = far_in_time x.time y.time (gap_of design x.node) all.both.order.time (all.both.far.far one) in
        omega (arith, long, apart));
  }

  pub served_in_order : (cost : Release → ℕ)
      → AllPairs (λ (s t : Served). IsTrue (precedes s.release t.release)) (serve cost 0 ordered)
  served_in_order cost =
      all_pairs_from (λ (s t : Served). IsTrue (precedes s.release t.release)) (serve cost 0 ordered)
      (pairs_serve (λ x y. IsTrue (precedes x y)) cost 0 ordered
      (pairs_weaker IsAll (λ x y. IsTrue (precedes x y)) strictly ordered ordered_are_all))

  -- ---- in time
  module _ (w : ℕ → ℕ) (cost : Release → ℕ) (few : sum_by w members ≤ design.gamma.alpha_max)
      (most : (x : Release) → Member members x.node → cost x ≤ w x.node) where
    weighed : Every (IsWeighed w members cost) ordered
    weighed =
        AllByRecursion-weaker (IsRelease design members) (IsWeighed w members cost)
        (λ x is. record { member = is.member; cost_is = most x is.member }) ordered ordered_are

    done_in_time : Every (λ (s : Served). s.done ≤ s.release.time + design.gamma.alpha_max) (serve cost 0 ordered)
    done_in_time =
        all_in_time design.gamma.alpha_max w members cost few ordered
        (pairs_weaker IsAll (IsApart design.gamma.alpha_max) far_enough ordered ordered_are_all) weighed

    pub responses_in_time : All (λ s. response s ≤ design.gamma.alpha_max) (serve cost 0 ordered)
    responses_in_time =
        All-from_recursion (λ s. response s ≤ design.gamma.alpha_max) (serve cost 0 ordered)
        (AllByRecursion-weaker (λ (s : Served). s.done ≤ s.release.time + design.gamma.alpha_max)
        (λ (s : Served). response s ≤ design.gamma.alpha_max)
        (λ s soon. omega (arith, soon)) (serve cost 0 ordered) done_in_time)

    pub rounds_in_time : All (λ (s : Served). s.done ≤ alarm design.period (suc s.release.round)) (serve cost 0 ordered)
    rounds_in_time =
        All-from_recursion (λ (s : Served). s.done ≤ alarm design.period (suc s.release.round)) (serve cost 0 ordered)
        (every_both (λ (s : Served). s.done ≤ s.release.time + design.gamma.alpha_max)
        (λ (s : Served). IsRelease design members s.release)
        (λ (s : Served). s.done ≤ alarm design.period (suc s.release.round))
        (λ s soon is. (let ends = is.ends in let fit = rate_fits design sound s.release.node is.within in
        let long = fit.long in omega (arith, soon, ends, long)))
        (serve cost 0 ordered) done_in_time
        (every_serve (IsRelease design members) cost 0 ordered ordered_are))

-- ---- the laws
pub served_in_order' : ServedInOrder
served_in_order' design members rounds nanos count sound are =
    served_in_order design members sound are rounds (λ x. nanos * count x)

sum_by-times : (n : ℕ) (w : ℕ → ℕ) (xs : List ℕ) → sum_by (λ m. n * w m) xs ≡ n * sum_by w xs
sum_by-times n w [] = omega arith
sum_by-times n w (x ∷ xs) =
    let later = sum_by-times n w xs in
    sum_by-cons (λ m. n * w m) x xs ∙ ap (λ k. n * w x + k) later
    ∙ (let spread : n * w x + n * sum_by w xs ≡ n * (w x + sum_by w xs) = omega arith in spread)
    ∙ ap (λ k. n * k) (sym (sum_by-cons w x xs))

few_of : (design : DesignParts) (codes : List CodeParts) (nanos : ℕ) (members : List ℕ)
    → IsWithinBudget design codes nanos members
    → sum_by (λ m. nanos * most_of codes m) members ≤ design.gamma.alpha_max
few_of design codes nanos members budgeted =
    let same = sum_by-times nanos (most_of codes) members in
    let few = budgeted.fits in
    omega (arith, same, few)

pub responses_fit : ResponsesFit
responses_fit design codes nanos members rounds count sound budgeted most =
    responses_in_time design members sound budgeted.members_are rounds (λ m. nanos * most_of codes m)
    (λ x. nanos * count x)
    (few_of design codes nanos members budgeted)
    (λ x among. mul-le nanos (count x) nanos (most_of codes x.node) (omega arith)
    (most x (contains_of members x.node among)))

pub rounds_are_apart : RoundsAreApart
rounds_are_apart design codes nanos members rounds count sound budgeted most =
    rounds_in_time design members sound budgeted.members_are rounds (λ m. nanos * most_of codes m)
    (λ x. nanos * count x)
    (few_of design codes nanos members budgeted)
    (λ x among. mul-le nanos (count x) nanos (most_of codes x.node) (omega arith)
    (most x (contains_of members x.node among)))

pub most_responses_fit : MostResponsesFit
most_responses_fit design codes nanos members rounds sound budgeted =
    responses_fit design codes nanos members rounds (by_most codes) sound budgeted (λ x among. omega arith)

-- ---- instructions that are made
-- a weight that stops far below u64's end is whole
uncapped : (n k : ℕ) → capped n ≤ k → k < 2 ^ 64 - 1 → capped n ≡ n
uncapped n k few below = omega arith

made_most : (o : Option CodeParts) (frame : Frame) (inputs : List PortValue) (k : ℕ) → most_in o ≤ k → k < 2 ^ 64 - 1
    → made_in o frame inputs ≤ most_in o
made_most None frame inputs k few below = omega arith
made_most (Some c) frame inputs k few below =
    let whole = uncapped (weight_of c) k few below in
    let within = made_within c frame inputs in
    omega (arith, whole, within)

at_least_once : (n a : ℕ) → 1 ≤ n → a ≤ n * a
at_least_once n a some =
    let more : 1 * a ≤ n * a = mul-le 1 a n a some (omega arith) in
    omega (arith, more)

pub exec_at_most : (design : DesignParts) (codes : List CodeParts) (nanos : ℕ) (members : List ℕ) (env : Env)
    → IsDesign design → 1 ≤ nanos
    → IsWithinBudget design codes nanos members → AreAtMost codes members (by_exec design env codes)
exec_at_most design codes nanos members env sound some budgeted x among =
    let one = one_le (λ m. nanos * most_of codes m) x.node members (member_of members x.node among) in
    let once = at_least_once nanos (most_of codes x.node) some in
    let few = few_of design codes nanos members budgeted in
    let hour = sound.gamma.execution.1 in
    made_most (slice_get codes x.node) (frame_before design env x (slice_get design.components x.node))
    (inputs_at design env x) HOUR
    (omega (arith, one, once, few, hour)) (omega arith)

pub exec_responses_fit : ExecResponsesFit
exec_responses_fit design codes nanos members env rounds sound some budgeted =
    responses_fit design codes nanos members rounds (by_exec design env codes) sound budgeted
    (exec_at_most design codes nanos members env sound some budgeted)
