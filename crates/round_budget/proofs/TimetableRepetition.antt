-- Why the timetable of one round is that of every round.
use Rattle.std.proofs.Common.{◌≡◌, ◌∙◌, ℕ, zero, suc, ◌+◌, ◌-◌, ◌*◌, ◌<◌, ◌≤◌, true, false, List, [], ◌∷◌, ◌++◌, map}
use Rattle.std.proofs.Common.{refl, sym, ap, ap₂, subst, arith, append-nil}
use Rattle.std.specs.Prelude.{max, nat_eq, nat_lt, ◌&&◌, ◌||◌, if◌then◌else◌}
use Rattle.std.specs.List.{flat_map, AllByRecursion as Every}
use Rattle.std.proofs.lemmas.Bool.Decides.{nat_tests}
use Rattle.std.proofs.lemmas.Nat.{mul-le}
use Rattle.std.proofs.lemmas.List.{map-append}
use Rattle.std.proofs.lemmas.List.Elements.{recursion_from_All}
use Rattle.std.proofs.Math.Nat.{add-max-add_right}
use Rattle.list_lemmas.proofs.Elements.{AllByRecursion-weaker, AllByRecursion-map}
use Rattle.pals_base.specs.PeriodBoundAndReleases.{alarm, step_period}
use Rattle.pals_base.specs.UpwardNumbers.{upwards}
use Rattle.step_code.specs.declared.instr.CodeParts.{CodeParts}
use Rattle.pals_model.specs.declared.design.DesignParts.{DesignParts}
use Rattle.pals_model.specs.PortKindsAndRates.{rate_of}
use Rattle.pals_model.specs.DesignRules.{IsDesign}
use Rattle.round_budget.specs.Budgets.{Release, Served, Line, release_of, releases_of, releases_in, releases, precedes}
use Rattle.round_budget.specs.Budgets.{put, in_order, begins, served_at, serve, budget, by_most, line_from, timetable}
use Rattle.round_budget.specs.proof.LinesFromOwnAlarm.{line_in_round}
use Rattle.round_budget.specs.proof.BudgetLaws.{IsWithinBudget, TimetableRepeats}
use Rattle.round_budget.proofs.ListQuantifiers.{every_both, every_flat_map, every_upwards}
use Rattle.round_budget.proofs.ReleaseOrders.{every_in_order}
use Rattle.round_budget.proofs.ReleaseTimes.{IsIn, in_round, rate_fits}
use Rattle.round_budget.proofs.BudgetLaws.{rounds_are_apart}

-- ---- rounds follow one another
put_front : (x : Release) (as' bs : List Release) → Every (λ y. precedes y x ≡ false) bs
    → put x (as' ++ bs) ≡ put x as' ++ bs
put_front x [] [] none = refl
put_front x [] (y ∷ bs) none = ap (λ b. if b then y ∷ put x bs else x ∷ y ∷ bs) none.0
put_front x (a ∷ as') bs none =
    elim (precedes a x) as (λ b. (if b then a ∷ put x (as' ++ bs) else x ∷ a ∷ (as' ++ bs))
    ≡ (if b then a ∷ put x as' else x ∷ a ∷ as') ++ bs) [
      | true ↦ ap (λ xs. a ∷ xs) (put_front x as' bs none)
      | false ↦ refl
    ]

in_order_both : (xs ys : List Release) → Every (λ x. Every (λ y. precedes y x ≡ false) ys) xs
    → in_order (xs ++ ys) ≡ in_order xs ++ in_order ys
in_order_both [] ys none = refl
in_order_both (x ∷ xs) ys none =
    ap (put x) (in_order_both xs ys none.1)
    ∙ put_front x (in_order xs) (in_order ys) (every_in_order (λ y. precedes y x ≡ false) ys none.0)

later_number : (t s n m : ℕ) → s < t → (nat_lt t s || (nat_eq t s && nat_lt n m)) ≡ false
later_number t s n m less = grind (arith, nat_tests)

-- ---- a round later
abbrev later : ℕ → ℕ → Release → Release
later t round x = record { node = x.node; round = round; step = x.step; time = x.time + round * t }

abbrev served_later : ℕ → ℕ → Served → Served
served_later t round s =
    record { release = later t round s.release; begin = s.begin + round * t; done = s.done + round * t }

same_test : (t s n m k : ℕ)
    → (nat_lt (t + k) (s + k) || (nat_eq (t + k) (s + k) && nat_lt n m)) ≡ (nat_lt t s || (nat_eq t s && nat_lt n m))
same_test t s n m k = ap₂ (λ a b. a || (b && nat_lt n m)) less same
  where
    less : nat_lt (t + k) (s + k) ≡ nat_lt t s
    less = grind (arith, nat_tests)

    same : nat_eq (t + k) (s + k) ≡ nat_eq t s
    same = grind (arith, nat_tests)

put_later : (t round : ℕ) (x : Release) (ys : List Release)
    → put (later t round x) (map (later t round) ys) ≡ map (later t round) (put x ys)
put_later t round x [] = refl
put_later t round x (y ∷ ys) =
    ap (λ b. if b then later t round y ∷ put (later t round x) (map (later t round) ys) else later t round x
    ∷ later t round y ∷ map (later t round) ys)
    (same_test y.time x.time y.node x.node (round * t))
    ∙ elim (precedes y x) as
    (λ b. (if b then later t round y ∷ put (later t round x) (map (later t round) ys) else later t round x
    ∷ later t round y ∷ map (later t round) ys)
    ≡ map (later t round) (if b then y ∷ put x ys else x ∷ y ∷ ys)) [
      | true ↦ ap (λ xs. later t round y ∷ xs) (put_later t round x ys)
      | false ↦ refl
    ]

in_order_later : (t round : ℕ) (xs : List Release)
    → in_order (map (later t round) xs) ≡ map (later t round) (in_order xs)
in_order_later t round [] = refl
in_order_later t round (x ∷ xs) =
    ap (put (later t round x)) (in_order_later t round xs) ∙ put_later t round x (in_order xs)

-- ---- served later

served_at_later : (release : Release) (b b' d d' : ℕ) → b ≡ b' → d ≡ d'
    → ◌≡◌ {A = Served} (record { release = release; begin = b; done = d })
    (record { release = release; begin = b'; done = d' })
served_at_later release b b' d d' one two = cc

serve_later : (t round : ℕ) (cost : Release → ℕ) → ((x : Release) → cost (later t round x) ≡ cost x)
    → (free : ℕ) (xs : List Release)
    → serve cost (free + round * t) (map (later t round) xs) ≡ map (served_later t round) (serve cost free xs)
serve_later t round cost same free [] = refl
serve_later t round cost same free (x ∷ xs) =
    let begin : max (x.time + round * t) (free + round * t) ≡ max x.time free + round * t =
    add-max-add_right x.time free (round * t) in
    let one = same x in
    let done : max (x.time + round * t) (free + round * t) + cost (later t round x)
    ≡ max x.time free + cost x + round * t = omega (arith, begin, one) in
    ap₂ (λ s ss. s ∷ ss)
    (served_at_later (later t round x) _ _ _ _ begin done)
    (ap (λ f. serve cost f (map (later t round) xs)) done ∙ serve_later t round cost same (max x.time free + cost x) xs)

-- an idle processor does not wait
serve_idle : (cost : Release → ℕ) (free other : ℕ) (xs : List Release)
    → Every (λ x. (free ≤ x.time) × (other ≤ x.time)) xs → serve cost free xs ≡ serve cost other xs
serve_idle cost free other [] soon = refl
serve_idle cost free other (x ∷ xs) soon =
    let a = soon.0.0 in
    let b = soon.0.1 in
    let same : max x.time free ≡ max x.time other = omega (arith, a, b) in
    ap (λ k. let s : Served = record { release = x; begin = k; done = k + cost x } in
    s ∷ serve cost (k + cost x) xs) same

-- when the processor is free
abbrev after : (Release → ℕ) → ℕ → List Release → ℕ
after cost free [] = free
after cost free (x ∷ xs) = after cost (begins free x + cost x) xs

serve_both : (cost : Release → ℕ) (free : ℕ) (xs ys : List Release)
    → serve cost free (xs ++ ys) ≡ serve cost free xs ++ serve cost (after cost free xs) ys
serve_both cost free [] ys = refl
serve_both cost free (x ∷ xs) ys =
    ap (λ ss. served_at cost free x ∷ ss) (serve_both cost (begins free x + cost x) xs ys)

after_upto : (cost : Release → ℕ) (free end : ℕ) (xs : List Release) → free ≤ end
    → Every (λ (s : Served). s.done ≤ end) (serve cost free xs) → after cost free xs ≤ end
after_upto cost free end [] low all = low
after_upto cost free end (x ∷ xs) low all = after_upto cost (begins free x + cost x) end xs all.0 all.1

-- ---- the timetable
module _ (design : DesignParts) (codes : List CodeParts) (nanos : ℕ) (members : List ℕ) (sound : IsDesign design)
    (budgeted : IsWithinBudget design codes nanos members) where
  abbrev t : ℕ
  t = design.period

  abbrev cost : Release → ℕ
  cost x = nanos * by_most codes x

  abbrev of_round : ℕ → List Release
  of_round round = in_order (releases_in design members round)

  -- the releases of a round are the releases of the first round, later
  release_later : (round node step : ℕ)
      → release_of design round node step ≡ later t round (release_of design 0 node step)
  release_later round node step =
      let time : alarm t round + step * step_period t (rate_of design node)
      ≡ alarm t 0 + step * step_period t (rate_of design node) + round * t = omega arith in
      ap (λ k. let x : Release = record { node = node; round = round; step = step; time = k } in x) time

  of_later : (round node : ℕ) (ks : List ℕ)
      → map (release_of design round node) ks ≡ map (later t round) (map (release_of design 0 node) ks)
  of_later round node [] = refl
  of_later round node (k ∷ ks) = ap₂ (λ x xs. x ∷ xs) (release_later round node k) (of_later round node ks)

  in_later : (round : ℕ) (ms : List ℕ)
      → flat_map (releases_of design round) ms ≡ map (later t round) (flat_map (releases_of design 0) ms)
  in_later round [] = refl
  in_later round (m ∷ ms) =
      ap₂ (λ xs ys. xs ++ ys) (of_later round m (upwards 0 (rate_of design m))) (in_later round ms)
      ∙ sym (map-append (later t round) (releases_of design 0 m) (flat_map (releases_of design 0) ms))

  round_later : (round : ℕ) → of_round round ≡ map (later t round) (of_round 0)
  round_later round = ap in_order (in_later round members) ∙ in_order_later t round (releases_in design members 0)

  -- rounds in order
  is_in : (round : ℕ) → Every (IsIn design members sound budgeted.members_are round) (releases_in design members round)
  is_in round = in_round design members sound budgeted.members_are round

  alarm_upto : (a b : ℕ) → a ≤ b → alarm t a ≤ alarm t b
  alarm_upto a b below = mul-le (a + 1) t (b + 1) t (omega arith) (omega arith)

  begins_late : (from n : ℕ)
      → Every (λ y. alarm t from ≤ y.time) (flat_map (releases_in design members) (upwards from n))
  begins_late from n =
      every_flat_map (λ y. alarm t from ≤ y.time) (releases_in design members) (upwards from n)
      (every_upwards (λ r. Every (λ y. alarm t from ≤ y.time) (releases_in design members r)) from n
      (λ r above below.
      AllByRecursion-weaker (IsIn design members sound budgeted.members_are r) (λ y. alarm t from ≤ y.time)
      (λ y is. (let first = alarm_upto from r above in let starts = is.begins in omega (arith, first, starts)))
      (releases_in design members r) (is_in r)))

  ends_soon : (round : ℕ) → Every (λ x. x.time < alarm t (suc round)) (releases_in design members round)
  ends_soon round =
      AllByRecursion-weaker (IsIn design members sound budgeted.members_are round) (λ x. x.time < alarm t (suc round))
      (λ x is. (
      let ends = is.is_release.ends in
      let real = (rate_fits design sound x.node is.is_release.within).real in
      let same : alarm t (suc x.round) ≡ alarm t (suc round) = ap (λ r. alarm t (suc r)) is.round_is in
      omega (arith, ends, real, same)))
      (releases_in design members round) (is_in round)

  all_in_order : (from n : ℕ)
      → in_order (flat_map (releases_in design members) (upwards from n)) ≡ flat_map of_round (upwards from n)
  all_in_order from zero = refl
  all_in_order from (suc n) =
      in_order_both (releases_in design members from) (flat_map (releases_in design members) (upwards (suc from) n))
      (AllByRecursion-weaker (λ x. x.time < alarm t (suc from))
      (λ x. Every (λ y. precedes y x ≡ false) (flat_map (releases_in design members) (upwards (suc from) n)))
      (λ x soon.
      AllByRecursion-weaker (λ y. alarm t (suc from) ≤ y.time) (λ y. precedes y x ≡ false)
      (λ y late. later_number y.time x.time y.node x.node (omega (arith, soon, late)))
      (flat_map (releases_in design members) (upwards (suc from) n)) (begins_late (suc from) n))
      (releases_in design members from) (ends_soon from))
      ∙ ap (λ xs. of_round from ++ xs) (all_in_order (suc from) n)

  -- the first round
  one_round : releases design members 1 ≡ releases_in design members 0
  one_round = append-nil (releases_in design members 0)

  abbrev first : List Served
  first = serve cost 0 (of_round 0)

  timetable_is : timetable design codes nanos members ≡ map (line_from (alarm t 0)) first
  timetable_is = ap (λ xs. map (line_from (alarm t 0)) (serve cost 0 (in_order xs))) one_round

  -- all is done by the next alarm
  first_done : Every (λ (s : Served). s.done ≤ alarm t (suc s.release.round)) first
  first_done =
      subst (λ xs. Every (λ (s : Served). s.done ≤ alarm t (suc s.release.round))
      (serve cost 0 (in_order xs))) one_round
      (recursion_from_All (λ (s : Served). s.done ≤ alarm t (suc s.release.round))
      (budget design members 1 nanos (by_most codes))
      (rounds_are_apart design codes nanos members 1 (by_most codes) sound budgeted (λ x among. omega arith)))

  first_is_zero : Every (λ (s : Served). s.release.round ≡ 0) first
  first_is_zero = zero_served 0 (of_round 0) (every_in_order (λ x. x.round ≡ 0) (releases_in design members 0)
      (AllByRecursion-weaker (IsIn design members sound budgeted.members_are 0) (λ x. x.round ≡ 0) (λ x is. is.round_is)
      (releases_in design members 0) (is_in 0)))
    where
      zero_served : (free : ℕ) (xs : List Release) → Every (λ x. x.round ≡ 0) xs
          → Every (λ (s : Served). s.release.round ≡ 0) (serve cost free xs)
      zero_served free [] all = tt
      zero_served free (x ∷ xs) all = (all.0, zero_served (begins free x + cost x) xs all.1)

  -- a round, from a processor that is free by its alarm
  round_times : (round free : ℕ) → free ≤ alarm t round
      → Every (λ x. (free ≤ x.time) × (0 + round * t ≤ x.time)) (of_round round)
  round_times round free low =
      every_in_order (λ x. (free ≤ x.time) × (0 + round * t ≤ x.time)) (releases_in design members round)
      (AllByRecursion-weaker (IsIn design members sound budgeted.members_are round)
      (λ x. (free ≤ x.time) × (0 + round * t ≤ x.time))
      (λ x is. (let starts = is.begins in (omega (arith, starts, low), omega (arith, starts))))
      (releases_in design members round) (is_in round))

  serve_round : (round free : ℕ) → free ≤ alarm t round
      → serve cost free (of_round round) ≡ map (served_later t round) first
  serve_round round free low =
      serve_idle cost free (0 + round * t) (of_round round) (round_times round free low)
      ∙ ap (serve cost (0 + round * t)) (round_later round)
      ∙ serve_later t round cost (λ x. refl) 0 (of_round 0)

  line_later : (round : ℕ) (s : Served) → line_in_round design (served_later t round s) ≡ line_from (alarm t 0) s
  line_later round s =
      let begin : s.begin + round * t - alarm t round ≡ s.begin - alarm t 0 = omega arith in
      let done : s.done + round * t - alarm t round ≡ s.done - alarm t 0 = omega arith in
      ap₂ (λ b d. let l : Line = record { node = s.release.node; step = s.release.step; begin = b; done = d } in
      l) begin done

  lines_later : (round : ℕ) (ss : List Served)
      → map (line_in_round design) (map (served_later t round) ss) ≡ map (line_from (alarm t 0)) ss
  lines_later round [] = refl
  lines_later round (s ∷ ss) = ap₂ (λ l ls. l ∷ ls) (line_later round s) (lines_later round ss)

  free_again : (round free : ℕ) → free ≤ alarm t round → after cost free (of_round round) ≤ alarm t (suc round)
  free_again round free low =
      let more = alarm_upto round (suc round) (omega arith) in
      after_upto cost free (alarm t (suc round)) (of_round round) (omega (arith, low, more))
      (subst (Every (λ (s : Served). s.done ≤ alarm t (suc round))) (sym (serve_round round free low))
      (AllByRecursion-map (λ (s : Served). s.done ≤ alarm t (suc round)) (served_later t round) first
      (every_both (λ (s : Served). s.done ≤ alarm t (suc s.release.round)) (λ (s : Served). s.release.round ≡ 0)
      (λ (s : Served). s.done + round * t ≤ alarm t (suc round))
      (λ s soon is. (
      let same : alarm t (suc s.release.round) ≡ alarm t 1 = ap (λ r. alarm t (suc r)) is in
      let product : alarm t 1 + round * t ≡ alarm t (suc round) = omega arith in
      omega (arith, soon, same, product)))
      first first_done first_is_zero)))

  repeats_from : (from n free : ℕ) → free ≤ alarm t from
      → map (line_in_round design) (serve cost free (flat_map of_round (upwards from n)))
      ≡ flat_map (λ (round : ℕ). timetable design codes nanos members) (upwards from n)
  repeats_from from zero free low = refl
  repeats_from from (suc n) free low =
      let rest = flat_map of_round (upwards (suc from) n) in
      ap (map (line_in_round design)) (serve_both cost free (of_round from) rest)
      ∙ map-append (line_in_round design) (serve cost free (of_round from))
      (serve cost (after cost free (of_round from)) rest)
      ∙ ap₂ (λ xs ys. xs ++ ys)
      (ap (map (line_in_round design)) (serve_round from free low) ∙ lines_later from first ∙ sym timetable_is)
      (repeats_from (suc from) n (after cost free (of_round from)) (free_again from free low))

  pub repeats : (rounds : ℕ)
      → map (line_in_round design) (budget design members rounds nanos (by_most codes))
      ≡ flat_map (λ (round : ℕ). timetable design codes nanos members) (upwards 0 rounds)
  repeats rounds =
      ap (λ xs. map (line_in_round design) (serve cost 0 xs)) (all_in_order 0 rounds)
      ∙ repeats_from 0 rounds 0 (omega arith)

pub timetable_repeats : TimetableRepeats
timetable_repeats design codes nanos members rounds sound budgeted =
    repeats design codes nanos members sound budgeted rounds
