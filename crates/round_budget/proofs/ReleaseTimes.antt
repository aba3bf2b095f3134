-- When the members of a processor release their steps.
use Rattle.std.proofs.Common.{◌≡◌, ◌⊎◌, inl, inr, ℕ, zero, suc, ◌+◌, ◌*◌, ◌/◌, ◌%◌, ◌<◌, ◌≤◌, List, [], ◌∷◌, length}
use Rattle.std.proofs.Common.{Some, slice_get, Contains, refl, sym, ap, ◌∙◌, subst, arith}
use Rattle.std.specs.Prelude.{max, fold}
use Rattle.std.specs.List.{AllByRecursion as Every}
use Rattle.std.proofs.lemmas.Nat.{mul-le, le-div, div-add-mod'}
use Rattle.std.proofs.lemmas.List.Elements.{recursion_from_All, All-contains_itself}
use Rattle.std.proofs.lemmas.List.Kept.{AllPairs-from_increasing}
use Rattle.list_lemmas.proofs.Elements.{AllByRecursion-weaker, AllByRecursion-map}
use Rattle.list_lemmas.proofs.PairwiseProperties.{Pairs, pairs_weaker, pairs_map, pairs_from}
use Rattle.pals_base.specs.PeriodBoundAndReleases.{alarm, step_period, backoff}
use Rattle.pals_base.specs.UpwardNumbers.{upwards}
use Rattle.pals_model.specs.declared.design.Component.{Component}
use Rattle.pals_model.specs.declared.design.DesignParts.{DesignParts}
use Rattle.pals_model.specs.PortKindsAndRates.{rate_of, rate_in}
use Rattle.pals_model.specs.DesignRules.{IsDesign, IsComponent, greatest_rate}
use Rattle.pals_model.proofs.FirstMatches.{at_element}
use Rattle.pals_model.proofs.ShapeLaws.{component_at}
use Rattle.step_code.specs.proof.StackHeights.{Member}
use Rattle.round_budget.specs.Budgets.{Release, release_of, releases_of, releases_in, releases}
use Rattle.round_budget.specs.proof.BudgetLaws.{AreMembers}
use Rattle.round_budget.proofs.ListQuantifiers.{every_both, every_flat_map, every_upwards, pairs_flat_map}
use Rattle.round_budget.proofs.ListQuantifiers.{pairs_upwards, member_of}

-- ---- rates
first_le : (from : ℕ) (cs : List Component) → from ≤ fold (λ k (c : Component). max k c.rate) from cs
first_le from [] = omega arith
first_le from (c ∷ cs) = let later = first_le (max from c.rate) cs in omega (arith, later)

rate_le : (from : ℕ) (cs : List Component) (n : ℕ) (c : Component) → slice_get cs n ≡ Some c
    → c.rate ≤ fold (λ k (d : Component). max k d.rate) from cs
rate_le from [] n c is = absurd (cc)
rate_le from (d ∷ cs) zero c is =
    let same : d.rate ≡ c.rate = (let one : d ≡ c = cc in ap (λ (e : Component). e.rate) one) in
    let later = first_le (max from d.rate) cs in
    omega (arith, same, later)
rate_le from (d ∷ cs) (suc n) c is = rate_le (max from d.rate) cs n c is

pub record IsRate (period gap rate : ℕ) : Type 0 where
  pub some : 1 ≤ rate
  pub steps : rate * step_period period rate ≡ period
  pub long : gap ≤ step_period period rate
  pub real : 1 ≤ step_period period rate

positive : (p k t : ℕ) → p * k ≡ t → 1 ≤ t → 1 ≤ p
positive zero k t is real = omega arith
positive (suc p) k t is real = omega arith

rate_numbers : (t gap k greatest : ℕ) → 1 ≤ k → 1 ≤ t → t % k ≡ 0 → k ≤ greatest → greatest * gap ≤ t → IsRate t gap k
rate_numbers t gap k greatest some real divides below bound =
    let whole = div-add-mod' t k in
    let turned : k * (t / k) ≡ t / k * k = omega arith in
    let steps_is : t / k * k ≡ t = omega (arith, whole, divides) in
    let most : gap * k ≤ gap * greatest = mul-le gap k gap greatest (omega arith) below in
    let other : gap * greatest ≡ greatest * gap = omega arith in
    record {
      some = some;
      steps = turned ∙ steps_is;
      long = le-div gap t k (omega arith) (omega (arith, most, other, bound));
      real = positive (t / k) k t steps_is real;
    }

bound_of : (a b c t : ℕ) → max a b ≤ t → b ≤ t
bound_of a b c t most = omega arith

module _ (design : DesignParts) (sound : IsDesign design) where
  pub rate_fits : (node : ℕ) → node < length design.components
      → IsRate design.period design.gamma.alpha_max (rate_of design node)
  rate_fits node within =
      let at = component_at design node within in
      let c : Component = at.0 in
      let rules = at_element (IsComponent design.period) design.components node c sound.components.each at.1 in
      let some : 1 ≤ c.rate = rules.rate.0 in
      let real : 1 ≤ design.period = sound.period.0 in
      let below : c.rate ≤ greatest_rate design.components = rate_le 1 design.components node c at.1 in
      let g = design.gamma in
      let bound : greatest_rate design.components * g.alpha_max ≤ design.period =
      bound_of (g.mu_max + 2 * g.eps + max (backoff g) g.alpha_max) (greatest_rate design.components * g.alpha_max) 0
      design.period sound.bound in
      subst (λ o. IsRate design.period design.gamma.alpha_max (rate_in o)) (sym at.1)
      (rate_numbers design.period g.alpha_max c.rate (greatest_rate design.components) some real rules.divides
      below bound)

-- ---- products
step_on : (i k p : ℕ) → i < k → i * p + p ≤ k * p
step_on i k p less =
    let more : (i + 1) * p ≤ k * p = mul-le (i + 1) p k p (omega arith) (omega arith) in
    omega (arith, more)

alarm_on : (t r s : ℕ) → r < s → alarm t r + t ≤ alarm t s
alarm_on t r s less =
    let more : (r + 1 + 1) * t ≤ (s + 1) * t = mul-le (r + 1 + 1) t (s + 1) t (omega arith) (omega arith) in
    omega (arith, more)

-- ---- releases of one member are far apart
abbrev pub gap_of : DesignParts → ℕ → ℕ
gap_of design node = step_period design.period (rate_of design node)

pub record AreFar (design : DesignParts) (x y : Release) : Type 0 where
  pub far : x.node ≡ y.node → (x.time + gap_of design x.node ≤ y.time) ⊎ (y.time + gap_of design x.node ≤ x.time)

pub far_either : (design : DesignParts) (x y : Release) → AreFar design x y → AreFar design y x
far_either design x y apart = record {
  far = λ same. (let gap : gap_of design y.node ≡ gap_of design x.node = ap (gap_of design) same in
      elim (apart.far (sym same)) [
        | inl first ↦ inr (omega (arith, first, gap))
        | inr second ↦ inl (omega (arith, second, gap))
      ]);
}

-- a release belongs to a member, and its step's time is over before the next alarm
pub record IsRelease (design : DesignParts) (members : List ℕ) (x : Release) : Type 0 where
  pub member : Member members x.node
  pub within : x.node < length design.components
  pub ends : x.time + gap_of design x.node ≤ alarm design.period (suc x.round)

record IsOne (design : DesignParts) (members : List ℕ) (node : ℕ) : Type 0 where
  member : Member members node
  within : node < length design.components

module _ (design : DesignParts) (members : List ℕ) (sound : IsDesign design) (are : AreMembers design members) where
  each_one : Every (IsOne design members) members
  each_one =
      every_both (Contains members) (λ node. node < length design.components) (IsOne design members)
      (λ node among inside. record { member = member_of members node among; within = inside })
      members (recursion_from_All (Contains members) members (All-contains_itself members))
      (recursion_from_All (λ node. node < length design.components) members are.within)

  release_is : (round node step : ℕ) → IsOne design members node → step < rate_of design node
      → IsRelease design members (release_of design round node step)
  release_is round node step one less =
      let fit = rate_fits design sound node one.within in
      let on = step_on step (rate_of design node) (gap_of design node) less in
      let next = alarm_on design.period round (suc round) (omega arith) in
      let steps = fit.steps in
      record { member = one.member; within = one.within; ends = omega (arith, on, next, steps) }

  pub releases_are : (rounds : ℕ) → Every (IsRelease design members) (releases design members rounds)
  releases_are rounds =
      every_flat_map (IsRelease design members) (releases_in design members) (upwards 0 rounds)
      (every_upwards (λ round. Every (IsRelease design members) (releases_in design members round)) 0 rounds
      (λ round above below.
      every_flat_map (IsRelease design members) (releases_of design round) members
      (AllByRecursion-weaker (IsOne design members)
      (λ node. Every (IsRelease design members) (releases_of design round node))
      (λ node one.
      AllByRecursion-map (IsRelease design members) (release_of design round node) (upwards 0 (rate_of design node))
      (every_upwards (λ step. IsRelease design members (release_of design round node step)) 0 (rate_of design node)
      (λ step low high. release_is round node step one (omega (arith, high)))))
      members each_one)))

  -- two steps of one member in a round
  far_steps : (round node : ℕ) → Pairs (AreFar design) (releases_of design round node)
  far_steps round node =
      pairs_map (AreFar design) (release_of design round node) (upwards 0 (rate_of design node))
      (pairs_upwards (λ i j. AreFar design (release_of design round node i) (release_of design round node j)) 0
      (rate_of design node)
      (λ i j above less below.
      record { far = λ same. inl (let on = step_on i j (gap_of design node) less in omega (arith, on)) }))

  -- steps of two members
  far_members : (round a b : ℕ) → a < b
      → Every (λ u. Every (AreFar design u) (releases_of design round b)) (releases_of design round a)
  far_members round a b less =
      AllByRecursion-map (λ u. Every (AreFar design u) (releases_of design round b)) (release_of design round a)
      (upwards 0 (rate_of design a))
      (every_upwards (λ i. Every (AreFar design (release_of design round a i)) (releases_of design round b)) 0
      (rate_of design a)
      (λ i low high.
      AllByRecursion-map (AreFar design (release_of design round a i)) (release_of design round b)
      (upwards 0 (rate_of design b))
      (every_upwards (λ j. AreFar design (release_of design round a i) (release_of design round b j)) 0
      (rate_of design b)
      (λ j under over. record { far = λ same. absurd (omega (arith, same, less)) }))))

  far_round : (round : ℕ) → Pairs (AreFar design) (releases_in design members round)
  far_round round =
      pairs_flat_map (AreFar design) (releases_of design round) members
      (AllByRecursion-weaker (IsOne design members) (λ node. Pairs (AreFar design) (releases_of design round node))
      (λ node one. far_steps round node) members each_one)
      (pairs_weaker (λ a b. a < b)
      (λ a b. Every (λ u. Every (AreFar design u) (releases_of design round b)) (releases_of design round a))
      (λ a b less. far_members round a b less) members
      (pairs_from (λ a b. a < b) members (AllPairs-from_increasing members are.rising)))

  -- steps of two rounds
  pub record IsIn (round : ℕ) (x : Release) : Type 0 where
    pub is_release : IsRelease design members x
    pub begins : alarm design.period round ≤ x.time
    pub round_is : x.round ≡ round

  pub in_round : (round : ℕ) → Every (IsIn round) (releases_in design members round)
  in_round round =
      every_flat_map (IsIn round) (releases_of design round) members
      (AllByRecursion-weaker (IsOne design members) (λ node. Every (IsIn round) (releases_of design round node))
      (λ node one.
      AllByRecursion-map (IsIn round) (release_of design round node) (upwards 0 (rate_of design node))
      (every_upwards (λ step. IsIn round (release_of design round node step)) 0 (rate_of design node)
      (λ step low high. record {
        is_release = release_is round node step one (omega (arith, high));
        begins = omega arith;
        round_is = refl;
      })))
      members each_one)

  far_apart : (r s : ℕ) (x y : Release) → r < s → IsIn r x → IsIn s y → AreFar design x y
  far_apart r s x y less first second = record {
    far = λ same. inl (
        let ends = first.is_release.ends in
        let round : alarm design.period (suc x.round) ≡ alarm design.period (suc r) =
        ap (λ n. alarm design.period (suc n)) first.round_is in
        let later : alarm design.period (suc r) ≤ alarm design.period s =
        alarm_upto design.period (suc r) s (omega arith) in
        let starts = second.begins in
        omega (arith, ends, round, later, starts));
  }
    where
      alarm_upto : (t a b : ℕ) → a ≤ b → alarm t a ≤ alarm t b
      alarm_upto t a b below = mul-le (a + 1) t (b + 1) t (omega arith) (omega arith)

  far_rounds : (r s : ℕ) → r < s
      → Every (λ u. Every (AreFar design u) (releases_in design members s)) (releases_in design members r)
  far_rounds r s less =
      AllByRecursion-weaker (IsIn r) (λ u. Every (AreFar design u) (releases_in design members s))
      (λ u first. AllByRecursion-weaker (IsIn s) (AreFar design u) (λ v second. far_apart r s u v less first second)
      (releases_in design members s) (in_round s))
      (releases_in design members r) (in_round r)

  pub releases_are_far : (rounds : ℕ) → Pairs (AreFar design) (releases design members rounds)
  releases_are_far rounds =
      pairs_flat_map (AreFar design) (releases_in design members) (upwards 0 rounds)
      (every_upwards (λ round. Pairs (AreFar design) (releases_in design members round)) 0 rounds
      (λ round above below. far_round round))
      (pairs_upwards (λ r s. Every (λ u. Every (AreFar design u) (releases_in design members s))
      (releases_in design members r)) 0 rounds
      (λ r s above less below. far_rounds r s less))
