-- The times of the events of a schedule, as numbers, and which of them is at a moment.
use Rattle.std.proofs.Common.{◌≡◌, inl, inr, ℕ, suc, ◌+◌, ◌*◌, ◌/◌, ◌%◌, ◌<◌, ◌≤◌, nat_eq, length, Option, Some, None}
use Rattle.std.proofs.Common.{refl, sym, ap, ap₂, ◌∙◌, arith}
use Rattle.std.proofs.lemmas.Bool.{cases_lt, cases_order, eqb-true, eq-eqb, false≢true}
use Rattle.std.proofs.lemmas.Nat.{mul-le, div-mul-add, mod-mul-add, div-add-mod'}
use Rattle.pals_base.specs.PeriodBoundAndReleases.{alarm}
use Rattle.pals_base.specs.UpwardNumbers.{upwards}
use Rattle.pals_base.proofs.UpwardNumbers.{slice_get-upwards, upwards_is}
use Rattle.pals_model.specs.DesignRules.{IsComponent}
use Rattle.pals_model.proofs.FirstMatches.{at_element, found_at}
use Rattle.bus_machine.specs.Plans.{plan_of, component_at}
use Rattle.bus_machine.specs.RunParameters.{Run}
use Rattle.bus_machine.specs.proof.AgreementLaws.{IsRunOf}
use Rattle.bus_machine.proofs.ListsAndOldestCopies.{none_found}
use Rattle.world_gen.specs.proof.Schedules.{step_time, finish_time, send_time, number_at_moment}
use Rattle.run_laws.proofs.WorldNodeTiming.{FitsAt, fits_at}
use Rattle.run_laws.proofs.NodePicksAndRunReplay.{component_is}

-- ---- which one
pub which_is : (time : ℕ → ℕ) (count moment number : ℕ) → number_at_moment time count moment ≡ Some number
    → (number < count) × (time number ≡ moment)
which_is time count moment number is =
    let found = found_at (λ k. nat_eq (time k) moment) (upwards 0 count) number is in
    let at = upwards_is 0 count number found.0 found.1 in
    let same : found.0 ≡ number = let one = at.0 in omega arith in
    (at.1, eqb-true (time number) moment (ap (λ k. nat_eq (time k) moment) (sym same) ∙ found.2))

pub which_none : (time : ℕ → ℕ) (count moment : ℕ) → number_at_moment time count moment ≡ None → (number : ℕ)
    → number < count
    → time number ≡ moment → ⊥
which_none time count moment none number below is =
    let fails =
    none_found (λ k. nat_eq (time k) moment) (upwards 0 count) number number none
    (slice_get-upwards count number below) in
    false≢true (sym fails ∙ eq-eqb (time number) moment is)

-- ---- one after another, each later than the one before
-- how many of them come before a time
pub record CountBefore (time : ℕ → ℕ) (count made bound : ℕ) : Type 0 where
  pub before : (number : ℕ) → number < count → number < made → time number < bound
  pub after : (number : ℕ) → number < count → made ≤ number → bound ≤ time number

-- if no event is between two times, the same number of events is before both
pub made_later : (time : ℕ → ℕ) (count made bound later : ℕ) → bound ≤ later
    → ((number : ℕ) → number < count → bound ≤ time number → time number < later → ⊥)
    → CountBefore time count made bound → CountBefore time count made later
made_later time count made bound later forward quiet m = record {
  before = λ number below is. let b = m.before number below is in omega arith;
  after =
      λ number below is. elim (cases_lt (time number) later)
      [ inl between ↦ absurd (quiet number below (m.after number below is) between) | inr past ↦ past ];
}

-- at a moment at which none comes
pub made_none : (time : ℕ → ℕ) (count made moment : ℕ) → number_at_moment time count moment ≡ None
    → CountBefore time count made moment
    → CountBefore time count made (suc moment)
made_none time count made moment none m =
    made_later time count made moment (suc moment) (omega arith)
    (λ number below from to. which_none time count moment none number below (omega arith)) m

-- the one that comes is the next
pub which_next : (time : ℕ → ℕ) (count made moment number : ℕ) → ((a b : ℕ) → a < b → time a < time b)
    → number_at_moment time count moment ≡ Some number → CountBefore time count made moment
    → number ≡ made
which_next time count made moment number rises is m =
    let at = which_is time count moment number is in
    let below = at.0 in
    let now = at.1 in
    elim (cases_order number made) [
      | inl same ↦ same
      | inr apart ↦ elim apart [
        | inl done ↦ let early = m.before number below done in absurd (omega arith)
        | inr ahead ↦
            let less = rises made number ahead in
            let late = m.after made (omega arith) (omega arith) in
            absurd (omega arith)
      ]
    ]

pub made_next : (time : ℕ → ℕ) (count made moment : ℕ) → ((a b : ℕ) → a < b → time a < time b) → time made ≡ moment
    → CountBefore time count made moment → CountBefore time count (suc made) (suc moment)
made_next time count made moment rises now m = record {
  before = λ number below is. elim (cases_order number made) [
    | inl same ↦ let at : time number ≡ time made = ap time same in omega arith
    | inr apart ↦ elim apart [
      | inl less ↦ let b = m.before number below less in omega arith
      | inr more ↦ absurd (omega arith)
    ]
  ];
  after = λ number below is. let less = rises made number (omega arith) in omega arith;
}

which_not : (time : ℕ → ℕ) (count moment : ℕ) (o : Option ℕ) → number_at_moment time count moment ≡ o
    → ((number : ℕ) → number < count → time number ≡ moment → ⊥) → o ≡ None
which_not time count moment None is never = refl
which_not time count moment (Some number) is never = let at = which_is time count moment number is in
    absurd (never number at.0 at.1)

-- none comes before the next one
pub which_gap : (time : ℕ → ℕ) (count made bound moment : ℕ) → ((a b : ℕ) → a < b → time a < time b)
    → CountBefore time count made bound → bound ≤ moment
    → moment < time made → number_at_moment time count moment ≡ None
which_gap time count made bound moment rises m above below =
    which_not time count moment (number_at_moment time count moment) refl
    (λ number few now. elim (cases_order number made) [
      | inl same ↦ let at : time number ≡ time made = ap time same in absurd (omega arith)
      | inr apart ↦ elim apart [
        | inl less ↦ let early = m.before number few less in absurd (omega arith)
        | inr more ↦ let late = rises made number more in absurd (omega arith)
      ]
    ])

-- nor if all have occurred
pub which_over : (time : ℕ → ℕ) (count made bound moment : ℕ) → CountBefore time count made bound → count ≤ made
    → bound ≤ moment → number_at_moment time count moment ≡ None
which_over time count made bound moment m over above =
    which_not time count moment (number_at_moment time count moment) refl
    (λ number few now. let early = m.before number few (omega arith) in absurd (omega arith))

-- ---- the times of a run's nodes
module _ (run : Run) (rules : IsRunOf run) (node : ℕ) (within : node < length run.design.components) where
  abbrev t : ℕ
  t = run.design.period

  abbrev k : ℕ
  k = (plan_of run.design node).rate

  abbrev p : ℕ
  p = (plan_of run.design node).step_period

  pub fit : FitsAt run node
  fit = fits_at run node rules within

  pub whole : k * p ≡ t
  whole =
      let is =
      at_element (IsComponent run.design.period) run.design.components node (component_at run.design node)
      rules.design.components.each (component_is run node within) in
      let divides = is.divides in
      let some = is.rate.0 in
      let parts : t / k * k + t % k ≡ t = div-add-mod' t k in
      omega arith

  pub some_rate : 1 ≤ k
  some_rate = let one = fit.some in let all = fit.all in omega arith

  pub some_step : 1 ≤ p
  some_step = elim (cases_lt 0 p) [
    | inl some ↦ some
    | inr none ↦
        let all = whole in
        let long = rules.design.period.0 in
        let zero_steps : p ≡ 0 = omega arith in
        let none_left : k * 0 ≡ 0 = omega arith in
        let product : k * p ≡ 0 = ap (λ x. k * x) zero_steps ∙ none_left in
        absurd (omega arith)
  ]

  pub step_is : (q i : ℕ) → i < k → step_time run.design node (q * k + i) ≡ alarm t q + i * p
  step_is q i below = ap₂ (λ (a b : ℕ). alarm t a + b * p) (div-mul-add q k i below) (mod-mul-add q k i below)

  pub step_at : (number : ℕ) → step_time run.design node number ≡ t + number * p
  step_at number =
      let parts : number / k * k + number % k ≡ number = div-add-mod' number k in
      let all = whole in
      let product : number * p ≡ (number / k * k + number % k) * p = ap (λ x. x * p) (sym parts) in
      let rounds : number / k * (k * p) ≡ number / k * t = ap (λ x. number / k * x) all in
      omega arith

  pub steps_rise : (a b : ℕ) → a < b → step_time run.design node a < step_time run.design node b
  steps_rise a b less =
      let one = step_at a in
      let two = step_at b in
      let some = some_step in
      let more : (a + 1) * p ≤ b * p = mul-le (a + 1) p b p (omega arith) (omega arith) in
      omega arith

  pub finishes_rise : (a b : ℕ) → a < b → finish_time run.design node a < finish_time run.design node b
  finishes_rise a b less = let more = steps_rise a b less in omega arith

  -- a step is finished before the next begins, or with it
  pub next_step_after : (a : ℕ) → step_time run.design node (suc a) ≡ step_time run.design node a + p
  next_step_after a = let one = step_at a in let two = step_at (suc a) in omega arith

  pub least_step : run.design.gamma.alpha_min ≤ p
  least_step = let one = fit.executes in let range = rules.design.gamma.execution.0 in omega arith

  pub sends_rise : (a b : ℕ) → a < b → send_time run.design node a < send_time run.design node b
  sends_rise a b less =
      let long = rules.design.period.0 in
      let more : (a + 2) * t ≤ (b + 1) * t = mul-le (a + 2) t (b + 1) t (omega arith) (omega arith) in
      omega arith

  -- a round goes out within its round
  pub send_before : (round : ℕ) → send_time run.design node round < alarm t (suc round)
  send_before round =
      let r = fit.release in
      let x = fit.executed in
      let skew = fit.skew in
      let range = rules.design.gamma.execution.0 in
      omega arith

  pub send_after : (round : ℕ) → alarm t round ≤ send_time run.design node round
  send_after round = omega arith
