-- Each run has one schedule: nothing comes after the last round, so its list of moments exists; and it is the only
-- one.
use Rattle.std.proofs.Common.{◌≡◌, ◌≢◌, inl, inr, ℕ, zero, suc, ◌+◌, ◌*◌, ◌<◌, ◌≤◌, nat_eq, Bool, true, false, List, []}
use Rattle.std.proofs.Common.{◌∷◌, ◌++◌, length, Option, Some, None, refl, sym, ap, ◌∙◌, subst, arith}
use Rattle.std.specs.Prelude.{flat_map, if◌then◌else◌}
use Rattle.std.proofs.lemmas.Bool.{cases_eq, cases_order}
use Rattle.std.proofs.lemmas.Nat.{mul-le}
use Rattle.pals_base.specs.PeriodBoundAndReleases.{alarm}
use Rattle.pals_base.specs.UpwardNumbers.{upwards}
use Rattle.pals_model.specs.declared.design.DesignParts.{DesignParts}
use Rattle.pals_runs.specs.declared.events_and_faults.Event.{Event}
use Rattle.pals_runs.specs.declared.events_and_faults.Event.TheVariants as event
use Rattle.bus_machine.specs.Plans.{plan_of, link_at}
use Rattle.bus_machine.specs.RunParameters.{Run}
use Rattle.bus_machine.specs.proof.AgreementLaws.{IsRunOf}
use Rattle.world_gen.specs.proof.ScheduleLaws.{MomentsExist, MomentsAreOne}
use Rattle.world_gen.specs.proof.Schedules.{step_time, finish_time, send_time, arrive_time, number_at_moment}
use Rattle.world_gen.specs.proof.Schedules.{event_list, all_of}
use Rattle.world_gen.specs.proof.Schedules.{step_count, begins, starts_at, finishes_at, sends_at, arrivals_at, finishes}
use Rattle.world_gen.specs.proof.Schedules.{earlier_finishes, present_finishes, events_at, AreMoments}
use Rattle.run_laws.proofs.TimeArithmetic.{alarm_more}
use Rattle.run_laws.proofs.WorldLinkTiming.{rule_of}
use Rattle.world_gen.proofs.ScheduleTimes.{fit, whole, which_is, step_at, least_step}

-- ---- no event follows the last round
pub late_none : (time : ℕ → ℕ) (count moment : ℕ) (o : Option ℕ) → number_at_moment time count moment ≡ o
    → ((number : ℕ) → number < count → time number < moment) → o ≡ None
late_none time count moment None is early = refl
late_none time count moment (Some number) is early =
    let at = which_is time count moment number is in
    let before = early number at.0 in
    let now = at.1 in
    absurd (omega arith)

pub nothing_of : (o : Option ℕ) (e : ℕ → Event) → o ≡ None → event_list o e ≡ []
nothing_of o e is = ap (λ x. event_list x e) is

pub nil_both : (xs ys : List Event) → xs ≡ [] → ys ≡ [] → xs ++ ys ≡ []
nil_both xs ys one two = ap (λ l. l ++ ys) one ∙ two

nothing_upwards : (f : ℕ → List Event) (from n count : ℕ) → from + n ≡ count → ((j : ℕ) → j < count → f j ≡ [])
    → flat_map f (upwards from n) ≡ []
nothing_upwards f from zero count is none = refl
nothing_upwards f from (suc n) count is none =
    nil_both (f from) (flat_map f (upwards (suc from) n)) (none from (omega arith))
    (nothing_upwards f (suc from) n count (omega arith) none)

pub nothing_all : (count : ℕ) (f : ℕ → List Event) → ((j : ℕ) → j < count → f j ≡ []) → all_of count f ≡ []
nothing_all count f none = nothing_upwards f 0 count count (omega arith) none

pub if_nothing : (b : Bool) (all : List Event) → all ≡ [] → (if b then [] else all) ≡ []
if_nothing true all none = refl
if_nothing false all none = none

pub if_nothing_now : (b : Bool) (all : List Event) → all ≡ [] → (if b then all else []) ≡ []
if_nothing_now true all none = none
if_nothing_now false all none = refl

module _ (run : Run) (rules : IsRunOf run) where
  abbrev last : ℕ
  last = alarm run.design.period run.rounds

  step_early : (j : ℕ) → j < length run.design.components → (number : ℕ) → number < step_count run.design run.rounds j
      → step_time run.design j number + (plan_of run.design j).step_period ≤ last
  step_early j below number few =
      let one = step_at run rules j below number in
      let all = whole run rules j below in
      let more : (number + 1) * (plan_of run.design j).step_period ≤ step_count run.design run.rounds j *
      (plan_of run.design j).step_period =
      mul-le (number + 1) (plan_of run.design j).step_period (step_count run.design run.rounds j)
      (plan_of run.design j).step_period (omega arith) (omega arith) in
      let rounds : run.rounds * ((plan_of run.design j).rate * (plan_of run.design j).step_period)
      ≡ run.rounds * run.design.period = ap (λ x. run.rounds * x) all in
      omega arith

  send_early : (j : ℕ) → j < length run.design.components → (round : ℕ) → round < run.rounds
      → send_time run.design j round + run.design.gamma.mu_min < last
  send_early j below round few =
      let f = fit run rules j below in
      let r = f.release in
      let x = f.executed in
      let skew = f.skew in
      let alpha = rules.design.gamma.execution.0 in
      let mu = rules.design.gamma.network.0 in
      let before : alarm run.design.period (suc round) ≤ last =
      alarm_more run.design.period (suc round) run.rounds (omega arith) in
      omega arith

  pub nothing_late : (moment : ℕ) → last < moment → events_at run.design run.rounds moment ≡ []
  nothing_late moment late =
      let design = run.design in
      let rounds = run.rounds in
      let count = length design.components in
      let ends : finishes design rounds moment ≡ [] =
      nothing_all count (finishes_at design rounds moment)
      (λ j below. nothing_of (number_at_moment (finish_time design j) (step_count design rounds j) moment)
      (λ number. event.Finish (record { 0 = j }))
      (late_none (finish_time design j) (step_count design rounds j) moment
      (number_at_moment (finish_time design j) (step_count design rounds j) moment) refl
      (λ number few. let early = step_early j below number few in let least = least_step run rules j below in
      omega arith))) in
      nil_both (earlier_finishes design rounds moment) _
      (if_nothing (nat_eq design.gamma.alpha_min 0) (finishes design rounds moment) ends)
      (nil_both (all_of count (starts_at design rounds moment)) _
      (nothing_all count (starts_at design rounds moment)
      (λ j below. nothing_of (number_at_moment (step_time design j) (step_count design rounds j) moment)
      (begins (plan_of design j).rate j)
      (late_none (step_time design j) (step_count design rounds j) moment
      (number_at_moment (step_time design j) (step_count design rounds j) moment) refl
      (λ number few. let early = step_early j below number few in omega arith))))
      (nil_both (present_finishes design rounds moment) _
      (if_nothing_now (nat_eq design.gamma.alpha_min 0) (finishes design rounds moment) ends)
      (nil_both (all_of count (sends_at design rounds moment))
      (all_of (length design.links) (arrivals_at design rounds moment))
      (nothing_all count (sends_at design rounds moment)
      (λ j below. nothing_of (number_at_moment (send_time design j) rounds moment)
      (λ round. event.Send (record { 0 = j }))
      (late_none (send_time design j) rounds moment (number_at_moment (send_time design j) rounds moment) refl
      (λ round few. let early = send_early j below round few in omega arith))))
      (nothing_all (length design.links) (arrivals_at design rounds moment)
      (λ l below. nothing_of (number_at_moment (arrive_time design l) rounds moment)
      (λ round. event.Arrive (record { 0 = l }) round)
      (late_none (arrive_time design l) rounds moment (number_at_moment (arrive_time design l) rounds moment) refl
      (λ round few. let early =
      send_early (link_at design l).source.0 (rule_of run l rules below).source.node_is round few in
      omega arith)))))))

-- ---- the list
earlier : (design : DesignParts) (rounds from : ℕ) (moments : List ℕ) → events_at design rounds from ≡ []
    → AreMoments design rounds (suc from) moments → AreMoments design rounds from moments
earlier design rounds from [] none quiet = λ time above. elim (cases_eq from time) [
  | inl same ↦ subst (λ t. events_at design rounds t ≡ []) same none
  | inr other ↦ quiet time (omega arith)
]
earlier design rounds from (moment ∷ later) none order =
    let ahead : suc from ≤ moment = order.0 in (
      omega arith,
      λ time above below. elim (cases_eq from time) [
        | inl same ↦ subst (λ t. events_at design rounds t ≡ []) same none
        | inr other ↦ order.1 time (omega arith) below
      ],
      order.2,
      order.3,
    )

some_events : (e : Event) (es events : List Event) → events ≡ e ∷ es → events ≢ []
some_events e es events is none = let both : e ∷ es ≡ [] = sym is ∙ none in cc

one_more : (design : DesignParts) (rounds from : ℕ) (events : List Event) → events_at design rounds from ≡ events
    → (moments : List ℕ) × AreMoments design rounds (suc from) moments
    → (moments : List ℕ) × AreMoments design rounds from moments
one_more design rounds from [] is rest = (rest.0, earlier design rounds from rest.0 is rest.1)
one_more design rounds from (e ∷ es) is rest = (
  from ∷ rest.0,
  (
    omega arith,
    λ time above below. absurd (omega arith),
    some_events e es (events_at design rounds from) is,
    rest.1,
  ),
)

moments_up_to : (design : DesignParts) (rounds end n from : ℕ) → from + n ≡ end
    → ((time : ℕ) → end ≤ time → events_at design rounds time ≡ [])
    → (moments : List ℕ) × AreMoments design rounds from moments
moments_up_to design rounds end zero from is quiet = ([], λ time above. quiet time (omega arith))
moments_up_to design rounds end (suc n) from is quiet =
    one_more design rounds from (events_at design rounds from) refl
    (moments_up_to design rounds end n (suc from) (omega arith) quiet)

pub moments_exist : MomentsExist
moments_exist run rules =
    let end = suc (alarm run.design.period run.rounds) in
    moments_up_to run.design run.rounds end end 0 (omega arith)
    (λ time above. nothing_late run rules time (omega arith))

-- ---- it is one
one_list : (design : DesignParts) (rounds from : ℕ) (moments others : List ℕ) → AreMoments design rounds from moments
    → AreMoments design rounds from others → moments ≡ others
one_list design rounds from [] [] x y = refl
one_list design rounds from [] (other ∷ others) x y = absurd (y.2 (x other y.0))
one_list design rounds from (moment ∷ moments) [] x y = absurd (x.2 (y moment x.0))
one_list design rounds from (moment ∷ moments) (other ∷ others) x y = elim (cases_order moment other) [
  | inl same ↦
      let rest =
      one_list design rounds (suc moment) moments others x.3
      (subst (λ m. AreMoments design rounds (suc m) others) (sym same) y.3) in
      ap (λ m. m ∷ moments) same ∙ ap (λ ms. other ∷ ms) rest
  | inr apart ↦ elim apart [
    | inl before ↦ absurd (x.2 (y.1 moment x.0 before))
    | inr after ↦ absurd (y.2 (x.1 other y.0 after))
  ]
]

pub moments_are_one : MomentsAreOne
moments_are_one design rounds moments others x y = one_list design rounds 0 moments others x y
