-- The targets of a node, one after another, do not fall.
use Rattle.std.proofs.Common.{◌≡◌, inl, inr, ◌⊎◌, ℕ, zero, suc, ◌+◌, ◌-◌, ◌*◌, ◌/◌, ◌<◌, ◌≤◌, nat_eq, nat_le, nat_lt}
use Rattle.std.proofs.Common.{Bool, true, false, not, ◌&&◌, ◌||◌, cond, List, length, slice_get, Option, Some, None}
use Rattle.std.proofs.Common.{refl, sym, ap, ap₂, ◌∙◌, subst, arith}
use Rattle.std.specs.Prelude.{if◌then◌else◌}
use Rattle.std.specs.Option.{option_map}
use Rattle.std.proofs.lemmas.Bool.{ltb-false, eqb-true, leb-true, false≢true, false_from_ne_true, cases_lt}
use Rattle.std.proofs.lemmas.Grind.{common_steps}
use Rattle.std.proofs.lemmas.Option.{same_Some}
use Rattle.list_lemmas.proofs.Booleans.{or_second}
use Rattle.pals_base.specs.declared.basic_types.PortValue.{PortValue}
use Rattle.pals_base.specs.PeriodBoundAndReleases.{step_period, sent_steps, alarm}
use Rattle.pals_model.specs.DesignRules.{IsComponent}
use Rattle.pals_model.proofs.FirstMatches.{at_element}
use Rattle.pals_runs.specs.declared.phase.Phase.{Phase}
use Rattle.pals_runs.specs.declared.phase.Phase.TheVariants.{Waiting, Running, Between, Holding, Done}
use Rattle.bus_machine.specs.declared.plan.Plan.{Plan}
use Rattle.bus_machine.specs.Plans.{plan_of, component_at}
use Rattle.bus_machine.specs.Nodes.{NodeState, round_of, at_rest}
use Rattle.bus_machine.specs.NodeEvents.{started, stepped, finished, sent_from, after_send, after_round}
use Rattle.bus_machine.specs.RunParameters.{Run}
use Rattle.bus_machine.specs.proof.AgreementLaws.{IsRunOf}
use Rattle.bus_machine.specs.declared.node_action.NodeAction.TheVariants as action
use Rattle.bus_machine.specs.ActionsAndTargets.{Progress, target, send_is_next, next_action, progress_after, action_in}
use Rattle.bus_machine.specs.ActionsAndTargets.{next_in}
use Rattle.run_laws.specs.NodeActions.{turn, progress_in, upcoming, Follows}
use Rattle.run_laws.proofs.ProgressByEvent.{turn_acts, turn_brings}

-- ---- the properties of a plan's times
pub record IsTimedPlan (plan : Plan) : Type 0 where
  pub last_sent : (plan.sent_steps - 1) * plan.step_period ≤ plan.release_offset
  pub release : plan.release_offset < plan.period
  pub steps : plan.rate * plan.step_period ≤ plan.period

-- a step that is not the last starts before the next alarm
pub step_below : (plan : Plan) (step : ℕ) → IsTimedPlan plan → step < plan.rate → step * plan.step_period ≤ plan.period
step_below plan step times within =
    let most : step * plan.step_period ≤ plan.rate * plan.step_period = grind (arith, common_steps) in
    let all = times.steps in
    omega arith

pub next_alarm : (period round : ℕ) → alarm period (round + 1) ≡ alarm period round + period
next_alarm period round = omega arith

-- ---- where the send comes next after a step, that step's target is no later
unsent_was : (x y : Bool) (z : Bool) → z ≡ false → (not z && x && y) ≡ false → (x ≡ false) ⊎ (y ≡ false)
unsent_was true true z unsent is = absurd (false≢true (sym is ∙ ap (λ b. not b && true && true) unsent))
unsent_was true false z unsent is = inr refl
unsent_was false y z unsent is = inl refl

or_true : (a b : Bool) → (a || b) ≡ false → b ≡ true → ⊥
or_true true b none is = false≢true (sym none)
or_true false b none is = false≢true (sym none ∙ is)

late_by : (plan : Plan) (steps : ℕ) → IsTimedPlan plan
    → (nat_le plan.sent_steps steps ≡ false)
    ⊎ ((nat_eq steps plan.rate || nat_le plan.release_offset (steps * plan.step_period)) ≡ false)
    → steps * plan.step_period ≤ plan.release_offset
late_by plan steps times (inl few) =
    let more : steps < plan.sent_steps = elim (cases_lt steps plan.sent_steps) [
      | inl below ↦ below
      | inr not_below ↦ absurd
          (false≢true (sym few ∙ (let yes' : nat_le plan.sent_steps steps ≡ true =
          grind (arith, common_steps) in yes')))
    ] in
    let most : steps * plan.step_period ≤ (plan.sent_steps - 1) * plan.step_period =
    (let le : steps ≤ plan.sent_steps - 1 = omega arith in grind (arith, common_steps)) in
    let last = times.last_sent in
    omega arith
late_by plan steps times (inr not_yet) = elim (cases_lt (steps * plan.step_period) plan.release_offset) [
  | inl below ↦ omega arith
  | inr over ↦ absurd (or_true (nat_eq steps plan.rate) (nat_le plan.release_offset (steps * plan.step_period)) not_yet
      (let yes' : nat_le plan.release_offset (steps * plan.step_period) ≡ true = grind (arith, common_steps) in yes'))
]

action_was : (plan : Plan) (p : Progress) (q : Progress) (step : ℕ) (send more : Bool) → IsTimedPlan plan
    → send_is_next plan p ≡ send
    → progress_after p (cond send (action.Send p.round)
    (cond more (action.Step p.round p.steps) (action.Start (p.round + 1)))) ≡ q → q.steps ≡ step + 1
    → q.sent ≡ false → step * plan.step_period ≤ plan.release_offset
action_was plan p q step true more times is after' steps unsent =
    absurd (let both : true ≡ q.sent = ap (λ (r : Progress). r.sent) after' in false≢true (sym unsent ∙ sym both))
action_was plan p q step false true times is after' steps unsent =
    let same : p.steps + 1 ≡ step + 1 = ap (λ (r : Progress). r.steps) after' ∙ steps in
    let this : p.steps ≡ step = omega arith in
    let sent : p.sent ≡ false = ap (λ (r : Progress). r.sent) after' ∙ unsent in
    subst (λ i. i * plan.step_period ≤ plan.release_offset) this
    (late_by plan p.steps times
    (unsent_was (nat_le plan.sent_steps p.steps)
    (nat_eq p.steps plan.rate || nat_le plan.release_offset (p.steps * plan.step_period)) p.sent sent is))
action_was plan p q step false false times is after' steps unsent =
    let one : 1 ≡ step + 1 = ap (λ (r : Progress). r.steps) after' ∙ steps in
    let none : step ≡ 0 = omega arith in
    let zero' : step * plan.step_period ≡ 0 = ap (λ i. i * plan.step_period) none ∙ omega arith in
    omega arith

turn_was : (plan : Plan) (before step : ℕ) → IsTimedPlan plan → (turn plan (suc before)).before.steps ≡ step + 1
    → (turn plan (suc before)).before.sent ≡ false → step * plan.step_period ≤ plan.release_offset
turn_was plan zero step times steps unsent =
    let none : step ≡ 0 = omega arith in
    let zero' : step * plan.step_period ≡ 0 = ap (λ i. i * plan.step_period) none ∙ omega arith in
    omega arith
turn_was plan (suc before) step times steps unsent =
    let p = (turn plan (suc before)).before in
    action_was plan p (turn plan (suc (suc before))).before step (send_is_next plan p)
    (nat_lt p.steps plan.rate) times refl
    (ap (progress_after p) (sym (turn_acts plan before)) ∙ sym (turn_brings plan (suc before))) steps unsent

pub step_was : (plan : Plan) (done : ℕ) (n : NodeState) (step : ℕ) → IsTimedPlan plan → Follows plan done n
    → n.phase ≡ Running step → n.sent ≡ false → step * plan.step_period ≤ plan.release_offset
step_was plan done n step times (inl first) runs unsent =
    absurd (let both : Running step ≡ Waiting = sym runs ∙ first.phase in cc)
step_was plan done n step times (inr some) runs unsent =
    let here : (turn plan (suc some.before)).before ≡ progress_in plan n (Running step) =
    ap (λ k. (turn plan k).before) (sym some.done_is) ∙ some.progress ∙ ap (progress_in plan n) runs in
    turn_was plan some.before step times (ap (λ (p : Progress). p.steps) here)
    (ap (λ (p : Progress). p.sent) here ∙ unsent)

-- ---- aims
abbrev pub aim_in : Plan → NodeState → Phase → Option ℕ
aim_in plan n p = option_map (target plan) (action_in plan n p)

abbrev pub Rises : Option ℕ → Option ℕ → Type 0
Rises a b = (later : ℕ) → b ≡ Some later → (now : ℕ) × (a ≡ Some now) × (now ≤ later)

rises_to : (a : Option ℕ) (b : Option ℕ) (now later : ℕ) → a ≡ Some now → b ≡ Some later → now ≤ later → Rises a b
rises_to a b now later is_a is_b most =
    λ t is. (now, is_a, (let same : later ≡ t = same_Some later t (sym is_b ∙ is) in omega arith))

rises_none : (a b : Option ℕ) → b ≡ None → Rises a b
rises_none a b none = λ t is. absurd (let both : None ≡ Some t = sym none ∙ is in cc)

pub same_aim : (a b : Option ℕ) → b ≡ a → Rises a b
same_aim a b same = λ t is. (t, sym same ∙ is, omega arith)

abbrev pub aim : Plan → NodeState → Option ℕ
aim plan n = aim_in plan n n.phase

-- ---- Start
pub start_rises : (plan : Plan) (n : NodeState) (values : List PortValue) → n.phase ≡ Waiting
    → Rises (aim plan n) (aim plan (started plan values n))
start_rises plan n values waits =
    let same : n.count + 1 - 1 ≡ n.count = omega arith in
    rises_to (aim plan n) (aim plan (started plan values n)) (alarm plan.period n.count) (alarm plan.period n.count)
    (ap (aim_in plan n) waits) (ap (λ r. Some (alarm plan.period r)) same) (omega arith)

-- ---- Step
running_target : (plan : Plan) (round step : ℕ) (b : Bool) → nat_eq step 0 ≡ b
    → target plan (if b then action.Start round else action.Step round step)
    ≡ alarm plan.period round + step * plan.step_period
running_target plan round step true is =
    let none : step ≡ 0 = eqb-true step 0 is in
    let zero' : step * plan.step_period ≡ 0 = ap (λ i. i * plan.step_period) none ∙ omega arith in
    omega arith
running_target plan round step false is = refl

pub running_aim : (plan : Plan) (n : NodeState) (step : ℕ)
    → aim_in plan n (Running step) ≡ Some (alarm plan.period (round_of n) + step * plan.step_period)
running_aim plan n step = ap Some (running_target plan (round_of n) step (nat_eq step 0) refl)

step_target : (plan : Plan) (p : Progress) (round step : ℕ) (send more : Bool)
    → cond send (action.Send p.round) (cond more (action.Step p.round p.steps) (action.Start (p.round + 1)))
    ≡ action.Step round step
    → target plan (cond send (action.Send p.round)
    (cond more (action.Step p.round p.steps) (action.Start (p.round + 1))))
    ≡ alarm plan.period p.round + p.steps * plan.step_period
step_target plan p round step true more is = absurd (cc)
step_target plan p round step false true is = refl
step_target plan p round step false false is = absurd (cc)

pub step_rises : (plan : Plan) (n : NodeState) (i round step : ℕ) → n.phase ≡ Between i
    → upcoming plan n ≡ Some (action.Step round step) → Rises (aim plan n) (aim plan (stepped i n))
step_rises plan n i round step between is =
    let p = progress_in plan n (Between i) in
    let what : next_action plan p ≡ action.Step round step = same_Some _ _ (sym (ap (next_in plan n) between) ∙ is) in
    let t = alarm plan.period (round_of n) + i * plan.step_period in
    rises_to (aim plan n) (aim plan (stepped i n)) t t
    (ap (aim_in plan n) between
    ∙ ap Some (step_target plan p round step (send_is_next plan p) (nat_lt p.steps plan.rate) what))
    (running_aim plan (stepped i n) i) (omega arith)

-- ---- Send
count_alarm : (plan : Plan) (n : NodeState) → 1 ≤ n.count
    → alarm plan.period n.count ≡ alarm plan.period (round_of n) + plan.period
count_alarm plan n some = let one : n.count ≡ round_of n + 1 = omega arith in
    ap (alarm plan.period) one ∙ next_alarm plan.period (round_of n)

yet : (x y z : Bool) → (not z && x && y) ≡ true → (z ≡ false) × (y ≡ true)
yet x y true is = absurd (false≢true is)
yet true true false is = (refl, refl)
yet true false false is = absurd (false≢true is)
yet false y false is = absurd (false≢true is)

after_steps : (plan : Plan) (round steps : ℕ) (more : Bool) → IsTimedPlan plan → nat_lt steps plan.rate ≡ more
    → steps < plan.rate → plan.release_offset ≤ steps * plan.step_period
    → alarm plan.period round + plan.release_offset
    ≤ target plan (cond more (action.Step round steps) (action.Start (round + 1)))
after_steps plan round steps true times is below most = omega arith
after_steps plan round steps false times is below most = absurd (let over = ltb-false steps plan.rate is in omega arith)

between_rises : (plan : Plan) (rounds : ℕ) (n : NodeState) (steps round : ℕ) (send more : Bool) → IsTimedPlan plan
    → steps < plan.rate
    → send_is_next plan (record { round = round_of n; steps = steps; sent = n.sent }) ≡ send
    → nat_lt steps plan.rate ≡ more
    → cond send (action.Send (round_of n)) (cond more (action.Step (round_of n) steps) (action.Start (round_of n + 1)))
    ≡ action.Send round
    → Rises (Some (target plan
    (cond send (action.Send (round_of n))
    (cond more (action.Step (round_of n) steps) (action.Start (round_of n + 1))))))
    (Some (target plan (cond more (action.Step (round_of n) steps) (action.Start (round_of n + 1)))))
between_rises plan rounds n steps round true more times below is lt action =
    let parts =
    yet (nat_le plan.sent_steps steps)
    (nat_eq steps plan.rate || nat_le plan.release_offset (steps * plan.step_period)) n.sent is in
    let other : nat_eq steps plan.rate ≡ false =
    false_from_ne_true (nat_eq steps plan.rate)
    (λ all. let same : steps ≡ plan.rate = eqb-true steps plan.rate all in absurd (omega arith)) in
    let most : plan.release_offset ≤ steps * plan.step_period =
    leb-true plan.release_offset (steps * plan.step_period)
    (or_second (nat_eq steps plan.rate) (nat_le plan.release_offset (steps * plan.step_period)) other parts.1) in
    rises_to _ _ (alarm plan.period (round_of n) + plan.release_offset) _ refl refl
    (after_steps plan (round_of n) steps more times lt below most)
between_rises plan rounds n steps round false true times below is lt action = absurd (cc)
between_rises plan rounds n steps round false false times below is lt action = absurd (cc)

held_rises : (plan : Plan) (n m : NodeState) (b : Bool) → IsTimedPlan plan → 1 ≤ n.count → m.count ≡ n.count
    → Rises (Some (alarm plan.period (round_of n) + plan.release_offset)) (aim_in plan m (at_rest b))
held_rises plan n m true times some count = rises_none _ _ refl
held_rises plan n m false times some count =
    let next = count_alarm plan n some in
    let within = times.release in
    rises_to _ _ (alarm plan.period (round_of n) + plan.release_offset) (alarm plan.period m.count) refl refl
    (let same : alarm plan.period m.count ≡ alarm plan.period n.count = ap (alarm plan.period) count in omega arith)

-- the properties of the steps in a phase
abbrev pub Steps : Plan → NodeState → Phase → Type 0
Steps plan n Waiting = Unit {0}
Steps plan n (Running step) = step < plan.rate
Steps plan n (Between steps) = steps < plan.rate
Steps plan n Holding = Unit {0}
Steps plan n Done = Unit {0}

sends_by : (plan : Plan) (rounds : ℕ) (n : NodeState) (p : Phase) (round : ℕ) → IsTimedPlan plan → 1 ≤ n.count
    → Steps plan n p → next_in plan n p ≡ Some (action.Send round)
    → Rises (aim_in plan n p) (aim_in plan (sent_from rounds n) (after_send n.count rounds p))
sends_by plan rounds n Waiting round times some steps is =
    absurd (let both : action.Start n.count ≡ action.Send round = same_Some _ _ is in cc)
sends_by plan rounds n (Running step) round times some steps is = absurd (cc)
sends_by plan rounds n (Between i) round times some steps is =
    let p = progress_in plan n (Between i) in
    between_rises plan rounds n i round (send_is_next plan p) (nat_lt i plan.rate) times steps refl refl
    (same_Some _ _ is)
sends_by plan rounds n Holding round times some steps is =
    held_rises plan n (sent_from rounds n) (nat_eq n.count rounds) times some refl
sends_by plan rounds n Done round times some steps is = absurd (cc)

pub send_rises : (plan : Plan) (rounds : ℕ) (n : NodeState) (round : ℕ) → IsTimedPlan plan → 1 ≤ n.count
    → Steps plan n n.phase → upcoming plan n ≡ Some (action.Send round)
    → Rises (aim plan n) (aim plan (sent_from rounds n))
send_rises plan rounds n round times some steps is = sends_by plan rounds n n.phase round times some steps is

-- ---- Finish
goes_between : (plan : Plan) (n : NodeState) (step : ℕ) (send more : Bool) → IsTimedPlan plan → step < plan.rate
    → send_is_next plan (record { round = round_of n; steps = step + 1; sent = n.sent }) ≡ send
    → (n.sent ≡ false → step * plan.step_period ≤ plan.release_offset)
    → alarm plan.period (round_of n) + step * plan.step_period
    ≤ target plan (cond send (action.Send (round_of n))
    (cond more (action.Step (round_of n) (step + 1)) (action.Start (round_of n + 1))))
goes_between plan n step true more times within is late =
    let parts =
    yet (nat_le plan.sent_steps (step + 1))
    (nat_eq (step + 1) plan.rate || nat_le plan.release_offset ((step + 1) * plan.step_period)) n.sent is in
    let most = late parts.0 in
    omega arith
goes_between plan n step false true times within is late =
    let next : (step + 1) * plan.step_period ≡ step * plan.step_period + plan.step_period = omega arith in
    omega arith
goes_between plan n step false false times within is late =
    let most = step_below plan step times within in
    let next = next_alarm plan.period (round_of n) in
    omega arith

ends_by : (plan : Plan) (n y : NodeState) (step : ℕ) (sent b : Bool) → IsTimedPlan plan → 1 ≤ n.count → step < plan.rate
    → n.sent ≡ sent → y.count ≡ n.count → (n.sent ≡ false → step * plan.step_period ≤ plan.release_offset)
    → Rises (Some (alarm plan.period (round_of n) + step * plan.step_period))
    (aim_in plan y (if sent then at_rest b else Holding))
ends_by plan n y step true true times some within is count late = rises_none _ _ refl
ends_by plan n y step true false times some within is count late =
    let most = step_below plan step times within in
    let next = count_alarm plan n some in
    rises_to _ _ (alarm plan.period (round_of n) + step * plan.step_period) (alarm plan.period y.count) refl refl
    (let same : alarm plan.period y.count ≡ alarm plan.period n.count = ap (alarm plan.period) count in omega arith)
ends_by plan n y step false b times some within is count late =
    let most = late is in
    rises_to _ _ (alarm plan.period (round_of n) + step * plan.step_period)
    (alarm plan.period (y.count - 1) + plan.release_offset) refl refl
    (let same : alarm plan.period (y.count - 1) ≡ alarm plan.period (n.count - 1) =
    ap (λ c. alarm plan.period (c - 1)) count in omega arith)

finish_by : (plan : Plan) (rounds : ℕ) (n x y : NodeState) (step : ℕ) (b : Bool) → IsTimedPlan plan → 1 ≤ n.count
    → step < plan.rate → (n.sent ≡ false → step * plan.step_period ≤ plan.release_offset)
    → x.phase ≡ Between (step + 1) → x.count ≡ n.count → x.sent ≡ n.sent → y.phase ≡ after_round rounds n
    → y.count ≡ n.count
    → Rises (Some (alarm plan.period (round_of n) + step * plan.step_period)) (aim plan (cond b x y))
finish_by plan rounds n x y step true times some within late xp xc xs yp yc =
    let p = progress_in plan n (Between (step + 1)) in
    let same : aim plan x ≡ Some (target plan (next_action plan p)) = ap (aim_in plan x) xp
    ∙ ap₂ (λ c sent. Some (target plan
    (next_action plan (record { round = c - 1; steps = step + 1; sent = sent })))) xc xs in
    rises_to _ _ (alarm plan.period (round_of n) + step * plan.step_period) (target plan (next_action plan p)) refl same
    (goes_between plan n step (send_is_next plan p) (nat_lt (step + 1) plan.rate) times within refl late)
finish_by plan rounds n x y step false times some within late xp xc xs yp yc =
    subst (λ o. Rises (Some (alarm plan.period (round_of n) + step * plan.step_period)) o) (sym (ap (aim_in plan y) yp))
    (ends_by plan n y step n.sent (nat_eq n.count rounds) times some within refl yc late)

pub finish_rises : (plan : Plan) (rounds : ℕ) (n : NodeState) (step : ℕ) → IsTimedPlan plan → 1 ≤ n.count
    → step < plan.rate → n.phase ≡ Running step → (n.sent ≡ false → step * plan.step_period ≤ plan.release_offset)
    → Rises (aim plan n) (aim plan (finished plan rounds step n))
finish_rises plan rounds n step times some within runs late =
    subst (λ o. Rises o (aim plan (finished plan rounds step n)))
    (sym (ap (aim_in plan n) runs ∙ running_aim plan n step))
    (finish_by plan rounds n _ _ step (nat_lt (step + 1) plan.rate) times some within late refl refl refl refl refl)

-- ---- a design's plans
below_period : (few rate each period : ℕ) → few ≤ rate → 1 ≤ rate → 1 ≤ period → rate * each ≤ period
    → (few - 1) * each < period
below_period few rate zero period most some long all = let none : (few - 1) * 0 ≡ 0 = omega arith in omega arith
below_period few rate (suc each) period most some long all =
    let less : few - 1 ≤ rate - 1 = omega arith in
    let le : (few - 1) * suc each ≤ (rate - 1) * suc each = grind (arith, common_steps) in
    let one : rate ≡ (rate - 1) + 1 = omega arith in
    let whole : rate * suc each ≡ (rate - 1) * suc each + suc each = ap (λ r. r * suc each) one ∙ omega arith in
    omega arith

pub plan_times : (run : Run) (node : ℕ) → IsRunOf run → node < length run.design.components
    → slice_get run.design.components node ≡ Some (component_at run.design node) → IsTimedPlan (plan_of run.design node)
plan_times run node rules within is =
    let g = run.design.gamma in
    let c = component_at run.design node in
    let rule =
    at_element (IsComponent run.design.period) run.design.components node c rules.design.components.each is in
    let some = rule.rate.0 in
    let long = rules.design.period.0 in
    let skew = rules.design.gamma.skew.0 in
    let bound = rules.design.bound in
    let few : sent_steps g run.design.period c.rate ≤ c.rate = omega arith in
    let all : c.rate * (run.design.period / c.rate) ≤ run.design.period = omega arith in
    let last : (sent_steps g run.design.period c.rate - 1) * step_period run.design.period c.rate < run.design.period =
    below_period (sent_steps g run.design.period c.rate) c.rate (step_period run.design.period c.rate)
    run.design.period few some long all in
    record {
      last_sent = omega arith;
      release = omega arith;
      steps = all;
    }
