-- The nodes of a world relative to its time: no node is past the next round's alarm by the skew, and every unsent
-- round has time left.
use Rattle.std.proofs.Common.{◌≡◌, ◌≢◌, ◌⊎◌, inl, inr, ℕ, zero, suc, ◌+◌, ◌-◌, ◌<◌, ◌≤◌, Bool, true, false, List, []}
use Rattle.std.proofs.Common.{◌∷◌, length, slice_get, Option, Some, None, refl, sym, ap, ◌∙◌, subst, arith}
use Rattle.std.specs.Prelude.{max, min, not, nat_le, if◌then◌else◌, fold}
use Rattle.std.specs.Option.{option_map_or}
use Rattle.std.proofs.lemmas.Bool.{and_from, and_parts, not-true, leb-true, le-leb, cases_lt, false≢true}
use Rattle.pals_base.specs.declared.period_bound_and_releases.Gamma.{Gamma}
use Rattle.pals_base.specs.PeriodBoundAndReleases.{alarm}
use Rattle.pals_model.specs.declared.design.Component.{Component}
use Rattle.pals_model.specs.DesignRules.{IsComponent, greatest_rate}
use Rattle.pals_model.proofs.FirstMatches.{at_element}
use Rattle.pals_runs.specs.declared.phase.Phase.{Phase}
use Rattle.pals_runs.specs.declared.phase.Phase.TheVariants.{Waiting, Running, Between, Holding, Done}
use Rattle.bound_checker.specs.proof.MessageTimes.{IsNear}
use Rattle.bus_machine.specs.declared.plan.Plan.{Plan}
use Rattle.bus_machine.specs.Plans.{plan_of, component_at}
use Rattle.bus_machine.specs.Nodes.{NodeState, round_of, finished_steps, sent_rounds}
use Rattle.bus_machine.specs.NodeEvents.{may_send}
use Rattle.bus_machine.specs.AlarmsAndReleases.{start_alarm, step_alarm, release_reading}
use Rattle.bus_machine.specs.BusStates.{node_at}
use Rattle.bus_machine.specs.RunParameters.{Run}
use Rattle.bus_machine.specs.Agreement.{PhaseAgrees}
use Rattle.bus_machine.specs.proof.AgreementLaws.{IsRunOf}
use Rattle.run_laws.specs.Worlds.{World, reading_at, since_at, ready_at, sendings}
use Rattle.run_laws.specs.Deadlines.{last_before, lesser, phase_deadline, node_deadline}
use Rattle.run_laws.specs.proof.WorldInvariant.{KeepsDeadline, KeepsNode, KeepsSends, KeepsTime}
use Rattle.run_laws.proofs.TimeArithmetic.{Fits, fits, alarm_next, alarm_after, next_after_skew, late_running}
use Rattle.run_laws.proofs.TimeArithmetic.{late_between, unsent_running, unsent_between, unsent_ready}
use Rattle.run_laws.proofs.NodePicksAndRunReplay.{component_is}

-- ---- last allowed times
pub left_in_time : (t a : ℕ) (b : Option ℕ) → KeepsDeadline t (lesser (Some a) b) → t ≤ a
left_in_time t a None in_time = in_time
left_in_time t a (Some b) in_time = let both : t ≤ min a b = in_time in omega arith

pub right_in_time : (t b : ℕ) (a : Option ℕ) → KeepsDeadline t (lesser a (Some b)) → t ≤ b
right_in_time t b None in_time = in_time
right_in_time t b (Some a) in_time = let both : t ≤ min a b = in_time in omega arith

pub both_in_time : (t : ℕ) (a b : Option ℕ) → KeepsDeadline t a → KeepsDeadline t b → KeepsDeadline t (lesser a b)
both_in_time t None b one two = two
both_in_time t (Some a) None one two = one
both_in_time t (Some a) (Some b) one two = let left : t ≤ a = one in let right : t ≤ b = two in omega arith

pub send_in_time : (t last : ℕ) (a : Option ℕ) (may : Bool) → may ≡ true
    → KeepsDeadline t (lesser a (if may then Some last else None)) → t ≤ last
send_in_time t last a true is in_time = right_in_time t last a in_time
send_in_time t last a false is in_time = absurd (false≢true is)

pub sends_in_time : (t last : ℕ) (may : Bool) → (may ≡ true → t ≤ last)
    → KeepsDeadline t (if may then Some last else None)
sends_in_time t last true in_time = in_time refl
sends_in_time t last false in_time = tt

-- by a node's plan, state and moments
abbrev pub phase_last : Gamma → Plan → NodeState → ℕ → Phase → Option ℕ
phase_last g plan n since Waiting = Some (last_before (start_alarm plan n) g.eps)
phase_last g plan n since (Running step) = Some (since + g.alpha_max)
phase_last g plan n since (Between steps) = Some (last_before (step_alarm plan n steps) g.eps)
phase_last g plan n since Holding = None
phase_last g plan n since Done = None

abbrev pub send_last : Gamma → Plan → NodeState → ℕ → Option ℕ
send_last g plan n ready = if may_send plan n then Some (max ready (last_before (release_reading plan n) g.eps)) else
    None

abbrev pub last_time : Gamma → Plan → NodeState → ℕ → ℕ → Option ℕ
last_time g plan n since ready = lesser (phase_last g plan n since n.phase) (send_last g plan n ready)

pub phase_is : (run : Run) (w : World) (node : ℕ) (p : Phase)
    → phase_deadline run w node p
    ≡ phase_last run.design.gamma (plan_of run.design node) (node_at w.bus node) (since_at w node) p
phase_is run w node Waiting = refl
phase_is run w node (Running step) = refl
phase_is run w node (Between steps) = refl
phase_is run w node Holding = refl
phase_is run w node Done = refl

pub deadline_is : (run : Run) (w : World) (node : ℕ)
    → node_deadline run w node
    ≡ last_time run.design.gamma (plan_of run.design node) (node_at w.bus node) (since_at w node) (ready_at w node)
deadline_is run w node =
    ap (λ o. lesser o (send_last run.design.gamma (plan_of run.design node) (node_at w.bus node) (ready_at w node)))
    (phase_is run w node (node_at w.bus node).phase)

-- ---- what may be sent
pub may_be : (plan : Plan) (n : NodeState) (steps : ℕ) → n.sent ≡ false → finished_steps plan.rate n.phase ≡ Some steps
    → plan.sent_steps ≤ steps
    → may_send plan n ≡ true
may_be plan n steps unsent finished enough =
    and_from (not n.sent) (option_map_or (nat_le plan.sent_steps) (finished_steps plan.rate n.phase) false)
    (ap not unsent)
    (ap (λ o. option_map_or (nat_le plan.sent_steps) o false) finished ∙ le-leb plan.sent_steps steps enough)

pub record MayBe (plan : Plan) (n : NodeState) : Type 0 where
  pub unsent : n.sent ≡ false
  pub steps : ℕ
  pub finished : finished_steps plan.rate n.phase ≡ Some steps
  pub enough : plan.sent_steps ≤ steps

pub enough_of : (plan : Plan) (o : Option ℕ) → option_map_or (nat_le plan.sent_steps) o false ≡ true
    → (steps : ℕ) × (o ≡ Some steps) × (plan.sent_steps ≤ steps)
enough_of plan None is = absurd (false≢true is)
enough_of plan (Some steps) is = (steps, refl, leb-true plan.sent_steps steps is)

pub may_is : (plan : Plan) (n : NodeState) → may_send plan n ≡ true → MayBe plan n
may_is plan n may =
    let parts =
    and_parts (not n.sent) (option_map_or (nat_le plan.sent_steps) (finished_steps plan.rate n.phase) false) may in
    let enough = enough_of plan (finished_steps plan.rate n.phase) parts.1 in
    record { unsent = not-true n.sent parts.0; steps = enough.0; finished = enough.1; enough = enough.2 }

-- ---- what the bound gives of a node
abbrev pub FitsAt : Run → ℕ → Type 0
FitsAt run node =
    Fits run.design.gamma.eps run.design.gamma.alpha_max run.design.gamma.mu_min run.design.gamma.mu_max
    run.design.period
    (plan_of run.design node).rate (plan_of run.design node).step_period (plan_of run.design node).sent_steps
    (plan_of run.design node).release_offset

pub begins_below : (k : ℕ) (cs : List Component) → k ≤ fold (λ (m : ℕ) (c : Component). max m c.rate) k cs
begins_below k [] = omega arith
begins_below k (c ∷ cs) = let later : max k c.rate ≤ fold (λ (m : ℕ) (d : Component). max m d.rate) (max k c.rate) cs =
    begins_below (max k c.rate) cs in omega arith

pub one_below : (k : ℕ) (cs : List Component) (at : ℕ) (c : Component) → slice_get cs at ≡ Some c
    → c.rate ≤ fold (λ (m : ℕ) (d : Component). max m d.rate) k cs
one_below k [] at c is = absurd (cc)
one_below k (d ∷ cs) zero c is =
    let same : d ≡ c = cc in
    let rate : d.rate ≡ c.rate = ap (λ (x : Component). x.rate) same in
    let later : max k d.rate ≤ fold (λ (m : ℕ) (x : Component). max m x.rate) (max k d.rate) cs =
    begins_below (max k d.rate) cs in
    omega arith
one_below k (d ∷ cs) (suc at) c is = one_below (max k d.rate) cs at c is

pub fits_at : (run : Run) (node : ℕ) → IsRunOf run → node < length run.design.components → FitsAt run node
fits_at run node rules within =
    let g = run.design.gamma in
    let c = component_at run.design node in
    let is_c = component_is run node within in
    let rate =
    (at_element (IsComponent run.design.period) run.design.components node c rules.design.components.each
    is_c).rate in
    fits g.eps g.alpha_max g.mu_min g.mu_max run.design.period c.rate (greatest_rate run.design.components)
    rules.design.gamma.skew.0 rate.0
    (one_below 1 run.design.components node c is_c) rules.design.bound

-- ---- the position of a node
pub record Stands (g : Gamma) (plan : Plan) (n : NodeState) (reading time since ready : ℕ)
    (moments : List ℕ) : Type 0 where
  pub clock : IsNear g time reading
  pub in_time : KeepsDeadline time (last_time g plan n since ready)
  pub keeps : KeepsNode g plan n time since ready
  pub sends : KeepsSends g plan n time moments

abbrev pub StandsAt : Run → World → ℕ → Type 0
StandsAt run w node =
    Stands run.design.gamma (plan_of run.design node) (node_at w.bus node) (reading_at w node) w.time (since_at w node)
    (ready_at w node) (sendings w node)

pub stands_at : (run : Run) (w : World) (node : ℕ) → KeepsTime run w → node < length run.design.components
    → StandsAt run w node
stands_at run w node keeps within = record {
  clock = keeps.clocks node within;
  in_time = subst (KeepsDeadline w.time) (deadline_is run w node) (keeps.in_time node within);
  keeps = keeps.nodes node within;
  sends = keeps.sends node within;
}

-- ---- the rounds' alarms
pub next_alarm : (t n round : ℕ) → n ≡ suc round → alarm t n ≡ alarm t (n - 1) + t
next_alarm t n round is =
    let same : round ≡ n - 1 = omega arith in
    ap (alarm t) is ∙ alarm_next t round ∙ ap (λ m. alarm t m + t) same

module _ (run : Run) (node : ℕ) (n : NodeState) (time since ready : ℕ) where
  abbrev InTimeAt : Phase → Type 0
  InTimeAt p =
      KeepsDeadline time
      (lesser (phase_last run.design.gamma (plan_of run.design node) n since p)
      (send_last run.design.gamma (plan_of run.design node) n ready))

  ready_last : (p : Phase) → InTimeAt p → may_send (plan_of run.design node) n ≡ true
      → time ≤ max ready (release_reading (plan_of run.design node) n + run.design.gamma.eps - 1)
  ready_last p in_time may =
      let plan = plan_of run.design node in
      send_in_time time (max ready (last_before (release_reading plan n) run.design.gamma.eps))
      (phase_last run.design.gamma plan n since p) (may_send plan n) may in_time

  -- the next send has time left
  unsent_may : (p : Phase) (round : ℕ) → FitsAt run node
      → KeepsNode run.design.gamma (plan_of run.design node) n time since ready → InTimeAt p → n.count ≡ suc round
      → may_send (plan_of run.design node) n ≡ true → time + run.design.gamma.eps < alarm run.design.period n.count
  unsent_may p round fit keeps in_time is may =
      unsent_ready fit (alarm run.design.period (round_of n)) (alarm run.design.period n.count) time ready
      (next_alarm run.design.period n.count round is)
      (keeps.unsent may).prompt (ready_last p in_time may)

  -- a node that is not done is not past its next alarm by the skew
  late_in : (p : Phase) → FitsAt run node → n.phase ≡ p → PhaseAgrees run node (component_at run.design node) n p
      → KeepsNode run.design.gamma (plan_of run.design node) n time since ready → InTimeAt p → p ≢ Done
      → time < alarm run.design.period n.count + run.design.gamma.eps
  late_in Waiting fit is agrees keeps in_time busy =
      let g = run.design.gamma in
      let plan = plan_of run.design node in
      let last : time ≤ alarm run.design.period n.count + g.eps - 1 =
      left_in_time time (last_before (start_alarm plan n) g.eps) (send_last g plan n ready) in_time in
      let skew = fit.skew in
      omega arith
  late_in (Running step) fit is agrees keeps in_time busy =
      let g = run.design.gamma in
      let plan = plan_of run.design node in
      let out = keeps.running step is in
      late_running fit (alarm run.design.period (round_of n)) (alarm run.design.period n.count) step time since
      (next_alarm run.design.period n.count agrees.under_way.round agrees.under_way.count) agrees.within out.prompt
      (left_in_time time (since + g.alpha_max) (send_last g plan n ready) in_time)
  late_in (Between steps) fit is agrees keeps in_time busy =
      let g = run.design.gamma in
      let plan = plan_of run.design node in
      late_between fit (alarm run.design.period (round_of n)) (alarm run.design.period n.count) steps time
      (next_alarm run.design.period n.count agrees.0.under_way.round agrees.0.under_way.count) agrees.0.within
      (left_in_time time (last_before (step_alarm plan n steps) g.eps) (send_last g plan n ready) in_time)
  late_in Holding fit is agrees keeps in_time busy =
      let plan = plan_of run.design node in
      let may = may_be plan n plan.rate agrees.sent (ap (finished_steps plan.rate) is) fit.all in
      let left : time + run.design.gamma.eps < alarm run.design.period n.count =
      unsent_may Holding agrees.under_way.round fit keeps in_time agrees.under_way.count may in
      omega arith
  late_in Done fit is agrees keeps in_time busy = absurd (busy refl)

  unsent_in : (p : Phase) → FitsAt run node → n.phase ≡ p → PhaseAgrees run node (component_at run.design node) n p
      → KeepsNode run.design.gamma (plan_of run.design node) n time since ready → InTimeAt p → n.sent ≡ false
      → (0 < n.count) × (time + run.design.gamma.eps < alarm run.design.period n.count)
  unsent_in Waiting fit is agrees keeps in_time unsent = absurd (false≢true (sym unsent ∙ agrees.0.sent))
  unsent_in (Running step) fit is agrees keeps in_time unsent =
      let g = run.design.gamma in
      let plan = plan_of run.design node in
      let u = agrees.under_way in
      let some : 0 < n.count = let counted = u.count in omega arith in (
        some,
        elim (cases_lt step plan.sent_steps) [
          | inl below ↦
              unsent_running fit (alarm run.design.period (round_of n)) (alarm run.design.period n.count)
              step time since
              (next_alarm run.design.period n.count u.round u.count) below (keeps.running step is).prompt
              (left_in_time time (since + g.alpha_max) (send_last g plan n ready) in_time)
          | inr enough ↦ unsent_may (Running step) u.round fit keeps in_time u.count
              (may_be plan n step unsent (ap (finished_steps plan.rate) is) enough)
        ],
      )
  unsent_in (Between steps) fit is agrees keeps in_time unsent =
      let g = run.design.gamma in
      let plan = plan_of run.design node in
      let u = agrees.0.under_way in
      let some : 0 < n.count = let counted = u.count in omega arith in (
        some,
        elim (cases_lt steps plan.sent_steps) [
          | inl below ↦
              unsent_between fit (alarm run.design.period (round_of n)) (alarm run.design.period n.count) steps time
              (next_alarm run.design.period n.count u.round u.count) below
              (left_in_time time (last_before (step_alarm plan n steps) g.eps) (send_last g plan n ready) in_time)
          | inr enough ↦ unsent_may (Between steps) u.round fit keeps in_time u.count
              (may_be plan n steps unsent (ap (finished_steps plan.rate) is) enough)
        ],
      )
  unsent_in Holding fit is agrees keeps in_time unsent =
      let plan = plan_of run.design node in
      let u = agrees.under_way in
      let some : 0 < n.count = let counted = u.count in omega arith in
      let may = may_be plan n plan.rate unsent (ap (finished_steps plan.rate) is) fit.all in
      (some, unsent_may Holding u.round fit keeps in_time u.count may)
  unsent_in Done fit is agrees keeps in_time unsent = absurd (false≢true (sym unsent ∙ agrees.0.sent))

  -- the message of the last round that it started has time left, or is sent
  behind_by : (sent : Bool) → FitsAt run node → PhaseAgrees run node (component_at run.design node) n n.phase
      → KeepsNode run.design.gamma (plan_of run.design node) n time since ready → InTimeAt n.phase → n.phase ≢ Done
      → n.sent ≡ sent
      → time + run.design.gamma.eps < alarm run.design.period (suc (if sent then n.count else (n.count - 1)))
  behind_by true fit agrees keeps in_time busy is =
      let late = late_in n.phase fit refl agrees keeps in_time busy in
      let next = alarm_next run.design.period n.count in
      let long = next_after_skew fit in
      omega arith
  behind_by false fit agrees keeps in_time busy is =
      let left = unsent_in n.phase fit refl agrees keeps in_time is in
      let some = left.0 in
      let same : n.count ≡ suc (n.count - 1) = omega arith in
      subst (λ m. time + run.design.gamma.eps < alarm run.design.period m) same left.1

-- ---- in a world
pub done_or : (p : Phase) → (p ≡ Done) ⊎ (p ≢ Done)
done_or Waiting = inr (λ e. cc)
done_or (Running step) = inr (λ e. cc)
done_or (Between steps) = inr (λ e. cc)
done_or Holding = inr (λ e. cc)
done_or Done = inl refl

module _ (run : Run) (w : World) (rules : IsRunOf run) (keeps : KeepsTime run w) where
  pub phase_agrees : (node : ℕ) → node < length run.design.components
      → PhaseAgrees run node (component_at run.design node) (node_at w.bus node) (node_at w.bus node).phase
  phase_agrees node within =
      (keeps.agrees.nodes node (component_at run.design node) (component_is run node within)).phase

  pub rounds_at_most : (node : ℕ) → node < length run.design.components → (node_at w.bus node).count ≤ run.rounds
  rounds_at_most node within =
      (keeps.agrees.nodes node (component_at run.design node) (component_is run node within)).rounds

  pub done_all : (node : ℕ) → node < length run.design.components → (node_at w.bus node).phase ≡ Done
      → ((node_at w.bus node).count ≡ run.rounds) × ((node_at w.bus node).sent ≡ true)
  done_all node within done =
      let n = node_at w.bus node in
      let agrees = subst (PhaseAgrees run node (component_at run.design node) n) done (phase_agrees node within) in
      (agrees.1, agrees.0.sent)

  pub late : (node : ℕ) → node < length run.design.components → (node_at w.bus node).phase ≢ Done
      → w.time < alarm run.design.period (node_at w.bus node).count + run.design.gamma.eps
  late node within busy =
      let n = node_at w.bus node in
      let stands = stands_at run w node keeps within in
      late_in run node n w.time (since_at w node) (ready_at w node) n.phase (fits_at run node rules within) refl
      (phase_agrees node within) stands.keeps stands.in_time busy

  pub behind : (node : ℕ) → node < length run.design.components → (node_at w.bus node).phase ≢ Done
      → w.time + run.design.gamma.eps < alarm run.design.period (suc (sent_rounds (node_at w.bus node)))
  behind node within busy =
      let n = node_at w.bus node in
      let stands = stands_at run w node keeps within in
      behind_by run node n w.time (since_at w node) (ready_at w node) n.sent (fits_at run node rules within)
      (phase_agrees node within) stands.keeps stands.in_time busy refl

  -- no node is two rounds ahead of another
  pub counts_close : (one other : ℕ) → one < length run.design.components → other < length run.design.components
      → (node_at w.bus one).count ≤ suc (node_at w.bus other).count
  counts_close one other here there =
      let n = node_at w.bus one in
      let m = node_at w.bus other in
      let most = rounds_at_most one here in
      elim (done_or m.phase) [
        | inl done ↦ let all = (done_all other there done).0 in omega arith
        | inr busy ↦ elim (cases_lt (suc m.count) n.count) [
          | inl ahead ↦
              let last = late other there busy in
              let started = (keeps.nodes one here).started (omega arith) in
              let two = alarm_after run.design.period m.count (n.count - 1) (omega arith) in
              let long = next_after_skew (fits_at run one rules here) in
              absurd (omega arith)
          | inr close ↦ close
        ]
      ]
