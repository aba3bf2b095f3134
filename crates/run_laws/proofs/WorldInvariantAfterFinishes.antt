-- A finish without a fault maintains the timing invariant of a world.
use Rattle.std.proofs.Common.{◌≡◌, ◌≢◌, ℕ, suc, ◌+◌, ◌-◌, ◌*◌, ◌<◌, ◌≤◌, nat_eq, Bool, true, false, length, Option}
use Rattle.std.proofs.Common.{Some, refl, sym, ap, ap₂, ◌∙◌, subst, arith}
use Rattle.std.specs.Prelude.{nat_lt, max, is_some, slice_set, if◌then◌else◌}
use Rattle.std.proofs.lemmas.Bool.{ltb-true, ltb-false, eqb-true, eqb-false, false≢true}
use Rattle.std.proofs.lemmas.Grind.{get_or-set_at}
use Rattle.std.proofs.lemmas.List.{length-set, get_or-set_other}
use Rattle.std.proofs.lemmas.Option.{same_Some, none-some}
use Rattle.pals_base.specs.declared.period_bound_and_releases.Gamma.{Gamma}
use Rattle.pals_base.specs.declared.basic_types.NodeNo.{NodeNo}
use Rattle.pals_base.specs.PeriodBoundAndReleases.{alarm}
use Rattle.pals_runs.specs.declared.events_and_faults.Event.TheVariants as event
use Rattle.pals_runs.specs.declared.phase.Phase.{Phase}
use Rattle.pals_runs.specs.declared.phase.Phase.TheVariants.{Waiting, Running, Between, Holding, Done}
use Rattle.bus_machine.specs.declared.plan.Plan.{Plan}
use Rattle.bus_machine.specs.Plans.{plan_of, component_at}
use Rattle.bus_machine.specs.Nodes.{NodeState, round_of, finished_steps, at_rest, sent_rounds}
use Rattle.bus_machine.specs.NodeEvents.{running_step, finished, after_round, may_send}
use Rattle.bus_machine.specs.AlarmsAndReleases.{start_alarm, step_alarm, release_reading}
use Rattle.bus_machine.specs.BusStates.{node_at, with_node}
use Rattle.bus_machine.specs.RunParameters.{Run}
use Rattle.bus_machine.specs.Machine.{on_step}
use Rattle.bus_machine.specs.proof.AgreementLaws.{IsRunOf}
use Rattle.bus_machine.specs.Agreement.{Agrees, PhaseAgrees, IsInRound}
use Rattle.run_laws.specs.Deadlines.{last_before, lesser}
use Rattle.run_laws.specs.Worlds.{World, reading_at, since_at, ready_at, sendings, moved, is_last_sent, world_after}
use Rattle.bus_machine.proofs.NodeEventLocalAgreement.{finish_keeps}
use Rattle.bus_machine.proofs.StateChangeAgreement.{node_set, node_stays}
use Rattle.bus_machine.proofs.NodeEventBusAgreement.{finish_keeps_all}
use Rattle.run_laws.specs.proof.WorldInvariant.{KeepsDeadline, IsReadySince, KeepsTime}
use Rattle.run_laws.proofs.TimeArithmetic.{finish_between, late_running}
use Rattle.run_laws.proofs.WorldNodeTiming.{fits_at, may_be, may_is, Stands, stands_at, left_in_time, both_in_time}
use Rattle.run_laws.proofs.WorldNodeTiming.{send_in_time, sends_in_time, phase_last, send_last, phase_agrees}
use Rattle.run_laws.proofs.WorldNodeTiming.{next_alarm}
use Rattle.run_laws.proofs.LocalWorldChanges.{changed, same_links, stands_put, keeps_again, moved_here, moved_length}
use Rattle.run_laws.proofs.LocalWorldChanges.{moved_other}
use Rattle.run_laws.proofs.FaultlessEventConditions.{FaultlessFinish}

-- ---- what a node is after a step
-- more steps are to come, the round is held, or it is at an end
pub data Ends (plan : Plan) (step : ℕ) (p : Phase) : Type 0 where
  goes_on : p ≡ Between (step + 1) → step + 1 < plan.rate → Ends plan step p
  holds : p ≡ Holding → plan.rate ≤ step + 1 → Ends plan step p
  waits_next : p ≡ Waiting → plan.rate ≤ step + 1 → Ends plan step p
  is_done : p ≡ Done → plan.rate ≤ step + 1 → Ends plan step p

rest_ends : (plan : Plan) (step : ℕ) (all : Bool) → plan.rate ≤ step + 1 → Ends plan step (at_rest all)
rest_ends plan step true last = is_done refl last
rest_ends plan step false last = waits_next refl last

round_ends : (plan : Plan) (rounds step : ℕ) (n : NodeState) (sent : Bool) → n.sent ≡ sent → plan.rate ≤ step + 1
    → Ends plan step (if sent then at_rest (nat_eq n.count rounds) else Holding)
round_ends plan rounds step n true is last = rest_ends plan step (nat_eq n.count rounds) last
round_ends plan rounds step n false is last = holds refl last

choice : (b : Bool) (x y : NodeState) → (if b then x else y).phase ≡ (if b then x.phase else y.phase)
choice true x y = refl
choice false x y = refl

step_ends_by : (plan : Plan) (rounds step : ℕ) (n : NodeState) (more : Bool) → nat_lt (step + 1) plan.rate ≡ more
    → Ends plan step (if more then Between (step + 1) else after_round rounds n)
step_ends_by plan rounds step n true is = goes_on refl (ltb-true (step + 1) plan.rate is)
step_ends_by plan rounds step n false is = round_ends plan rounds step n n.sent refl (ltb-false (step + 1) plan.rate is)

pub step_ends_as : (plan : Plan) (rounds step : ℕ) (n : NodeState) → Ends plan step (finished plan rounds step n).phase
step_ends_as plan rounds step n =
    subst (Ends plan step) (sym (choice (nat_lt (step + 1) plan.rate) _ _))
    (step_ends_by plan rounds step n (nat_lt (step + 1) plan.rate) refl)

-- then one step more is finished
pub steps_after : (plan : Plan) (step : ℕ) (p : Phase) (steps : ℕ) → step < plan.rate → Ends plan step p
    → finished_steps plan.rate p ≡ Some steps → steps ≡ step + 1
steps_after plan step p steps within (goes_on is more) finished =
    same_Some steps (step + 1) (sym finished ∙ ap (finished_steps plan.rate) is)
steps_after plan step p steps within (holds is last) finished =
    let same : steps ≡ plan.rate = same_Some steps plan.rate (sym finished ∙ ap (finished_steps plan.rate) is) in
    omega arith
steps_after plan step p steps within (waits_next is last) finished =
    absurd (none-some steps (sym (ap (finished_steps plan.rate) is) ∙ finished))
steps_after plan step p steps within (is_done is last) finished =
    absurd (none-some steps (sym (ap (finished_steps plan.rate) is) ∙ finished))

pub not_running : (plan : Plan) (step : ℕ) (p : Phase) (other : ℕ) → Ends plan step p → p ≡ Running other → ⊥
not_running plan step p other (goes_on is more) runs = let both : Between (step + 1) ≡ Running other = sym is
    ∙ runs in cc
not_running plan step p other (holds is last) runs = let both : Holding ≡ Running other = sym is ∙ runs in cc
not_running plan step p other (waits_next is last) runs = let both : Waiting ≡ Running other = sym is ∙ runs in cc
not_running plan step p other (is_done is last) runs = let both : Done ≡ Running other = sym is ∙ runs in cc

-- its last allowed time by its phase
module _ (g : Gamma) (plan : Plan) (n m : NodeState) (time since step : ℕ) (skew : 1 ≤ g.eps)
    (count : m.count ≡ n.count)
    (next_step_due : time ≤ step_alarm plan n (step + 1) + g.eps - 1)
    (next_round_due : time < start_alarm plan n + g.eps) where
  phase_in_time : (p : Phase) → Ends plan step p → KeepsDeadline time (phase_last g plan m time p)
  phase_in_time p (goes_on is more) =
      let same : step_alarm plan m (step + 1) ≡ step_alarm plan n (step + 1) =
      ap (λ k. alarm plan.period (k - 1) + (step + 1) * plan.step_period) count in
      let in_time : time ≤ last_before (step_alarm plan m (step + 1)) g.eps = omega arith in
      subst (λ q. KeepsDeadline time (phase_last g plan m time q)) (sym is) in_time
  phase_in_time p (holds is last) = subst (λ q. KeepsDeadline time (phase_last g plan m time q)) (sym is) tt
  phase_in_time p (waits_next is last) =
      let same : start_alarm plan m ≡ start_alarm plan n = ap (alarm plan.period) count in
      let in_time : time ≤ last_before (start_alarm plan m) g.eps = omega arith in
      subst (λ q. KeepsDeadline time (phase_last g plan m time q)) (sym is) in_time
  phase_in_time p (is_done is last) = subst (λ q. KeepsDeadline time (phase_last g plan m time q)) (sym is) tt

module _ (run : Run) (w : World) (rules : IsRunOf run) (keeps : KeepsTime run w) (node : NodeNo)
    (fine : FaultlessFinish run w node) where
  abbrev pub here : NodeState
  here = node_at w.bus node.0

  abbrev pub the_plan : Plan
  the_plan = plan_of run.design node.0

  pub in_bus : node.0 < length w.bus.nodes
  in_bus = let count = keeps.agrees.node_count in let within = fine.within in omega arith

  -- ---- a node that runs a step
  module _ (step : ℕ) (runs : here.phase ≡ Running step) where
    abbrev pub ended : NodeState
    ended = finished the_plan run.rounds step here

    abbrev pub last_sent : Bool
    last_sent = nat_eq (step + 1) the_plan.sent_steps

    abbrev pub ready_after : ℕ
    ready_after = if last_sent then w.time else ready_at w node.0

    pub in_round : IsInRound run node.0 (component_at run.design node.0) here step
    in_round =
        subst (PhaseAgrees run node.0 (component_at run.design node.0) here) runs
        (phase_agrees run w rules keeps node.0 fine.within)

    pub ends : Ends the_plan step ended.phase
    ends = step_ends_as the_plan run.rounds step here

    pub counts : ended.count ≡ here.count
    counts = (finish_keeps the_plan run.rounds step here).0

    pub is_sent : ended.sent ≡ here.sent
    is_sent = (finish_keeps the_plan run.rounds step here).2

    pub same_sent : sent_rounds ended ≡ sent_rounds here
    same_sent = ap₂ (λ (b : Bool) (k : ℕ). if b then k else (k - 1)) is_sent counts

    same_alarm : (k : ℕ) → step_alarm the_plan ended k ≡ step_alarm the_plan here k
    same_alarm k = ap (λ c. alarm the_plan.period (c - 1) + k * the_plan.step_period) counts

    same_release : release_reading the_plan ended ≡ release_reading the_plan here
    same_release = ap (λ c. alarm the_plan.period (c - 1) + the_plan.release_offset) counts

    abbrev last_times : Phase → Option ℕ
    last_times p =
        lesser (phase_last run.design.gamma the_plan here (since_at w node.0) p)
        (send_last run.design.gamma the_plan here (ready_at w node.0))

    last_running : w.time ≤ since_at w node.0 + run.design.gamma.alpha_max
    last_running =
        let before = stands_at run w node.0 keeps fine.within in
        let in_time : KeepsDeadline w.time (last_times (Running step)) =
        subst (λ p. KeepsDeadline w.time (last_times p)) runs before.in_time in
        left_in_time w.time (since_at w node.0 + run.design.gamma.alpha_max)
        (send_last run.design.gamma the_plan here (ready_at w node.0)) in_time

    -- what may be sent now might be sent before, or its last step is this one
    pub may_before : may_send the_plan ended ≡ true → last_sent ≡ false → may_send the_plan here ≡ true
    may_before may other =
        let m = may_is the_plan ended may in
        let all : m.steps ≡ step + 1 = steps_after the_plan step ended.phase m.steps in_round.within ends m.finished in
        let not_last = eqb-false (step + 1) the_plan.sent_steps other in
        let enough = m.enough in
        may_be the_plan here step (sym is_sent ∙ m.unsent) (ap (finished_steps the_plan.rate) runs)
        (let few : the_plan.sent_steps ≢ step + 1 = λ e. not_last (sym e) in omega arith)

    -- the moment since which it may be sent
    ready_by : (b : Bool) → last_sent ≡ b → may_send the_plan ended ≡ true
        → IsReadySince run.design.gamma (step_alarm the_plan here (the_plan.sent_steps - 1)) w.time
        (if b then w.time else ready_at w node.0)
        × (w.time ≤ max (if b then w.time else ready_at w node.0)
        (release_reading the_plan here + run.design.gamma.eps - 1))
    ready_by true is may =
        let g = run.design.gamma in
        let before = stands_at run w node.0 keeps fine.within in
        let out = before.keeps.running step runs in
        let last : w.time ≤ since_at w node.0 + g.alpha_max = last_running in
        let all : step + 1 ≡ the_plan.sent_steps = eqb-true (step + 1) the_plan.sent_steps is in
        let this : step ≡ the_plan.sent_steps - 1 = omega arith in
        let alarms : step_alarm the_plan here step ≡ step_alarm the_plan here (the_plan.sent_steps - 1) =
        ap (step_alarm the_plan here) this in
        (record { prompt = omega arith; past = omega arith }, omega arith)
    ready_by false is may =
        let g = run.design.gamma in
        let before = stands_at run w node.0 keeps fine.within in
        let might = may_before may is in (
          before.keeps.unsent might,
          send_in_time w.time (max (ready_at w node.0) (last_before (release_reading the_plan here) g.eps))
              (phase_last g the_plan here (since_at w node.0) here.phase)
              (may_send the_plan here) might before.in_time,
        )

    ended_stands : Stands run.design.gamma the_plan ended (reading_at w node.0) w.time w.time ready_after
        (sendings w node.0)
    ended_stands =
        let g = run.design.gamma in
        let t = run.design.period in
        let fit = fits_at run node.0 rules fine.within in
        let before = stands_at run w node.0 keeps fine.within in
        let out = before.keeps.running step runs in
        let last = last_running in
        let u = in_round.under_way in
        let next_due = finish_between fit (alarm t (round_of here)) step w.time (since_at w node.0) out.prompt last in
        let round_due =
        late_running fit (alarm t (round_of here)) (alarm t here.count) step w.time (since_at w node.0)
        (next_alarm t here.count u.round u.count) in_round.within out.prompt last in
        record {
          clock = before.clock;
          in_time =
              both_in_time w.time (phase_last g the_plan ended w.time ended.phase)
              (send_last g the_plan ended ready_after)
              (phase_in_time g the_plan here ended w.time (since_at w node.0) step fit.skew counts next_due round_due
              ended.phase ends)
              (sends_in_time w.time (max ready_after (last_before (release_reading the_plan ended) g.eps))
              (may_send the_plan ended)
              (λ may. subst (λ r. w.time ≤ max ready_after (r + g.eps - 1)) (sym same_release)
              (ready_by last_sent refl may).1));
          keeps = record {
            started =
                λ some. subst (λ k. alarm t (k - 1) < w.time + g.eps) (sym counts)
                (before.keeps.started (subst (λ k. 0 < k) counts some));
            finished = λ k is.
                let all : suc k ≡ step + 1 = steps_after the_plan step ended.phase (suc k) in_round.within ends is in
                let this : k ≡ step = omega arith in
                let alarms : step_alarm the_plan ended k ≡ step_alarm the_plan here step = same_alarm k
                ∙ ap (step_alarm the_plan here) this in
                omega arith;
            running = λ k is. absurd (not_running the_plan step ended.phase k ends is);
            unsent =
                λ may. subst (λ a. IsReadySince g a w.time ready_after) (sym (same_alarm (the_plan.sent_steps - 1)))
                (ready_by last_sent refl may).0;
          };
          sends = record { each = before.sends.each ∙ sym same_sent; sent = before.sends.sent };
        }

    pub finish_running : KeepsTime run
        (changed w (with_node w.bus node.0 ended) (slice_set w.since node.0 w.time)
        (moved last_sent w.ready node.0 w.time) w.sent_at)
    finish_running =
        let bus = with_node w.bus node.0 ended in
        let sizes = keeps.moments in
        let within = fine.within in
        let long : node.0 < length w.since = let size = sizes.since in omega arith in
        let long_ready : node.0 < length w.ready = let size = sizes.ready in omega arith in
        let ready = moved last_sent w.ready node.0 w.time in
        keeps_again run w bus (slice_set w.since node.0 w.time) ready w.sent_at keeps node.0
        keeps.going
        (subst (λ p. Agrees run (on_step (running_step p) w.bus
        (λ k. with_node w.bus node.0 (finished the_plan run.rounds k here)))) runs
        (finish_keeps_all run w.bus node here.phase rules keeps.agrees refl))
        (record {
          readings = sizes.readings;
          since = length-set w.since node.0 w.time ∙ sizes.since;
          ready = moved_length last_sent w.ready node.0 w.time ∙ sizes.ready;
          sent_at = sizes.sent_at;
        })
        (record {
          nodes = λ k other. node_stays w.bus node.0 k ended other;
          since_stays = λ k other. get_or-set_other w.since node.0 k w.time 0 other;
          ready_stays = λ k other. moved_other last_sent w.ready node.0 k w.time other;
          sent_stays = λ k other. refl;
        })
        (stands_put run w bus (slice_set w.since node.0 w.time) ready w.sent_at keeps node.0 ended w.time ready_after
        (sendings w node.0) ended_stands
        (node_set w.bus node.0 ended in_bus) (get_or-set_at w.since node.0 node.0 w.time 0 refl long)
        (moved_here last_sent w.ready node.0 w.time long_ready) refl)
        (same_links run w node.0 ended (slice_set w.since node.0 w.time) ready keeps
        (record { count = counts; slots = (finish_keeps the_plan run.rounds step here).1; sent = same_sent }))

  -- ---- by its phase
  abbrev world_finished : Phase → World
  world_finished p =
      changed w (on_step (running_step p) w.bus (λ k. with_node w.bus node.0 (finished the_plan run.rounds k here)))
      (slice_set w.since node.0 w.time)
      (moved (is_last_sent the_plan.sent_steps (running_step p)) w.ready node.0 w.time) w.sent_at

  finish_by : (p : Phase) → here.phase ≡ p → is_some (running_step p) ≡ true → KeepsTime run (world_finished p)
  finish_by Waiting is some = absurd (false≢true some)
  finish_by (Running step) is some = finish_running step is
  finish_by (Between step) is some = absurd (false≢true some)
  finish_by Holding is some = absurd (false≢true some)
  finish_by Done is some = absurd (false≢true some)

  pub finish_keeps_time : KeepsTime run (world_after run w (event.Finish node))
  finish_keeps_time = finish_by here.phase refl fine.runs

  pub finish_is : (step : ℕ) (runs : here.phase ≡ Running step)
      → world_after run w (event.Finish node)
      ≡ changed w (with_node w.bus node.0 (ended step runs)) (slice_set w.since node.0 w.time)
      (moved (last_sent step runs) w.ready node.0 w.time) w.sent_at
  finish_is step runs = ap world_finished runs
