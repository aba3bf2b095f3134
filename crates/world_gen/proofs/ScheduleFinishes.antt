-- The finishes of a schedule are within the bounds.
use Rattle.std.proofs.Common.{◌≡◌, ◌≢◌, ℕ, suc, ◌+◌, ◌-◌, ◌*◌, ◌<◌, ◌≤◌, Bool, true, false, length, Some, None, refl}
use Rattle.std.proofs.Common.{sym, ap, ◌∙◌, subst, arith}
use Rattle.std.specs.Prelude.{if◌then◌else◌, is_some, slice_index_or, slice_set}
use Rattle.std.proofs.lemmas.Bool.{eqb-true}
use Rattle.std.proofs.lemmas.Grind.{get_or-set_at}
use Rattle.std.proofs.lemmas.List.{get_or-set_other}
use Rattle.pals_base.specs.declared.basic_types.NodeNo.{NodeNo}
use Rattle.pals_base.specs.PeriodBoundAndReleases.{alarm}
use Rattle.pals_runs.specs.declared.events_and_faults.Event.{Event}
use Rattle.pals_runs.specs.declared.events_and_faults.Event.TheVariants as event
use Rattle.pals_runs.specs.declared.phase.Phase.{Phase}
use Rattle.pals_runs.specs.declared.phase.Phase.TheVariants.{Waiting, Running, Between, Holding, Done}
use Rattle.bus_machine.specs.declared.plan.Plan.{Plan}
use Rattle.bus_machine.specs.Plans.{plan_of}
use Rattle.bus_machine.specs.Nodes.{NodeState, round_of}
use Rattle.bus_machine.specs.NodeEvents.{running_step, may_send}
use Rattle.bus_machine.specs.BusStates.{node_at, with_node}
use Rattle.bus_machine.specs.RunParameters.{Run}
use Rattle.bus_machine.specs.proof.AgreementLaws.{IsRunOf}
use Rattle.run_laws.specs.Worlds.{World, since_at, ready_at, sendings, moved, world_after}
use Rattle.run_laws.specs.EventFaults.{fault_of}
use Rattle.bus_machine.proofs.StateChangeAgreement.{node_set, node_stays}
use Rattle.world_gen.specs.proof.Schedules.{step_time, finish_time, send_time, number_at_moment, step_count}
use Rattle.run_laws.proofs.FaultlessEventConditions.{FaultlessFinish, finishes_in_time}
use Rattle.world_gen.proofs.FaultlessEvents.{finish_is_fine}
use Rattle.run_laws.proofs.LocalWorldChanges.{moved_here, moved_other}
use Rattle.run_laws.proofs.WorldInvariantAfterFinishes.{Ends, goes_on, holds, waits_next, is_done, not_running}
use Rattle.run_laws.proofs.WorldInvariantAfterFinishes as finish
use Rattle.world_gen.proofs.ScheduleTimes.{CountBefore, which_is, which_next, made_next, step_is, finishes_rise}
use Rattle.world_gen.proofs.WorldsOnSchedule.{begun_by, ended_by, NodeOnSchedule, IsOnSchedule, follows_again}
use Rattle.world_gen.proofs.WorldsOnSchedule.{follows_put}
use Rattle.world_gen.proofs.WorldsOnSchedule.{links_follow}

-- how many steps are begun where a step ends, and how many are finished
full_round : (count round k step : ℕ) → count ≡ suc round → step < k → k ≤ step + 1
    → count * k ≡ (count - 1) * k + step + 1
full_round count round k step is below last =
    let before : count - 1 ≡ round = omega arith in
    let product : (count - 1) * k ≡ round * k = ap (λ c. c * k) before in
    let all : count * k ≡ suc round * k = ap (λ c. c * k) is in
    omega arith

begun_then : (plan : Plan) (count round step : ℕ) (q : Phase) → count ≡ suc round → step < plan.rate → Ends plan step q
    → begun_by plan.rate count q ≡ (count - 1) * plan.rate + step + 1
begun_then plan count round step q is below (goes_on same more) = ap (begun_by plan.rate count) same ∙ omega arith
begun_then plan count round step q is below (holds same last) =
    ap (begun_by plan.rate count) same ∙ full_round count round plan.rate step is below last
begun_then plan count round step q is below (waits_next same last) =
    ap (begun_by plan.rate count) same ∙ full_round count round plan.rate step is below last
begun_then plan count round step q is below (is_done same last) =
    ap (begun_by plan.rate count) same ∙ full_round count round plan.rate step is below last

ended_then : (plan : Plan) (count round step : ℕ) (q : Phase) → count ≡ suc round → step < plan.rate → Ends plan step q
    → ended_by plan.rate count q ≡ (count - 1) * plan.rate + step + 1
ended_then plan count round step q is below (goes_on same more) = ap (ended_by plan.rate count) same ∙ omega arith
ended_then plan count round step q is below (holds same last) =
    ap (ended_by plan.rate count) same ∙ full_round count round plan.rate step is below last
ended_then plan count round step q is below (waits_next same last) =
    ap (ended_by plan.rate count) same ∙ full_round count round plan.rate step is below last
ended_then plan count round step q is below (is_done same last) =
    ap (ended_by plan.rate count) same ∙ full_round count round plan.rate step is below last

module _ (run : Run) (rules : IsRunOf run) (w : World) (moment : ℕ) (fin st se ar : ℕ → ℕ)
    (follows : IsOnSchedule run w moment fin st se ar)
    (j : ℕ) (within : j < length run.design.components) (number : ℕ)
    (is : number_at_moment (finish_time run.design j) (step_count run.design run.rounds j) moment ≡ Some number)
    (finishes_are : fin j ≡ moment) (room : moment < st j + run.design.gamma.alpha_min) where
  abbrev k : ℕ
  k = (plan_of run.design j).rate

  abbrev node : NodeNo
  node = record { 0 = j }

  abbrev here : NodeState
  here = node_at w.bus j

  abbrev nf : NodeOnSchedule run j here (since_at w j) (ready_at w j) (sendings w j) (fin j) (st j) (se j)
  nf = follows.nodes j within

  at : (number < step_count run.design run.rounds j) × (finish_time run.design j number ≡ moment)
  at = which_is (finish_time run.design j) (step_count run.design run.rounds j) moment number is

  made_at : (q : Phase) → here.phase ≡ q
      → CountBefore (finish_time run.design j) (step_count run.design run.rounds j) (ended_by k here.count q) moment
  made_at q same =
      subst (λ x. CountBefore (finish_time run.design j) (step_count run.design run.rounds j) (ended_by k here.count x)
      moment) same
      (subst (λ b. CountBefore (finish_time run.design j) (step_count run.design run.rounds j)
      (ended_by k here.count here.phase) b) finishes_are nf.ended)

  next_at : (q : Phase) → here.phase ≡ q → number ≡ ended_by k here.count q
  next_at q same =
      which_next (finish_time run.design j) (step_count run.design run.rounds j) (ended_by k here.count q) moment number
      (finishes_rise run rules j within) is (made_at q same)

  -- a step that is not begun would have begun
  not_begun : (q : Phase) → here.phase ≡ q → begun_by k here.count q ≡ ended_by k here.count q → ⊥
  not_begun q same none_runs =
      let number_is = next_at q same in
      let begun : CountBefore (step_time run.design j) (step_count run.design run.rounds j) (begun_by k here.count q)
      (st j) =
      subst (λ x. CountBefore (step_time run.design j) (step_count run.design run.rounds j) (begun_by k here.count x)
      (st j))
      same nf.begun in
      let waits : st j ≤ step_time run.design j number = begun.after number at.0 (omega arith) in
      let here_at = at.1 in
      let few = room in
      omega arith

  abbrev pub After : (ℕ → ℕ) → World → Type 0
  After later v = IsOnSchedule run v moment later st se ar

  module _ (later : ℕ → ℕ) (now : later j ≡ suc moment) (others : (i : ℕ) → i ≢ j → later i ≡ fin i) where
    only : (i : ℕ) → i ≢ j → (later i ≡ fin i) × (st i ≡ st i) × (se i ≡ se i)
    only i other = (others i other, refl, refl)

    long_since : j < length w.since
    long_since = let size = follows.keeps.moments.since in omega arith

    long_ready : j < length w.ready
    long_ready = let size = follows.keeps.moments.ready in omega arith

    module _ (step : ℕ) (runs : here.phase ≡ Running step) where
      number_is : number ≡ (here.count - 1) * k + step
      number_is = next_at (Running step) runs

      since_then : since_at w j ≡ step_time run.design j number
      since_then =
          nf.since_is step runs ∙ ap (λ q. step_time run.design j (ended_by k here.count q)) runs
          ∙ ap (step_time run.design j) (sym number_is)

      fine_finish : fault_of run w (event.Finish node) ≡ None
      fine_finish =
          let time = follows.time in
          let since = since_then in
          let here_at = at.1 in
          finish_is_fine run w node within (ap (λ q. is_some (running_step q)) runs) (omega arith)

      finishes : FaultlessFinish run w node
      finishes = finishes_in_time run w node fine_finish

      abbrev ended : NodeState
      ended = finish.ended run w rules follows.keeps node finishes step runs

      abbrev last_sent : Bool
      last_sent = finish.last_sent run w rules follows.keeps node finishes step runs

      abbrev ready_after : ℕ
      ready_after = finish.ready_after run w rules follows.keeps node finishes step runs

      counts : ended.count ≡ here.count
      counts = finish.counts run w rules follows.keeps node finishes step runs

      below : step < k
      below = (finish.in_round run w rules follows.keeps node finishes step runs).within

      begun_is : begun_by k ended.count ended.phase ≡ (here.count - 1) * k + step + 1
      begun_is =
          let u = (finish.in_round run w rules follows.keeps node finishes step runs).under_way in
          begun_then (plan_of run.design j) ended.count u.round step ended.phase (counts ∙ u.count) below
          (finish.ends run w rules follows.keeps node finishes step runs)
          ∙ ap (λ c. (c - 1) * k + step + 1) counts

      ended_is : ended_by k ended.count ended.phase ≡ (here.count - 1) * k + step + 1
      ended_is =
          let u = (finish.in_round run w rules follows.keeps node finishes step runs).under_way in
          ended_then (plan_of run.design j) ended.count u.round step ended.phase (counts ∙ u.count) below
          (finish.ends run w rules follows.keeps node finishes step runs)
          ∙ ap (λ c. (c - 1) * k + step + 1) counts

      ready_by : (b : Bool) → last_sent ≡ b → may_send (plan_of run.design j) ended ≡ true
          → (if b then w.time else ready_at w j)
          ≡ alarm run.design.period (round_of here)
          + ((plan_of run.design j).sent_steps - 1) * (plan_of run.design j).step_period
          + run.design.gamma.alpha_min
      ready_by true last may =
          let all : step + 1 ≡ (plan_of run.design j).sent_steps =
          eqb-true (step + 1) (plan_of run.design j).sent_steps last in
          let this : step ≡ (plan_of run.design j).sent_steps - 1 = omega arith in
          let product : step * (plan_of run.design j).step_period
          ≡ ((plan_of run.design j).sent_steps - 1) * (plan_of run.design j).step_period =
          ap (λ x. x * (plan_of run.design j).step_period) this in
          let time = follows.time in
          let here_at = at.1 in
          let is_step : step_time run.design j ((here.count - 1) * k + step)
          ≡ alarm run.design.period (here.count - 1) + step * (plan_of run.design j).step_period =
          step_is run rules j within (here.count - 1) step below in
          let same : step_time run.design j number ≡ step_time run.design j ((here.count - 1) * k + step) =
          ap (step_time run.design j) number_is in
          omega arith
      ready_by false last may =
          nf.ready_is (finish.may_before run w rules follows.keeps node finishes step runs may last)

      ended_follows : NodeOnSchedule run j ended w.time ready_after (sendings w j) (later j) (st j) (se j)
      ended_follows =
          let sent_is = finish.same_sent run w rules follows.keeps node finishes step runs in
          let suc_number : suc ((here.count - 1) * k + step) ≡ ended_by k ended.count ended.phase = let same =
          ended_is in omega arith in
          record {
            begun =
                subst (λ m. CountBefore (step_time run.design j) (step_count run.design run.rounds j) m (st j))
                (sym begun_is)
                (subst (λ x. CountBefore (step_time run.design j) (step_count run.design run.rounds j)
                (begun_by k here.count x) (st j)) runs nf.begun);
            ended =
                subst (λ b. CountBefore (finish_time run.design j) (step_count run.design run.rounds j)
                (ended_by k ended.count ended.phase) b) (sym now)
                (subst (λ m. CountBefore (finish_time run.design j) (step_count run.design run.rounds j) m
                (suc moment)) suc_number
                (made_next (finish_time run.design j) (step_count run.design run.rounds j) ((here.count - 1) * k + step)
                moment (finishes_rise run rules j within)
                (ap (finish_time run.design j) (sym number_is) ∙ at.1) (made_at (Running step) runs)));
            sent = subst (λ m. CountBefore (send_time run.design j) run.rounds m (se j)) (sym sent_is) nf.sent;
            since_is =
                λ other running. absurd (not_running (plan_of run.design j) step ended.phase other
                (finish.ends run w rules follows.keeps node finishes step runs) running);
            ready_is = λ may.
                ready_by last_sent refl may
                ∙ ap (λ c. alarm run.design.period (c - 1)
                + ((plan_of run.design j).sent_steps - 1) * (plan_of run.design j).step_period
                + run.design.gamma.alpha_min) (sym counts);
            moments_are = λ round before. nf.moments_are round (subst (λ m. round < m) sent_is before);
          }

      finish_follows : After later (world_after run w (event.Finish node))
      finish_follows =
          let bus = with_node w.bus j ended in
          let since = slice_set w.since j w.time in
          let ready = moved last_sent w.ready j w.time in
          let in_bus = finish.in_bus run w rules follows.keeps node finishes in
          subst (After later) (sym (finish.finish_is run w rules follows.keeps node finishes step runs))
          (follows_again run w bus since ready w.sent_at j moment fin st se ar later st se follows
          (finish.finish_running run w rules follows.keeps node finishes step runs)
          (record {
            nodes = λ i other. node_stays w.bus j i ended other;
            since_stays = λ i other. get_or-set_other w.since j i w.time 0 other;
            ready_stays = λ i other. moved_other last_sent w.ready j i w.time other;
            sent_stays = λ i other. refl;
          })
          only
          (follows_put run j (node_at bus j) ended (slice_index_or since j 0) w.time (slice_index_or ready j 0)
          ready_after (sendings w j) (sendings w j) (later j) (st j) (se j) ended_follows
          (node_set w.bus j ended in_bus) (get_or-set_at w.since j j w.time 0 refl long_since)
          (moved_here last_sent w.ready j w.time long_ready) refl)
          (links_follow run w j moment ended fin st se ar follows
          (finish.same_sent run w rules follows.keeps node finishes step runs)))

    abbrev pub Comes : Event → Type 0
    Comes e = (fault_of run w e ≡ None) × After later (world_after run w e)

    comes_by : (q : Phase) → here.phase ≡ q → Comes (event.Finish node)
    comes_by Waiting same = absurd (not_begun Waiting same refl)
    comes_by (Running step) same = (fine_finish step same, finish_follows step same)
    comes_by (Between step) same = absurd (not_begun (Between step) same refl)
    comes_by Holding same = absurd (not_begun Holding same refl)
    comes_by Done same = absurd (not_begun Done same refl)

    pub finish_comes : Comes (event.Finish node)
    finish_comes = comes_by here.phase refl
