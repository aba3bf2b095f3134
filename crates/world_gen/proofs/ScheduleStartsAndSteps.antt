-- The starts and steps of a schedule are within the bounds.
use Rattle.std.proofs.Common.{◌≡◌, ◌≢◌, ℕ, suc, ◌+◌, ◌-◌, ◌*◌, ◌%◌, ◌<◌, ◌≤◌, Bool, length, Some, None, refl, sym, ap}
use Rattle.std.proofs.Common.{◌∙◌, subst, arith}
use Rattle.std.specs.Prelude.{if◌then◌else◌, is_some, slice_index_or, slice_set}
use Rattle.std.specs.Option.{unwrap_or}
use Rattle.std.proofs.lemmas.Bool.{eq-eqb, ne_eqb}
use Rattle.std.proofs.lemmas.Grind.{get_or-set_at}
use Rattle.std.proofs.lemmas.List.{get_or-set_other}
use Rattle.std.proofs.lemmas.Nat.{mod-mul-add}
use Rattle.pals_base.specs.declared.basic_types.NodeNo.{NodeNo}
use Rattle.pals_base.specs.PeriodBoundAndReleases.{alarm}
use Rattle.pals_runs.specs.declared.events_and_faults.Event.{Event}
use Rattle.pals_runs.specs.declared.events_and_faults.Event.TheVariants as event
use Rattle.pals_runs.specs.declared.phase.Phase.{Phase}
use Rattle.pals_runs.specs.declared.phase.Phase.TheVariants.{Waiting, Running, Between, Holding, Done}
use Rattle.bus_machine.specs.Plans.{plan_of, component_at}
use Rattle.bus_machine.specs.Nodes.{NodeState, sent_rounds}
use Rattle.bus_machine.specs.NodeEvents.{is_waiting, next_step, stepped}
use Rattle.bus_machine.specs.AlarmsAndReleases.{step_alarm}
use Rattle.bus_machine.specs.BusStates.{node_at, with_node}
use Rattle.bus_machine.specs.RunParameters.{Run}
use Rattle.bus_machine.specs.Agreement.{PhaseAgrees}
use Rattle.bus_machine.specs.proof.AgreementLaws.{IsRunOf}
use Rattle.run_laws.specs.Worlds.{World, reading_at, since_at, ready_at, sendings, world_after}
use Rattle.run_laws.specs.EventFaults.{fault_of}
use Rattle.bus_machine.proofs.StateChangeAgreement.{node_set, node_stays}
use Rattle.world_gen.specs.proof.Schedules.{step_time, finish_time, send_time, number_at_moment, step_count, begins}
use Rattle.run_laws.proofs.WorldNodeTiming.{fits_at, phase_agrees, rounds_at_most}
use Rattle.run_laws.proofs.FaultlessEventConditions.{FaultlessStart, starts_in_time, FaultlessStep, steps_in_time}
use Rattle.world_gen.proofs.FaultlessEvents.{start_is_fine, step_is_fine}
use Rattle.run_laws.proofs.WorldInvariantAfterStarts as start
use Rattle.run_laws.proofs.WorldInvariantAfterSteps as on
use Rattle.world_gen.proofs.ScheduleTimes.{CountBefore, which_is, which_next, made_next, step_is, steps_rise}
use Rattle.world_gen.proofs.ScheduleTimes.{next_step_after}
use Rattle.world_gen.proofs.ScheduleTimes.{send_before, some_rate}
use Rattle.world_gen.proofs.WorldsOnSchedule.{begun_by, ended_by, NodeOnSchedule, IsOnSchedule, follows_again}
use Rattle.world_gen.proofs.WorldsOnSchedule.{follows_put}
use Rattle.world_gen.proofs.WorldsOnSchedule.{links_follow}

pred_is : (n m : ℕ) → n ≡ suc m → n - 1 ≡ m
pred_is n m is = omega arith

module _ (run : Run) (rules : IsRunOf run) (w : World) (moment : ℕ) (fin st se ar : ℕ → ℕ)
    (follows : IsOnSchedule run w moment fin st se ar)
    (j : ℕ) (within : j < length run.design.components) (number : ℕ)
    (is : number_at_moment (step_time run.design j) (step_count run.design run.rounds j) moment ≡ Some number)
    (starts_are : st j ≡ moment) (sends_are : se j ≡ moment)
    (gap : moment + run.design.gamma.alpha_min < fin j + (plan_of run.design j).step_period) where
  abbrev k : ℕ
  k = (plan_of run.design j).rate

  abbrev p : ℕ
  p = (plan_of run.design j).step_period

  abbrev node : NodeNo
  node = record { 0 = j }

  abbrev here : NodeState
  here = node_at w.bus j

  abbrev nf : NodeOnSchedule run j here (since_at w j) (ready_at w j) (sendings w j) (fin j) (st j) (se j)
  nf = follows.nodes j within

  at : (number < step_count run.design run.rounds j) × (step_time run.design j number ≡ moment)
  at = which_is (step_time run.design j) (step_count run.design run.rounds j) moment number is

  made_at : (q : Phase) → here.phase ≡ q
      → CountBefore (step_time run.design j) (step_count run.design run.rounds j) (begun_by k here.count q) moment
  made_at q same =
      subst (λ x. CountBefore (step_time run.design j) (step_count run.design run.rounds j) (begun_by k here.count x)
      moment) same
      (subst (λ b. CountBefore (step_time run.design j) (step_count run.design run.rounds j)
      (begun_by k here.count here.phase)
      b) starts_are nf.begun)

  -- it is the next step of the node
  next_at : (q : Phase) → here.phase ≡ q → number ≡ begun_by k here.count q
  next_at q same =
      which_next (step_time run.design j) (step_count run.design run.rounds j) (begun_by k here.count q) moment number
      (steps_rise run rules j within) is (made_at q same)

  agrees_at : (q : Phase) → here.phase ≡ q → PhaseAgrees run j (component_at run.design j) here q
  agrees_at q same =
      subst (PhaseAgrees run j (component_at run.design j) here) same (phase_agrees run w rules follows.keeps j within)

  -- after a start or a step
  abbrev pub After : (ℕ → ℕ) → World → Type 0
  After later v = IsOnSchedule run v moment fin later se ar

  module _ (later : ℕ → ℕ) (now : later j ≡ suc moment) (others : (i : ℕ) → i ≢ j → later i ≡ st i) where
    only : (i : ℕ) → i ≢ j → (fin i ≡ fin i) × (later i ≡ st i) × (se i ≡ se i)
    only i other = (refl, others i other, refl)

    long_since : j < length w.since
    long_since = let size = follows.keeps.moments.since in omega arith

    -- ---- a start
    module _ (waits : here.phase ≡ Waiting) where
      begins_now : number ≡ here.count * k
      begins_now = next_at Waiting waits

      alarm_now : alarm run.design.period here.count ≡ moment
      alarm_now =
          let some = some_rate run rules j within in
          let same : here.count * k + 0 ≡ number = let one = begins_now in omega arith in
          let one : step_time run.design j (here.count * k + 0) ≡ alarm run.design.period here.count + 0 * p =
          step_is run rules j within here.count 0 some in
          let two : step_time run.design j (here.count * k + 0) ≡ step_time run.design j number =
          ap (step_time run.design j) same in
          let three = at.1 in
          omega arith

      is_start : begins k j number ≡ event.Start node
      is_start =
          let some = some_rate run rules j within in
          let same : here.count * k + 0 ≡ number = let one = begins_now in omega arith in
          let rest : number % k ≡ 0 = ap (λ x. x % k) (sym same) ∙ mod-mul-add here.count k 0 some in
          ap (λ (b : Bool). if b then event.Start node else event.Step node) (eq-eqb (number % k) 0 rest)

      fine_start : fault_of run w (event.Start node) ≡ None
      fine_start =
          let shown = follows.readings j within in
          let alarm_is = alarm_now in
          start_is_fine run w node within (ap is_waiting waits) (omega arith)

      starts : FaultlessStart run w node
      starts = starts_in_time run w node fine_start

      abbrev begun : NodeState
      begun = start.begun run w rules follows.keeps node starts

      begun_follows : NodeOnSchedule run j begun w.time (ready_at w j) (sendings w j) (fin j) (later j) (se j)
      begun_follows =
          let counted : here.count + 1 - 1 ≡ here.count = omega arith in
          let product : (here.count + 1 - 1) * k ≡ here.count * k = ap (λ c. c * k) counted in
          let number_is = begins_now in
          let one_more : suc (here.count * k) ≡ begun_by k (here.count + 1) (Running 0) = omega arith in
          let so_far : here.count * k ≡ ended_by k (here.count + 1) (Running 0) = omega arith in
          let sent_is = start.sent_as_before run w rules follows.keeps node starts in
          record {
            begun =
                subst (λ b. CountBefore (step_time run.design j) (step_count run.design run.rounds j)
                (begun_by k (here.count + 1) (Running 0)) b) (sym now)
                (subst (λ m. CountBefore (step_time run.design j) (step_count run.design run.rounds j) m (suc moment))
                one_more
                (made_next (step_time run.design j) (step_count run.design run.rounds j) (here.count * k) moment
                (steps_rise run rules j within)
                (ap (step_time run.design j) (sym number_is) ∙ at.1) (made_at Waiting waits)));
            ended = subst (λ m. CountBefore (finish_time run.design j) (step_count run.design run.rounds j) m (fin j))
                so_far
                (subst (λ x. CountBefore (finish_time run.design j) (step_count run.design run.rounds j)
                (ended_by k here.count x) (fin j)) waits nf.ended);
            sent = subst (λ m. CountBefore (send_time run.design j) run.rounds m (se j)) (sym sent_is) nf.sent;
            since_is = λ step running. follows.time ∙ sym at.1 ∙ ap (step_time run.design j) (number_is ∙ so_far);
            ready_is =
                λ may. absurd (start.no_step_is_sent run w rules follows.keeps node starts
                (fits_at run j rules within) may);
            moments_are = λ round below. nf.moments_are round (subst (λ m. round < m) sent_is below);
          }

      start_follows : After later (world_after run w (event.Start node))
      start_follows =
          let bus = with_node w.bus j begun in
          let since = slice_set w.since j w.time in
          let in_bus = start.in_bus run w rules follows.keeps node starts in
          subst (After later) (sym (start.start_is run w rules follows.keeps node starts))
          (follows_again run w bus since w.ready w.sent_at j moment fin st se ar fin later se follows
          (start.start_begun run w rules follows.keeps node starts)
          (record {
            nodes = λ i other. node_stays w.bus j i begun other;
            since_stays = λ i other. get_or-set_other w.since j i w.time 0 other;
            ready_stays = λ i other. refl;
            sent_stays = λ i other. refl;
          })
          only
          (follows_put run j (node_at bus j) begun (slice_index_or since j 0) w.time (ready_at w j) (ready_at w j)
          (sendings w j) (sendings w j) (fin j) (later j) (se j) begun_follows
          (node_set w.bus j begun in_bus) (get_or-set_at w.since j j w.time 0 refl long_since) refl refl)
          (links_follow run w j moment begun fin st se ar follows
          (start.sent_as_before run w rules follows.keeps node starts)))

    -- ---- a step
    module _ (step : ℕ) (between : here.phase ≡ Between step) where
      number_now : number ≡ (here.count - 1) * k + step
      number_now = next_at (Between step) between

      alarm_then : step_alarm (plan_of run.design j) here step ≡ moment
      alarm_then =
          let below = (agrees_at (Between step) between).0.within in
          sym (step_is run rules j within (here.count - 1) step below)
          ∙ ap (step_time run.design j) (sym number_now) ∙ at.1

      is_step : begins k j number ≡ event.Step node
      is_step =
          let agrees = agrees_at (Between step) between in
          let rest : number % k ≡ step = ap (λ x. x % k) number_now
          ∙ mod-mul-add (here.count - 1) k step agrees.0.within in
          let some = agrees.1 in
          ap (λ (b : Bool). if b then event.Start node else event.Step node) (ne_eqb (number % k) 0 (λ e. omega arith))

      fine_step : fault_of run w (event.Step node) ≡ None
      fine_step =
          let shown = follows.readings j within in
          let alarm_is = alarm_then in
          let due : step_alarm (plan_of run.design j) here step ≤ reading_at w j = omega arith in
          step_is_fine run w node within (ap (λ q. is_some (next_step q)) between)
          (subst (λ q. step_alarm (plan_of run.design j) here (unwrap_or (next_step q) 0) ≤ reading_at w j)
          (sym between) due)

      steps : FaultlessStep run w node
      steps = steps_in_time run w node fine_step

      abbrev next : NodeState
      next = stepped step here

      next_follows : NodeOnSchedule run j next w.time (ready_at w j) (sendings w j) (fin j) (later j) (se j)
      next_follows =
          let one_more : suc ((here.count - 1) * k + step) ≡ begun_by k here.count (Running step) = omega arith in
          let number_is = number_now in
          record {
            begun =
                subst (λ b. CountBefore (step_time run.design j) (step_count run.design run.rounds j)
                (begun_by k here.count (Running step)) b) (sym now)
                (subst (λ m. CountBefore (step_time run.design j) (step_count run.design run.rounds j) m (suc moment))
                one_more
                (made_next (step_time run.design j) (step_count run.design run.rounds j) ((here.count - 1) * k + step)
                moment (steps_rise run rules j within)
                (ap (step_time run.design j) (sym number_is) ∙ at.1) (made_at (Between step) between)));
            ended =
                subst (λ x. CountBefore (finish_time run.design j) (step_count run.design run.rounds j)
                (ended_by k here.count x) (fin j)) between nf.ended;
            sent = nf.sent;
            since_is = λ other running. follows.time ∙ sym at.1 ∙ ap (step_time run.design j) number_is;
            ready_is = λ may. nf.ready_is (on.may_before run w rules follows.keeps node steps step between may);
            moments_are = nf.moments_are;
          }

      step_follows : After later (world_after run w (event.Step node))
      step_follows =
          let bus = with_node w.bus j next in
          let since = slice_set w.since j w.time in
          let in_bus = on.in_bus run w rules follows.keeps node steps in
          subst (After later) (sym (on.step_on_is run w rules follows.keeps node steps step between))
          (follows_again run w bus since w.ready w.sent_at j moment fin st se ar fin later se follows
          (on.step_between run w rules follows.keeps node steps step between)
          (record {
            nodes = λ i other. node_stays w.bus j i next other;
            since_stays = λ i other. get_or-set_other w.since j i w.time 0 other;
            ready_stays = λ i other. refl;
            sent_stays = λ i other. refl;
          })
          only
          (follows_put run j (node_at bus j) next (slice_index_or since j 0) w.time (ready_at w j) (ready_at w j)
          (sendings w j) (sendings w j) (fin j) (later j) (se j) next_follows
          (node_set w.bus j next in_bus) (get_or-set_at w.since j j w.time 0 refl long_since) refl refl)
          (links_follow run w j moment next fin st se ar follows refl))

    -- ---- no other phase
    -- a step that runs would have been finished
    not_running : (step : ℕ) → here.phase ≡ Running step → ⊥
    not_running step runs =
        let agrees = agrees_at (Running step) runs in
        let last = (here.count - 1) * k + step in
        let number_is : number ≡ (here.count - 1) * k + step + 1 = next_at (Running step) runs in
        let follows_on : number ≡ suc last = omega arith in
        let below = at.0 in
        let ended : CountBefore (finish_time run.design j) (step_count run.design run.rounds j) last (fin j) =
        subst (λ x. CountBefore (finish_time run.design j) (step_count run.design run.rounds j)
        (ended_by k here.count x)
        (fin j)) runs nf.ended in
        let waits : fin j ≤ finish_time run.design j last = ended.after last (omega arith) (omega arith) in
        let apart : step_time run.design j (suc last) ≡ step_time run.design j last + p =
        next_step_after run rules j within last in
        let same : step_time run.design j number ≡ step_time run.design j (suc last) =
        ap (step_time run.design j) follows_on in
        let here_at = at.1 in
        let room = gap in
        omega arith

    -- a round that is held would have been sent
    not_held : here.phase ≡ Holding → ⊥
    not_held holds =
        let agrees = agrees_at Holding holds in
        let some = some_rate run rules j within in
        let number_is : number ≡ here.count * k = next_at Holding holds in
        let same : here.count * k + 0 ≡ number = omega arith in
        let one : step_time run.design j (here.count * k + 0) ≡ alarm run.design.period here.count + 0 * p =
        step_is run rules j within here.count 0 some in
        let two : step_time run.design j (here.count * k + 0) ≡ step_time run.design j number =
        ap (step_time run.design j) same in
        let here_at = at.1 in
        let counted = agrees.under_way.count in
        let round = agrees.under_way.round in
        let sent_is : sent_rounds here ≡ round =
        ap (λ (b : Bool). if b then here.count else (here.count - 1)) agrees.sent
        ∙ pred_is here.count round counted in
        let most = rounds_at_most run w rules follows.keeps j within in
        let waits : se j ≤ send_time run.design j round = nf.sent.after round (omega arith) (omega arith) in
        let before = send_before run rules j within round in
        let alarms : alarm run.design.period (suc round) ≡ alarm run.design.period here.count =
        ap (alarm run.design.period) (sym counted) in
        let sends = sends_are in
        omega arith

    not_done : here.phase ≡ Done → ⊥
    not_done done =
        let agrees = agrees_at Done done in
        let number_is : number ≡ here.count * k = next_at Done done in
        let all : here.count * k ≡ run.rounds * k = ap (λ c. c * k) agrees.1 in
        let below = at.0 in
        omega arith

    abbrev pub Comes : Event → Type 0
    Comes e = (fault_of run w e ≡ None) × After later (world_after run w e)

    comes_by : (q : Phase) → here.phase ≡ q → Comes (begins k j number)
    comes_by Waiting same = subst Comes (sym (is_start same)) (fine_start same, start_follows same)
    comes_by (Running step) same = absurd (not_running step same)
    comes_by (Between step) same = subst Comes (sym (is_step step same)) (fine_step step same, step_follows step same)
    comes_by Holding same = absurd (not_held same)
    comes_by Done same = absurd (not_done same)

    pub start_comes : Comes (begins k j number)
    start_comes = comes_by here.phase refl
