-- The sends of a schedule are within the bounds.
use Rattle.std.proofs.Common.{◌≡◌, ◌≢◌, inl, inr, ℕ, suc, ◌+◌, ◌-◌, ◌*◌, ◌<◌, ◌≤◌, nat_eq, Bool, true, false, List, []}
use Rattle.std.proofs.Common.{◌∷◌, ◌++◌, length, Some, None, refl, sym, ap, ◌∙◌, subst, arith}
use Rattle.std.specs.Prelude.{if◌then◌else◌, slice_index_or, slice_set}
use Rattle.std.proofs.lemmas.Bool.{eqb-true, eq-eqb, cases_eq, cases_lt, cases_Bool, false≢true}
use Rattle.std.proofs.lemmas.List.{get_or-set_other, get_or_append_left}
use Rattle.std.proofs.lemmas.Nat.{mul-le}
use Rattle.std.proofs.Math.Seq.{get_or-append_seam}
use Rattle.pals_base.specs.declared.basic_types.NodeNo.{NodeNo}
use Rattle.pals_base.specs.PeriodBoundAndReleases.{alarm}
use Rattle.pals_model.specs.declared.flight_copy.FlightCopy.{FlightCopy}
use Rattle.pals_model.specs.Flights.{is_of}
use Rattle.pals_runs.specs.declared.events_and_faults.Event.{Event}
use Rattle.pals_runs.specs.declared.events_and_faults.Event.TheVariants as event
use Rattle.pals_runs.specs.declared.phase.Phase.{Phase}
use Rattle.pals_runs.specs.declared.phase.Phase.TheVariants.{Waiting, Running, Between, Holding, Done}
use Rattle.bus_machine.specs.Plans.{plan_of, component_at, link_at}
use Rattle.bus_machine.specs.Nodes.{NodeState, finished_steps, at_rest, sent_rounds}
use Rattle.bus_machine.specs.NodeEvents.{after_send, may_send}
use Rattle.bus_machine.specs.BusStates.{node_at, flight_at}
use Rattle.bus_machine.specs.RunParameters.{Run}
use Rattle.bus_machine.specs.MissedMessages.{rounds_sent_on}
use Rattle.bus_machine.specs.Agreement.{PhaseAgrees}
use Rattle.bus_machine.specs.proof.AgreementLaws.{IsRunOf}
use Rattle.run_laws.specs.Worlds.{World, since_at, ready_at, sendings, moved, is_held, world_after}
use Rattle.run_laws.specs.EventFaults.{fault_of}
use Rattle.bus_machine.proofs.StateChangeAgreement.{node_set, node_stays}
use Rattle.run_laws.specs.proof.WorldInvariant.{copies, one_if}
use Rattle.world_gen.specs.proof.Schedules.{step_time, finish_time, send_time, arrive_time, number_at_moment}
use Rattle.world_gen.specs.proof.Schedules.{step_count}
use Rattle.run_laws.proofs.Lists.{count_more}
use Rattle.run_laws.proofs.WorldNodeTiming.{fits_at, may_be, phase_agrees, rounds_at_most}
use Rattle.run_laws.proofs.WorldLinkTiming.{one_of_true, one_true}
use Rattle.run_laws.proofs.FaultlessEventConditions.{FaultlessSend, sends_in_time}
use Rattle.world_gen.proofs.FaultlessEvents.{send_is_fine}
use Rattle.run_laws.proofs.LocalWorldChanges.{moved_here, moved_other}
use Rattle.run_laws.proofs.WorldInvariantAfterSends.{runs_before}
use Rattle.run_laws.proofs.WorldInvariantAfterSends as send
use Rattle.world_gen.proofs.ScheduleTimes.{CountBefore, which_is, which_next, made_next, step_is, sends_rise}
use Rattle.world_gen.proofs.ScheduleTimes.{send_after}
use Rattle.world_gen.proofs.ScheduleTimes.{some_rate}
use Rattle.world_gen.proofs.WorldsOnSchedule.{begun_by, ended_by, NodeOnSchedule, LinkOnSchedule, IsOnSchedule}
use Rattle.world_gen.proofs.WorldsOnSchedule.{follows_again}
use Rattle.world_gen.proofs.WorldsOnSchedule.{follows_put}

-- a send leaves the steps that are begun and finished
rest_begun : (k count : ℕ) (all : Bool) → begun_by k count (at_rest all) ≡ count * k
rest_begun k count true = refl
rest_begun k count false = refl

rest_ended : (k count : ℕ) (all : Bool) → ended_by k count (at_rest all) ≡ count * k
rest_ended k count true = refl
rest_ended k count false = refl

same_begun : (k count rounds : ℕ) (q : Phase) → begun_by k count (after_send count rounds q) ≡ begun_by k count q
same_begun k count rounds Waiting = refl
same_begun k count rounds (Running step) = refl
same_begun k count rounds (Between steps) = refl
same_begun k count rounds Holding = rest_begun k count (nat_eq count rounds)
same_begun k count rounds Done = refl

same_ended : (k count rounds : ℕ) (q : Phase) → ended_by k count (after_send count rounds q) ≡ ended_by k count q
same_ended k count rounds Waiting = refl
same_ended k count rounds (Running step) = refl
same_ended k count rounds (Between steps) = refl
same_ended k count rounds Holding = rest_ended k count (nat_eq count rounds)
same_ended k count rounds Done = refl

-- no more steps are begun than the started rounds have
within_round : (count round k step : ℕ) → count ≡ suc round → step < k → (count - 1) * k + step + 1 ≤ count * k
within_round count round k step is below =
    let before : count - 1 ≡ round = omega arith in
    let product : (count - 1) * k ≡ round * k = ap (λ c. c * k) before in
    let all : count * k ≡ suc round * k = ap (λ c. c * k) is in
    omega arith

module _ (run : Run) (rules : IsRunOf run) (w : World) (moment : ℕ) (fin st se ar : ℕ → ℕ)
    (follows : IsOnSchedule run w moment fin st se ar)
    (j : ℕ) (within : j < length run.design.components) (number : ℕ)
    (is : number_at_moment (send_time run.design j) run.rounds moment ≡ Some number)
    (sends_are : se j ≡ moment) (starts_are : st j ≡ suc moment) (finishes_are : fin j ≡ suc moment)
    (arrivals_are : (l : ℕ) → ar l ≡ moment) where
  abbrev k : ℕ
  k = (plan_of run.design j).rate

  abbrev node : NodeNo
  node = record { 0 = j }

  abbrev here : NodeState
  here = node_at w.bus j

  abbrev nf : NodeOnSchedule run j here (since_at w j) (ready_at w j) (sendings w j) (fin j) (st j) (se j)
  nf = follows.nodes j within

  at : (number < run.rounds) × (send_time run.design j number ≡ moment)
  at = which_is (send_time run.design j) run.rounds moment number is

  made : CountBefore (send_time run.design j) run.rounds (sent_rounds here) moment
  made = subst (λ b. CountBefore (send_time run.design j) run.rounds (sent_rounds here) b) sends_are nf.sent

  next_is : number ≡ sent_rounds here
  next_is =
      which_next (send_time run.design j) run.rounds (sent_rounds here) moment number
      (sends_rise run rules j within) is made

  agrees_at : (q : Phase) → here.phase ≡ q → PhaseAgrees run j (component_at run.design j) here q
  agrees_at q same =
      subst (PhaseAgrees run j (component_at run.design j) here) same (phase_agrees run w rules follows.keeps j within)

  most_begun : (q : Phase) → here.phase ≡ q → begun_by k here.count q ≤ here.count * k
  most_begun Waiting same = omega arith
  most_begun (Running step) same = let a = agrees_at (Running step) same in
      within_round here.count a.under_way.round k step a.under_way.count a.within
  most_begun (Between steps) same =
      let a = agrees_at (Between steps) same in
      let more = within_round here.count a.0.under_way.round k steps a.0.under_way.count a.0.within in
      omega arith
  most_begun Holding same = omega arith
  most_begun Done same = omega arith

  -- a round that is sent before its time would have a later one begun
  not_sent : here.sent ≡ true → ⊥
  not_sent sent =
      let some = some_rate run rules j within in
      let all : sent_rounds here ≡ here.count = ap (λ (b : Bool). if b then here.count else (here.count - 1)) sent in
      let number_is = next_is in
      let few = at.0 in
      let more : (here.count + 1) * k ≤ run.rounds * k =
      mul-le (here.count + 1) k run.rounds k (omega arith) (omega arith) in
      let begun = most_begun here.phase refl in
      let waits : st j ≤ step_time run.design j (here.count * k + 0) =
      nf.begun.after (here.count * k + 0) (omega arith) (omega arith) in
      let one : step_time run.design j (here.count * k + 0)
      ≡ alarm run.design.period here.count + 0 * (plan_of run.design j).step_period =
      step_is run rules j within here.count 0 some in
      let late : alarm run.design.period here.count ≤ send_time run.design j here.count =
      send_after run rules j within here.count in
      let same : send_time run.design j number ≡ send_time run.design j here.count =
      ap (send_time run.design j) (number_is ∙ all) in
      let here_at = at.1 in
      let starts = starts_are in
      omega arith

  unsent : here.sent ≡ false
  unsent = elim (cases_Bool here.sent) [ inl sent ↦ absurd (not_sent sent) | inr none ↦ none ]

  last_is : number ≡ here.count - 1
  last_is = next_is ∙ ap (λ (b : Bool). if b then here.count else (here.count - 1)) unsent

  -- the last step that is sent is finished
  last_ended : (q : Phase) (round : ℕ) → here.phase ≡ q → here.count ≡ suc round
      → (here.count - 1) * k + ((plan_of run.design j).sent_steps - 1) < ended_by k here.count q
  last_ended q round same counted =
      let s = (plan_of run.design j).sent_steps in
      let fit = fits_at run j rules within in
      let some = fit.some in
      let all = fit.all in
      let few : s - 1 < k = omega arith in
      let last = (here.count - 1) * k + (s - 1) in
      let inside = within_round here.count round k (s - 1) counted few in
      let most = rounds_at_most run w rules follows.keeps j within in
      let product : here.count * k ≤ run.rounds * k = mul-le here.count k run.rounds k most (omega arith) in
      let one : step_time run.design j last ≡ alarm run.design.period (here.count - 1) + (s - 1) *
      (plan_of run.design j).step_period = step_is run rules j within (here.count - 1) (s - 1) few in
      let rounds : alarm run.design.period number ≡ alarm run.design.period (here.count - 1) =
      ap (alarm run.design.period) last_is in
      let here_at = at.1 in
      let finishes = finishes_are in
      let ended : CountBefore (finish_time run.design j) (step_count run.design run.rounds j) (ended_by k here.count q)
      (fin j) =
      subst (λ x. CountBefore (finish_time run.design j) (step_count run.design run.rounds j) (ended_by k here.count x)
      (fin j)) same nf.ended in
      elim (cases_lt last (ended_by k here.count q)) [
        | inl done ↦ done
        | inr not_yet ↦ let waits : fin j ≤ finish_time run.design j last = ended.after last (omega arith) not_yet in
            absurd (omega arith)
      ]

  may_by : (q : Phase) → here.phase ≡ q → may_send (plan_of run.design j) here ≡ true
  may_by Waiting same = absurd (false≢true (sym unsent ∙ (agrees_at Waiting same).0.sent))
  may_by (Running step) same =
      let u = (agrees_at (Running step) same).under_way in
      let last = last_ended (Running step) u.round same u.count in
      may_be (plan_of run.design j) here step unsent (ap (finished_steps k) same) (omega arith)
  may_by (Between steps) same =
      let u = (agrees_at (Between steps) same).0.under_way in
      let last = last_ended (Between steps) u.round same u.count in
      may_be (plan_of run.design j) here steps unsent (ap (finished_steps k) same) (omega arith)
  may_by Holding same =
      may_be (plan_of run.design j) here k unsent (ap (finished_steps k) same) (fits_at run j rules within).all
  may_by Done same = absurd (false≢true (sym unsent ∙ (agrees_at Done same).0.sent))

  fine_send : fault_of run w (event.Send node) ≡ None
  fine_send =
      let shown = follows.readings j within in
      let here_at = at.1 in
      let rounds : alarm run.design.period number ≡ alarm run.design.period (here.count - 1) =
      ap (alarm run.design.period) last_is in
      send_is_fine run w node within (may_by here.phase refl) (omega arith)

  sends : FaultlessSend run w node
  sends = sends_in_time run w node fine_send

  abbrev after : NodeState
  after = send.after run w rules follows.keeps node sends

  abbrev moments : List ℕ
  moments = sendings w j

  all_sent : here.count ≡ suc number
  all_sent = let counted = (send.begun run w rules follows.keeps node sends).1 in let last = last_is in omega arith

  abbrev pub After : (ℕ → ℕ) → World → Type 0
  After later v = IsOnSchedule run v moment fin st later ar

  module _ (later : ℕ → ℕ) (now : later j ≡ suc moment) (others : (i : ℕ) → i ≢ j → later i ≡ se i) where
    only : (i : ℕ) → i ≢ j → (fin i ≡ fin i) × (st i ≡ st i) × (later i ≡ se i)
    only i other = (refl, refl, others i other)

    moment_is : (round : ℕ) → round < here.count
        → slice_index_or (moments ++ w.time ∷ []) round 0 ≡ send_time run.design j round
    moment_is round below =
        let many = send.many run w rules follows.keeps node sends in
        let last = last_is in
        elim (cases_lt round (length moments)) [
          | inl before ↦
              get_or_append_left moments (w.time ∷ []) 0 round before
              ∙ nf.moments_are round (let sent = next_is in omega arith)
          | inr this ↦
              let same : round ≡ length moments = omega arith in
              let is_number : number ≡ round = omega arith in
              ap (λ i. slice_index_or (moments ++ w.time ∷ []) i 0) same ∙ get_or-append_seam moments w.time [] 0
              ∙ follows.time ∙ sym at.1 ∙ ap (send_time run.design j) is_number
        ]

    after_follows : NodeOnSchedule run j after (if is_held here.phase then w.time else since_at w j) (ready_at w j)
        (moments ++ w.time ∷ []) (fin j) (st j) (later j)
    after_follows =
        let one_more : suc (sent_rounds here) ≡ here.count = ap suc (sym next_is) ∙ sym all_sent in
        record {
          begun =
              subst (λ m. CountBefore (step_time run.design j) (step_count run.design run.rounds j) m (st j))
              (sym (same_begun k here.count run.rounds here.phase)) nf.begun;
          ended =
              subst (λ m. CountBefore (finish_time run.design j) (step_count run.design run.rounds j) m (fin j))
              (sym (same_ended k here.count run.rounds here.phase)) nf.ended;
          sent = subst (λ b. CountBefore (send_time run.design j) run.rounds here.count b) (sym now)
              (subst (λ m. CountBefore (send_time run.design j) run.rounds m (suc moment)) one_more
              (made_next (send_time run.design j) run.rounds (sent_rounds here) moment (sends_rise run rules j within)
              (ap (send_time run.design j) (sym next_is) ∙ at.1) made));
          since_is = λ step running.
              let runs : here.phase ≡ Running step = runs_before here.count run.rounds here.phase step running in
              ap (λ q. if is_held q then w.time else since_at w j) runs ∙ nf.since_is step runs
              ∙ ap (step_time run.design j) (sym (same_ended k here.count run.rounds here.phase));
          ready_is = λ may. absurd (false≢true may);
          moments_are = moment_is;
        }

    -- ---- the links
    link_from : (l : ℕ) → l < length run.design.links → (link_at run.design l).source.0 ≡ j
        → LinkOnSchedule run l here.count
        (flight_at w.bus l ++ send.new_copy run w rules follows.keeps node sends l (link_at run.design l)
        ∷ []) (ar l)
    link_from l inside from =
        let flight = flight_at w.bus l in
        let copy : FlightCopy = send.new_copy run w rules follows.keeps node sends l (link_at run.design l) in
        let before = follows.links l inside in
        let arrives : arrive_time run.design l number ≡ moment + run.design.gamma.mu_min =
        ap (λ i. send_time run.design i number + run.design.gamma.mu_min) from
        ∙ ap (λ x. x + run.design.gamma.mu_min) at.1 in
        let sent : rounds_sent_on run w.bus l ≡ number = ap (λ i. sent_rounds (node_at w.bus i)) from ∙ sym next_is in
        let all = all_sent in
        let last = last_is in
        let ar_is = arrivals_are l in
        record {
          waits = λ round some.
              let more : copies round (flight ++ copy ∷ []) ≡ copies round flight + one_if (is_of round copy) =
              count_more (is_of round) flight copy in
              elim (cases_lt 0 (copies round flight)) [
                | inl old ↦ before.waits round old
                | inr none ↦
                    let this : is_of round copy ≡ true = one_true (is_of round copy) (omega arith) in
                    let same : here.count - 1 ≡ round = eqb-true (here.count - 1) round this in
                    let at_number : arrive_time run.design l round ≡ arrive_time run.design l number =
                    ap (arrive_time run.design l) (sym same ∙ sym last) in
                    omega arith
              ];
          flies = λ round below due.
              let more : copies round (flight ++ copy ∷ []) ≡ copies round flight + one_if (is_of round copy) =
              count_more (is_of round) flight copy in
              elim (cases_lt round number) [
                | inl old ↦ let some = before.flies round (omega arith) due in omega arith
                | inr new ↦
                    let same : here.count - 1 ≡ round = omega arith in
                    let this : one_if (is_of round copy) ≡ 1 =
                    one_of_true (is_of round copy) (eq-eqb (here.count - 1) round same) in
                    omega arith
              ];
        }

    each_link : (l : ℕ) → l < length run.design.links
        → LinkOnSchedule run l (rounds_sent_on run (send.bus_sent run w rules follows.keeps node sends) l)
        (flight_at (send.bus_sent run w rules follows.keeps node sends) l) (ar l)
    each_link l inside =
        let source = (link_at run.design l).source.0 in
        let bus = send.bus_sent run w rules follows.keeps node sends in
        elim (cases_eq source j) [
          | inl from ↦
              let sent : rounds_sent_on run bus l ≡ here.count =
              ap (λ i. sent_rounds (node_at bus i)) from
              ∙ ap (λ (n : NodeState). sent_rounds n)
              (node_set w.bus j after (send.in_bus run w rules follows.keeps node sends)) in
              subst (λ m. LinkOnSchedule run l m (flight_at bus l) (ar l)) (sym sent)
              (subst (λ f. LinkOnSchedule run l here.count f (ar l))
              (sym (send.flight_here run w rules follows.keeps node sends l inside from)) (link_from l inside from))
          | inr other ↦
              let sent : rounds_sent_on run bus l ≡ rounds_sent_on run w.bus l =
              ap (λ (n : NodeState). sent_rounds n) (node_stays w.bus j source after other) in
              subst (λ m. LinkOnSchedule run l m (flight_at bus l) (ar l)) (sym sent)
              (subst (λ f. LinkOnSchedule run l (rounds_sent_on run w.bus l) f (ar l))
              (sym (send.flight_there run w rules follows.keeps node sends l inside other))
              (follows.links l inside))
        ]

    send_follows : After later (world_after run w (event.Send node))
    send_follows =
        let bus = send.bus_sent run w rules follows.keeps node sends in
        let since = moved (is_held here.phase) w.since j w.time in
        let sent_at = slice_set w.sent_at j (moments ++ w.time ∷ []) in
        let long : j < length w.since = let size = follows.keeps.moments.since in omega arith in
        follows_again run w bus since w.ready sent_at j moment fin st se ar fin st later follows
        (send.send_keeps_time run w rules follows.keeps node sends)
        (record {
          nodes = λ i other. node_stays w.bus j i after other;
          since_stays = λ i other. moved_other (is_held here.phase) w.since j i w.time other;
          ready_stays = λ i other. refl;
          sent_stays = λ i other. get_or-set_other w.sent_at j i (moments ++ w.time ∷ []) [] other;
        })
        only
        (follows_put run j (node_at bus j) after (slice_index_or since j 0)
        (if is_held here.phase then w.time else since_at w j) (ready_at w j) (ready_at w j)
        (slice_index_or sent_at j []) (moments ++ w.time ∷ []) (fin j) (st j) (later j) after_follows
        (node_set w.bus j after (send.in_bus run w rules follows.keeps node sends))
        (moved_here (is_held here.phase) w.since j w.time long) refl
        (send.moments_after run w rules follows.keeps node sends))
        each_link

    abbrev pub Comes : Event → Type 0
    Comes e = (fault_of run w e ≡ None) × After later (world_after run w e)

    pub send_comes : Comes (event.Send node)
    send_comes = (fine_send, send_follows)
