-- Each schedule is whole: its events are within the bounds, and all nodes are done at its end.
use Rattle.std.proofs.Common.{◌≡◌, ◌≢◌, ℕ, suc, ◌+◌, ◌-◌, ◌*◌, ◌<◌, ◌≤◌, nat_eq, Bool, true, false, List, [], ◌∷◌, ◌++◌}
use Rattle.std.proofs.Common.{length, refl, sym, ap, ◌∙◌, subst, arith}
use Rattle.std.specs.Prelude.{replicate, if◌then◌else◌}
use Rattle.std.proofs.lemmas.Bool.{eqb-true, eqb-false, false≢true}
use Rattle.std.proofs.lemmas.Nat.{mul-le}
use Rattle.list_lemmas.proofs.ElementPositions.{get_or-map_constant}
use Rattle.pals_model.specs.declared.flight_copy.FlightCopy.{FlightCopy}
use Rattle.pals_runs.specs.declared.events_and_faults.Event.{Event}
use Rattle.pals_runs.specs.declared.events_and_faults.Event.TheVariants as event
use Rattle.pals_runs.specs.declared.phase.Phase.{Phase}
use Rattle.pals_runs.specs.declared.phase.Phase.TheVariants.{Waiting, Running, Between, Holding, Done}
use Rattle.bus_machine.specs.Plans.{plan_of, component_at, link_at}
use Rattle.bus_machine.specs.Nodes.{NodeState, opening_node, sent_rounds}
use Rattle.bus_machine.specs.BusStates.{node_at, flight_at}
use Rattle.bus_machine.specs.RunParameters.{Run}
use Rattle.bus_machine.specs.MissedMessages.{rounds_sent_on}
use Rattle.bus_machine.specs.Agreement.{PhaseAgrees}
use Rattle.bus_machine.specs.proof.AgreementLaws.{IsRunOf}
use Rattle.bus_machine.proofs.MessageAndRunAgreement.{node_opens}
use Rattle.run_laws.specs.Worlds.{World, opening_world, since_at, ready_at, sendings, world_after}
use Rattle.run_laws.specs.EventLists.{world_left}
use Rattle.world_gen.specs.proof.ScheduleLaws.{SchedulesAreWhole}
use Rattle.world_gen.specs.proof.Schedules.{step_time, finish_time, send_time, arrive_time, number_at_moment, all_of}
use Rattle.world_gen.specs.proof.Schedules.{step_count}
use Rattle.world_gen.specs.proof.Schedules.{begins, starts_at, finishes_at, sends_at, arrivals_at, finishes, events_at}
use Rattle.world_gen.specs.proof.Schedules.{AreMoments, schedule_at}
use Rattle.run_laws.proofs.WorldNodeTiming.{phase_agrees, rounds_at_most}
use Rattle.run_laws.proofs.WorldLinkTiming.{rule_of}
use Rattle.run_laws.proofs.OpeningWorlds.{opening_keeps_time, not_running}
use Rattle.world_gen.proofs.ScheduleTimes.{CountBefore, which_none, some_rate, some_step, least_step}
use Rattle.world_gen.proofs.WorldsOnSchedule.{begun_by, ended_by, NodeOnSchedule, IsOnSchedule, LeadsWithin, runs_none}
use Rattle.world_gen.proofs.WorldsOnSchedule.{runs_on}
use Rattle.world_gen.proofs.WorldsOnSchedule.{runs_all, runs_event, bump, bump_done, bump_left, bump_other}
use Rattle.world_gen.proofs.QuietTimes.{is_quiet, follows_same, none_starts, none_ends, none_sends, none_arrives}
use Rattle.world_gen.proofs.ScheduleStartsAndSteps.{start_comes}
use Rattle.world_gen.proofs.ScheduleFinishes.{finish_comes}
use Rattle.world_gen.proofs.ScheduleSends.{send_comes}
use Rattle.world_gen.proofs.ScheduleArrivals.{arrival_comes}
use Rattle.world_gen.proofs.ScheduleDeadlines.{all_at, waits_on, pass_fine, pass_follows}

runs_as : (run : Run) (w : World) (events : List Event) (P Q : World → Type 0) → LeadsWithin run w events P
    → ((v : World) → P v → Q v) → LeadsWithin run w events Q
runs_as run w events P Q runs go = record { within = runs.within; leaves = go (world_left run w events) runs.leaves }

module _ (run : Run) (rules : IsRunOf run) (moment : ℕ) where
  abbrev many : ℕ
  many = length run.design.components

  abbrev amin : ℕ
  amin = run.design.gamma.alpha_min

  -- ---- each kind of event
  ends_all : (st se ar : ℕ → ℕ) → ((j : ℕ) → j < many → moment < st j + amin) → (w : World)
      → IsOnSchedule run w moment (all_at moment) st se ar
      → LeadsWithin run w (finishes run.design run.rounds moment)
      (λ v. IsOnSchedule run v moment (all_at (suc moment)) st se ar)
  ends_all st se ar room w follows =
      let P : ℕ → World → Type 0 = λ j v. IsOnSchedule run v moment (bump moment j) st se ar in
      runs_as run w (finishes run.design run.rounds moment) (P many)
      (λ v. IsOnSchedule run v moment (all_at (suc moment)) st se ar)
      (runs_all run many (finishes_at run.design run.rounds moment) P
      (λ j v below before.
      runs_event run v (number_at_moment (finish_time run.design j) (step_count run.design run.rounds j) moment)
      (λ number. event.Finish (record { 0 = j })) (P (suc j))
      (λ none. none_ends run v moment j st se ar before none)
      (λ number is.
      finish_comes run rules v moment (bump moment j) st se ar before j below number is
      (bump_left moment j j (omega arith)) (room j below)
      (bump moment (suc j)) (bump_done moment (suc j) j (omega arith)) (λ i other. bump_other moment j i other)))
      w (follows_same run w moment (all_at moment) st se ar (bump moment 0) st se ar follows
      (λ j below. (sym (bump_left moment 0 j (omega arith)), refl, refl)) (λ l below. refl)))
      (λ v after. follows_same run v moment (bump moment many) st se ar (all_at (suc moment)) st se ar after
      (λ j below. (bump_done moment many j below, refl, refl)) (λ l below. refl))

  starts_all : (fin ar : ℕ → ℕ) → ((j : ℕ) → j < many → moment + amin < fin j + (plan_of run.design j).step_period)
      → (w : World)
      → IsOnSchedule run w moment fin (all_at moment) (all_at moment) ar
      → LeadsWithin run w (all_of many (starts_at run.design run.rounds moment))
      (λ v. IsOnSchedule run v moment fin (all_at (suc moment)) (all_at moment) ar)
  starts_all fin ar gap w follows =
      let P : ℕ → World → Type 0 = λ j v. IsOnSchedule run v moment fin (bump moment j) (all_at moment) ar in
      runs_as run w (all_of many (starts_at run.design run.rounds moment)) (P many)
      (λ v. IsOnSchedule run v moment fin (all_at (suc moment)) (all_at moment) ar)
      (runs_all run many (starts_at run.design run.rounds moment) P
      (λ j v below before.
      runs_event run v (number_at_moment (step_time run.design j) (step_count run.design run.rounds j) moment)
      (begins (plan_of run.design j).rate j) (P (suc j))
      (λ none. none_starts run v moment j fin (all_at moment) ar before none)
      (λ number is.
      start_comes run rules v moment fin (bump moment j) (all_at moment) ar before j below number is
      (bump_left moment j j (omega arith)) refl (gap j below)
      (bump moment (suc j)) (bump_done moment (suc j) j (omega arith)) (λ i other. bump_other moment j i other)))
      w (follows_same run w moment fin (all_at moment) (all_at moment) ar fin (bump moment 0) (all_at moment) ar follows
      (λ j below. (refl, sym (bump_left moment 0 j (omega arith)), refl)) (λ l below. refl)))
      (λ v after. follows_same run v moment fin (bump moment many) (all_at moment) ar fin (all_at (suc moment))
      (all_at moment) ar after (λ j below. (refl, bump_done moment many j below, refl)) (λ l below. refl))

  sends_all : (w : World) → IsOnSchedule run w moment (all_at (suc moment)) (all_at (suc moment)) (all_at moment)
      (all_at moment)
      → LeadsWithin run w (all_of many (sends_at run.design run.rounds moment))
      (λ v. IsOnSchedule run v moment (all_at (suc moment)) (all_at (suc moment)) (all_at (suc moment)) (all_at moment))
  sends_all w follows =
      let on : ℕ → ℕ = all_at (suc moment) in
      let at : ℕ → ℕ = all_at moment in
      let P : ℕ → World → Type 0 =
      λ j v. IsOnSchedule run v moment (all_at (suc moment)) (all_at (suc moment)) (bump moment j) (all_at moment) in
      runs_as run w (all_of many (sends_at run.design run.rounds moment)) (P many)
      (λ v. IsOnSchedule run v moment (all_at (suc moment)) (all_at (suc moment)) (all_at (suc moment)) (all_at moment))
      (runs_all run many (sends_at run.design run.rounds moment) P
      (λ j v below before.
      runs_event run v (number_at_moment (send_time run.design j) run.rounds moment)
      (λ round. event.Send (record { 0 = j })) (P (suc j))
      (λ none. none_sends run v moment j (all_at (suc moment)) (all_at (suc moment)) (all_at moment) before none)
      (λ number is.
      send_comes run rules v moment (all_at (suc moment)) (all_at (suc moment)) (bump moment j) (all_at moment) before j
      below number is (bump_left moment j j (omega arith)) refl refl (λ l. refl)
      (bump moment (suc j)) (bump_done moment (suc j) j (omega arith)) (λ i other. bump_other moment j i other)))
      w (follows_same run w moment on on at at on on (bump moment 0) at follows
      (λ j below. (refl, refl, sym (bump_left moment 0 j (omega arith)))) (λ l below. refl)))
      (λ v after. follows_same run v moment on on (bump moment many) at on on on at after
      (λ j below. (refl, refl, bump_done moment many j below)) (λ l below. refl))

  arrivals_all : (w : World)
      → IsOnSchedule run w moment (all_at (suc moment)) (all_at (suc moment)) (all_at (suc moment)) (all_at moment)
      → LeadsWithin run w (all_of (length run.design.links) (arrivals_at run.design run.rounds moment))
      (λ v. IsOnSchedule run v moment (all_at (suc moment)) (all_at (suc moment)) (all_at (suc moment))
      (all_at (suc moment)))
  arrivals_all w follows =
      let on : ℕ → ℕ = all_at (suc moment) in
      let at : ℕ → ℕ = all_at moment in
      let count = length run.design.links in
      let P : ℕ → World → Type 0 =
      λ l v. IsOnSchedule run v moment (all_at (suc moment)) (all_at (suc moment)) (all_at (suc moment))
      (bump moment l) in
      runs_as run w (all_of count (arrivals_at run.design run.rounds moment)) (P count)
      (λ v. IsOnSchedule run v moment (all_at (suc moment)) (all_at (suc moment)) (all_at (suc moment))
      (all_at (suc moment)))
      (runs_all run count (arrivals_at run.design run.rounds moment) P
      (λ l v below before.
      runs_event run v (number_at_moment (arrive_time run.design l) run.rounds moment)
      (λ round. event.Arrive (record { 0 = l }) round) (P (suc l))
      (λ none. none_arrives run v moment l rules (all_at (suc moment)) (all_at (suc moment)) (all_at (suc moment))
      before none)
      (λ round is.
      arrival_comes run rules v moment (all_at (suc moment)) (all_at (suc moment)) (all_at (suc moment)) (bump moment l)
      before l below round is (bump_left moment l l (omega arith)) (λ j inside. refl)
      (bump moment (suc l)) (bump_done moment (suc l) l (omega arith)) (λ i other. bump_other moment l i other)))
      w (follows_same run w moment on on on at on on on (bump moment 0) follows (λ j below. (refl, refl, refl))
      (λ l below. sym (bump_left moment 0 l (omega arith)))))
      (λ v after. follows_same run v moment on on on (bump moment count) on on on on after
      (λ j below. (refl, refl, refl)) (λ l below. bump_done moment count l below))

  -- ---- a moment
  abbrev At : World → Type 0
  At w = IsOnSchedule run w moment (all_at moment) (all_at moment) (all_at moment) (all_at moment)

  abbrev Behind : World → Type 0
  Behind w =
      IsOnSchedule run w moment (all_at (suc moment)) (all_at (suc moment)) (all_at (suc moment)) (all_at (suc moment))

  abbrev ends_of : List Event
  ends_of = finishes run.design run.rounds moment

  abbrev starts_of : List Event
  starts_of = all_of many (starts_at run.design run.rounds moment)

  abbrev sends_of : List Event
  sends_of = all_of many (sends_at run.design run.rounds moment)

  abbrev arrivals_of : List Event
  arrivals_of = all_of (length run.design.links) (arrivals_at run.design run.rounds moment)

  rest_runs : (w : World) → IsOnSchedule run w moment (all_at (suc moment)) (all_at (suc moment)) (all_at moment)
      (all_at moment) → LeadsWithin run w (sends_of ++ arrivals_of) Behind
  rest_runs w follows =
      runs_on run w sends_of arrivals_of
      (λ v. IsOnSchedule run v moment (all_at (suc moment)) (all_at (suc moment)) (all_at (suc moment)) (all_at moment))
      Behind (sends_all w follows) arrivals_all

  moment_by : (b : Bool) → nat_eq amin 0 ≡ b → (w : World) → At w
      → LeadsWithin run w ((if b then [] else ends_of)
      ++ (starts_of ++ ((if b then ends_of else []) ++ (sends_of ++ arrivals_of)))) Behind
  moment_by true is w follows =
      let none : amin ≡ 0 = eqb-true amin 0 is in
      let started : World → Type 0 =
      λ v. IsOnSchedule run v moment (all_at moment) (all_at (suc moment)) (all_at moment) (all_at moment) in
      let ended : World → Type 0 =
      λ v. IsOnSchedule run v moment (all_at (suc moment)) (all_at (suc moment)) (all_at moment) (all_at moment) in
      runs_on run w starts_of (ends_of ++ (sends_of ++ arrivals_of)) started Behind
      (starts_all (all_at moment) (all_at moment)
      (λ j below. let some = some_step run rules j below in omega arith) w follows)
      (λ v after. runs_on run v ends_of (sends_of ++ arrivals_of) ended Behind
      (ends_all (all_at (suc moment)) (all_at moment) (all_at moment) (λ j below. omega arith) v after) rest_runs)
  moment_by false is w follows =
      let some : amin ≢ 0 = eqb-false amin 0 is in
      let ended : World → Type 0 =
      λ v. IsOnSchedule run v moment (all_at (suc moment)) (all_at moment) (all_at moment) (all_at moment) in
      let started : World → Type 0 =
      λ v. IsOnSchedule run v moment (all_at (suc moment)) (all_at (suc moment)) (all_at moment) (all_at moment) in
      runs_on run w ends_of (starts_of ++ (sends_of ++ arrivals_of)) ended Behind
      (ends_all (all_at moment) (all_at moment) (all_at moment) (λ j below. omega arith) w follows)
      (λ v after. runs_on run v starts_of (sends_of ++ arrivals_of) started Behind
      (starts_all (all_at (suc moment)) (all_at moment)
      (λ j below. let least = least_step run rules j below in omega arith) v after) rest_runs)

  moment_runs : (w : World) → At w → LeadsWithin run w (events_at run.design run.rounds moment) Behind
  moment_runs w follows = moment_by (nat_eq amin 0) refl w follows

-- ---- all moments
-- if no event remains, each node is done
abbrev AreDone : Run → World → Type 0
AreDone run w = (j : ℕ) → j < length run.design.components → (node_at w.bus j).phase ≡ Done

module _ (run : Run) (rules : IsRunOf run) (w : World) (time from : ℕ)
    (follows : IsOnSchedule run w time (all_at from) (all_at from) (all_at from) (all_at from))
    (quiet : (later : ℕ) → from ≤ later → events_at run.design run.rounds later ≡ []) where
  module _ (j : ℕ) (below : j < length run.design.components) where
    abbrev here : NodeState
    here = node_at w.bus j

    abbrev k : ℕ
    k = (plan_of run.design j).rate

    abbrev nf : NodeOnSchedule run j here (since_at w j) (ready_at w j) (sendings w j) from from from
    nf = follows.nodes j below

    no_start : (number : ℕ) → number < step_count run.design run.rounds j → from ≤ step_time run.design j number → ⊥
    no_start number few late =
        which_none (step_time run.design j) (step_count run.design run.rounds j) (step_time run.design j number)
        ((is_quiet run.design run.rounds (step_time run.design j number)
        (quiet (step_time run.design j number) late)).starts j below) number few refl

    no_end : (number : ℕ) → number < step_count run.design run.rounds j → from ≤ finish_time run.design j number → ⊥
    no_end number few late =
        which_none (finish_time run.design j) (step_count run.design run.rounds j) (finish_time run.design j number)
        ((is_quiet run.design run.rounds (finish_time run.design j number)
        (quiet (finish_time run.design j number) late)).ends j below) number few refl

    no_send : (round : ℕ) → round < run.rounds → from ≤ send_time run.design j round → ⊥
    no_send round few late =
        which_none (send_time run.design j) run.rounds (send_time run.design j round)
        ((is_quiet run.design run.rounds (send_time run.design j round)
        (quiet (send_time run.design j round) late)).sends j below) round few refl

    within_rounds : (round step : ℕ) → here.count ≡ suc round → step < k
        → (here.count - 1) * k + step < step_count run.design run.rounds j
    within_rounds round step is less =
        let before : here.count - 1 ≡ round = omega arith in
        let product : (here.count - 1) * k ≡ round * k = ap (λ c. c * k) before in
        let most = rounds_at_most run w rules follows.keeps j below in
        let all : (round + 1) * k ≤ run.rounds * k = mul-le (round + 1) k run.rounds k (omega arith) (omega arith) in
        omega arith

    done_by : (q : Phase) → here.phase ≡ q → PhaseAgrees run j (component_at run.design j) here q → q ≡ Done
    done_by Waiting same agrees =
        let some = some_rate run rules j below in
        let few = agrees.1 in
        let begun =
        subst (λ x. CountBefore (step_time run.design j) (step_count run.design run.rounds j) (begun_by k here.count x)
        from) same nf.begun in
        let more : (here.count + 1) * k ≤ run.rounds * k =
        mul-le (here.count + 1) k run.rounds k (omega arith) (omega arith) in
        absurd (no_start (here.count * k) (omega arith) (begun.after (here.count * k) (omega arith) (omega arith)))
    done_by (Running step) same agrees =
        let number = (here.count - 1) * k + step in
        let inside = within_rounds agrees.under_way.round step agrees.under_way.count agrees.within in
        let ended =
        subst (λ x. CountBefore (finish_time run.design j) (step_count run.design run.rounds j)
        (ended_by k here.count x)
        from) same nf.ended in
        absurd (no_end number inside (ended.after number inside (omega arith)))
    done_by (Between steps) same agrees =
        let number = (here.count - 1) * k + steps in
        let inside = within_rounds agrees.0.under_way.round steps agrees.0.under_way.count agrees.0.within in
        let begun =
        subst (λ x. CountBefore (step_time run.design j) (step_count run.design run.rounds j) (begun_by k here.count x)
        from) same nf.begun in
        absurd (no_start number inside (begun.after number inside (omega arith)))
    done_by Holding same agrees =
        let round = agrees.under_way.round in
        let counted = agrees.under_way.count in
        let before : here.count - 1 ≡ round = omega arith in
        let sent : sent_rounds here ≡ round =
        ap (λ (b : Bool). if b then here.count else (here.count - 1)) agrees.sent ∙ before in
        let most = rounds_at_most run w rules follows.keeps j below in
        absurd (no_send round (omega arith) (nf.sent.after round (omega arith) (omega arith)))
    done_by Done same agrees = refl

    is_done : here.phase ≡ Done
    is_done = done_by here.phase refl (phase_agrees run w rules follows.keeps j below)

  all_done : AreDone run w
  all_done j below = is_done j below

moments_run : (run : Run) → IsRunOf run → (moments : List ℕ) (from time : ℕ) (w : World) → time ≤ from
    → IsOnSchedule run w time (all_at from) (all_at from) (all_at from) (all_at from)
    → AreMoments run.design run.rounds from moments
    → LeadsWithin run w (schedule_at run.design run.rounds moments) (AreDone run)
moments_run run rules [] from time w forward follows quiet =
    runs_none run w (AreDone run) (all_done run rules w time from follows quiet)
moments_run run rules (moment ∷ later) from time w forward follows order =
    let readings = replicate (length run.design.components) moment in
    let ahead : from ≤ moment = order.0 in
    let here = waits_on run rules w time from moment follows ahead order.1 in
    let fine = pass_fine run rules w time moment here (omega arith) in
    let passed = pass_follows run rules w time moment here (omega arith) in
    let v = world_after run w (event.Pass moment readings) in
    let one = moment_runs run rules moment v passed in
    let behind : World → Type 0 =
    λ u. IsOnSchedule run u moment (all_at (suc moment)) (all_at (suc moment)) (all_at (suc moment))
    (all_at (suc moment)) in
    let first : LeadsWithin run w (event.Pass moment readings ∷ events_at run.design run.rounds moment) behind =
    record { within = (fine, one.within); leaves = one.leaves } in
    runs_on run w (event.Pass moment readings ∷ events_at run.design run.rounds moment)
    (schedule_at run.design run.rounds later) behind (AreDone run) first
    (λ u after. moments_run run rules later (suc moment) moment u (omega arith) after order.3)

-- ---- the opening
opening_follows : (run : Run) → IsRunOf run
    → IsOnSchedule run (opening_world run) 0 (all_at 0) (all_at 0) (all_at 0) (all_at 0)
opening_follows run rules =
    let w = opening_world run in
    let cs = run.design.components in
    record {
      keeps = opening_keeps_time run rules;
      time = refl;
      readings = λ j below. get_or-map_constant 0 cs j;
      nodes = λ j below.
          let plan = plan_of run.design j in
          let n = opening_node plan in
          let none : 0 * plan.rate ≡ 0 = omega arith in
          let follows : NodeOnSchedule run j n 0 0 [] 0 0 0 = record {
            begun = record { before = λ number few is. absurd (omega arith); after = λ number few is. omega arith };
            ended = record { before = λ number few is. absurd (omega arith); after = λ number few is. omega arith };
            sent = record { before = λ number few is. absurd (omega arith); after = λ number few is. omega arith };
            since_is = λ step is. absurd (not_running step is);
            ready_is = λ may. absurd (false≢true may);
            moments_are = λ round is. absurd (omega arith);
          } in
          let one =
          subst (λ (m : NodeState). NodeOnSchedule run j m 0 0 [] 0 0 0) (sym (node_opens run j below)) follows in
          let two =
          subst (λ x. NodeOnSchedule run j (node_at w.bus j) x x [] 0 0 0) (sym (get_or-map_constant 0 cs j)) one in
          subst (λ l. NodeOnSchedule run j (node_at w.bus j) (since_at w j) (ready_at w j) l 0 0 0)
          (sym (get_or-map_constant {Y = List ℕ} [] cs j)) two;
      links = λ l below.
          let flies : flight_at w.bus l ≡ [] = get_or-map_constant {Y = List FlightCopy} [] run.design.links l in
          let from = node_opens run (link_at run.design l).source.0 (rule_of run l rules below).source.node_is in
          let sent : rounds_sent_on run w.bus l ≡ 0 = ap (λ (n : NodeState). sent_rounds n) from in
          record {
            waits = λ round some. omega arith;
            flies = λ round is due. absurd (omega arith);
          };
    }

pub schedules_are_whole : SchedulesAreWhole
schedules_are_whole run moments rules order =
    let runs = moments_run run rules moments 0 0 (opening_world run) (omega arith) (opening_follows run rules) order in
    record { within = runs.within; done = runs.leaves }
