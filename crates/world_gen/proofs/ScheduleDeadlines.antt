-- A schedule meets all deadlines: no deadline of a node or of a message in flight is before the next moment, so each
-- Pass is within the bounds, and after it the world has followed its schedule up to that moment.
use Rattle.std.proofs.Common.{◌≡◌, inl, inr, ℕ, suc, ◌+◌, ◌-◌, ◌*◌, ◌<◌, ◌≤◌, Bool, true, cond, List, [], length}
use Rattle.std.proofs.Common.{slice_get, Some, None, refl, sym, ap, ◌∙◌, subst, arith}
use Rattle.std.specs.Prelude.{max, replicate, if◌then◌else◌, slice_index_or}
use Rattle.std.proofs.lemmas.Bool.{cases_lt, eq-eqb}
use Rattle.std.proofs.lemmas.List.{get_or_past}
use Rattle.std.proofs.lemmas.List.Sums.{get_or-le-sum_by}
use Rattle.std.proofs.lemmas.Nat.{mul-le}
use Rattle.std.proofs.lemmas.Option.{slice_get_within, get_or_from_slice_get}
use Rattle.bus_machine.proofs.SentRounds.{sent_most}
use Rattle.pals_base.specs.PeriodBoundAndReleases.{alarm}
use Rattle.pals_model.specs.declared.flight_copy.FlightCopy.{FlightCopy}
use Rattle.pals_model.specs.Flights.{is_of}
use Rattle.pals_runs.specs.declared.events_and_faults.Event.TheVariants as event
use Rattle.pals_runs.specs.declared.phase.Phase.{Phase}
use Rattle.pals_runs.specs.declared.phase.Phase.TheVariants.{Waiting, Running, Between, Holding, Done}
use Rattle.bus_machine.specs.Plans.{plan_of, component_at, link_at}
use Rattle.bus_machine.specs.Nodes.{NodeState, sent_rounds}
use Rattle.bus_machine.specs.NodeEvents.{may_send, slot_at}
use Rattle.bus_machine.specs.AlarmsAndReleases.{start_alarm, step_alarm, release_reading}
use Rattle.bus_machine.specs.BusStates.{node_at, flight_at}
use Rattle.bus_machine.specs.RunParameters.{Run}
use Rattle.bus_machine.specs.MissedMessages.{rounds_sent_on}
use Rattle.bus_machine.specs.Agreement.{PhaseAgrees}
use Rattle.bus_machine.specs.proof.AgreementLaws.{IsRunOf}
use Rattle.run_laws.specs.Deadlines.{last_before, node_deadline, message_deadline}
use Rattle.run_laws.specs.Worlds.{World, reading_at, since_at, ready_at, sendings, world_after}
use Rattle.run_laws.specs.EventFaults.{fault_of}
use Rattle.bus_machine.proofs.NodeEventLocalAgreement.{MaySend, may_send_of}
use Rattle.run_laws.specs.proof.WorldInvariant.{KeepsDeadline, copies}
use Rattle.world_gen.specs.proof.Schedules.{step_time, finish_time, send_time, arrive_time, step_count, events_at}
use Rattle.run_laws.proofs.WorldNodeTiming.{may_is, phase_agrees, rounds_at_most, both_in_time, sends_in_time}
use Rattle.run_laws.proofs.WorldNodeTiming.{phase_last, send_last, deadline_is}
use Rattle.run_laws.proofs.WorldLinkTiming.{rule_of, one_of_true, under_way}
use Rattle.world_gen.proofs.FaultlessEvents.{pass_is_fine, replicate_at}
use Rattle.run_laws.proofs.TimePassage.{passes_in_time, pass_keeps_time}
use Rattle.run_laws.proofs.NodePicksAndRunReplay.{component_is}
use Rattle.world_gen.proofs.ScheduleTimes.{CountBefore, made_later, which_none, step_is, some_rate}
use Rattle.world_gen.proofs.QuietTimes.{IsQuiet, is_quiet}
use Rattle.world_gen.proofs.WorldsOnSchedule.{begun_by, ended_by, NodeOnSchedule, IsOnSchedule}

abbrev pub all_at : ℕ → ℕ → ℕ
all_at time j = time

-- ---- if no event is between two times, the events before the one are the events before the other
module _ (run : Run) (rules : IsRunOf run) (w : World) (moment from next : ℕ)
    (follows : IsOnSchedule run w moment (all_at from) (all_at from) (all_at from) (all_at from))
    (forward : from ≤ next) (quiet : (time : ℕ) → from ≤ time → time < next
    → events_at run.design run.rounds time ≡ []) where
  between : (time : ℕ) → from ≤ time → time < next → IsQuiet run.design run.rounds time
  between time above below = is_quiet run.design run.rounds time (quiet time above below)

  pub waits_on : IsOnSchedule run w moment (all_at next) (all_at next) (all_at next) (all_at next)
  waits_on = record {
    keeps = follows.keeps;
    time = follows.time;
    readings = follows.readings;
    nodes = λ j below.
        let n = node_at w.bus j in
        let before = follows.nodes j below in
        record {
          begun =
              made_later (step_time run.design j) (step_count run.design run.rounds j)
              (begun_by (plan_of run.design j).rate n.count n.phase) from next forward
              (λ number few above under.
              which_none (step_time run.design j) (step_count run.design run.rounds j)
              (step_time run.design j number) ((between (step_time run.design j number) above under).starts j below)
              number few refl)
              before.begun;
          ended =
              made_later (finish_time run.design j) (step_count run.design run.rounds j)
              (ended_by (plan_of run.design j).rate n.count n.phase) from next forward
              (λ number few above under.
              which_none (finish_time run.design j) (step_count run.design run.rounds j)
              (finish_time run.design j number)
              ((between (finish_time run.design j number) above under).ends j below) number few refl)
              before.ended;
          sent = made_later (send_time run.design j) run.rounds (sent_rounds n) from next forward
              (λ number few above under.
              which_none (send_time run.design j) run.rounds (send_time run.design j number)
              ((between (send_time run.design j number) above under).sends j below) number few refl)
              before.sent;
          since_is = before.since_is;
          ready_is = before.ready_is;
          moments_are = before.moments_are;
        };
    links = λ l below.
        let before = follows.links l below in
        let source = (link_at run.design l).source.0 in
        let n = node_at w.bus source in
        let target = node_at w.bus (link_at run.design l).target.0 in
        let source_is : source < length run.design.components = (rule_of run l rules below).source.node_is in
        let most = rounds_at_most run w rules follows.keeps source source_is in
        let fewer : sent_rounds n ≤ n.count = sent_most n.sent n.count in
        record {
          waits = λ round some.
              let due = before.waits round some in
              let is_sent =
              (under_way target.count (slot_at target (link_at run.design l).in_port) (rounds_sent_on run w.bus l)
              (flight_at w.bus l) round ((follows.keeps.links l below).once round) some).is_sent in
              elim (cases_lt (arrive_time run.design l round) next) [
                | inl early ↦ absurd (which_none (arrive_time run.design l) run.rounds (arrive_time run.design l round)
                    ((between (arrive_time run.design l round) due early).arrivals l below) round (omega arith) refl)
                | inr late ↦ late
              ];
          flies = λ round sent due. before.flies round sent (omega arith);
        };
  }

-- ---- the Pass to a moment
module _ (run : Run) (rules : IsRunOf run) (w : World) (time moment : ℕ)
    (follows : IsOnSchedule run w time (all_at moment) (all_at moment) (all_at moment) (all_at moment))
    (forward : time ≤ moment) where
  module _ (j : ℕ) (below : j < length run.design.components) where
    abbrev here : NodeState
    here = node_at w.bus j

    abbrev k : ℕ
    k = (plan_of run.design j).rate

    abbrev nf : NodeOnSchedule run j here (since_at w j) (ready_at w j) (sendings w j) moment moment moment
    nf = follows.nodes j below

    rounds_fit : (count : ℕ) → count ≤ run.rounds → count * k ≤ step_count run.design run.rounds j
    rounds_fit count few = mul-le count k run.rounds k few (omega arith)

    within_round : (count round step : ℕ) → count ≡ suc round → step < k → (count - 1) * k + step + 1 ≤ count * k
    within_round count round step is less =
        let before : count - 1 ≡ round = omega arith in
        let product : (count - 1) * k ≡ round * k = ap (λ c. c * k) before in
        let all : count * k ≡ suc round * k = ap (λ c. c * k) is in
        omega arith

    phase_in_time : (q : Phase) → here.phase ≡ q → PhaseAgrees run j (component_at run.design j) here q
        → KeepsDeadline moment (phase_last run.design.gamma (plan_of run.design j) here (since_at w j) q)
    phase_in_time Waiting same agrees =
        let some = some_rate run rules j below in
        let skew = rules.design.gamma.skew.0 in
        let few = agrees.1 in
        let begun =
        subst (λ x. CountBefore (step_time run.design j) (step_count run.design run.rounds j) (begun_by k here.count x)
        moment) same nf.begun in
        let more : (here.count + 1) * k ≤ step_count run.design run.rounds j =
        rounds_fit (here.count + 1) (omega arith) in
        let late : moment ≤ step_time run.design j (here.count * k + 0) =
        begun.after (here.count * k + 0) (omega arith) (omega arith) in
        let one : step_time run.design j (here.count * k + 0)
        ≡ alarm run.design.period here.count + 0 * (plan_of run.design j).step_period =
        step_is run rules j below here.count 0 some in
        let in_time : moment ≤ last_before (start_alarm (plan_of run.design j) here) run.design.gamma.eps =
        omega arith in
        in_time
    phase_in_time (Running step) same agrees =
        let number = (here.count - 1) * k + step in
        let inside = within_round here.count agrees.under_way.round step agrees.under_way.count agrees.within in
        let all = rounds_fit here.count (rounds_at_most run w rules follows.keeps j below) in
        let ended =
        subst (λ x. CountBefore (finish_time run.design j) (step_count run.design run.rounds j)
        (ended_by k here.count x)
        moment) same nf.ended in
        let late : moment ≤ finish_time run.design j number = ended.after number (omega arith) (omega arith) in
        let since : since_at w j ≡ step_time run.design j number = nf.since_is step same
        ∙ ap (λ q. step_time run.design j (ended_by k here.count q)) same in
        let range = rules.design.gamma.execution.0 in
        let in_time : moment ≤ since_at w j + run.design.gamma.alpha_max = omega arith in
        in_time
    phase_in_time (Between steps) same agrees =
        let number = (here.count - 1) * k + steps in
        let skew = rules.design.gamma.skew.0 in
        let inside = within_round here.count agrees.0.under_way.round steps agrees.0.under_way.count agrees.0.within in
        let all = rounds_fit here.count (rounds_at_most run w rules follows.keeps j below) in
        let begun =
        subst (λ x. CountBefore (step_time run.design j) (step_count run.design run.rounds j) (begun_by k here.count x)
        moment) same nf.begun in
        let late : moment ≤ step_time run.design j number = begun.after number (omega arith) (omega arith) in
        let one : step_time run.design j number ≡ alarm run.design.period (here.count - 1) + steps *
        (plan_of run.design j).step_period = step_is run rules j below (here.count - 1) steps agrees.0.within in
        let in_time : moment ≤ last_before (step_alarm (plan_of run.design j) here steps) run.design.gamma.eps =
        omega arith in
        in_time
    phase_in_time Holding same agrees = tt
    phase_in_time Done same agrees = tt

    send_late : may_send (plan_of run.design j) here ≡ true
        → moment ≤ max (ready_at w j) (last_before (release_reading (plan_of run.design j) here) run.design.gamma.eps)
    send_late may =
        let skew = rules.design.gamma.skew.0 in
        let m = may_is (plan_of run.design j) here may in
        let counted : MaySend run j (component_at run.design j) here =
        may_send_of run j (component_at run.design j) here
        (follows.keeps.agrees.nodes j (component_at run.design j) (component_is run j below)) may in
        let round = counted.under_way.round in
        let count_is = counted.under_way.count in
        let most = rounds_at_most run w rules follows.keeps j below in
        let before : here.count - 1 ≡ round = omega arith in
        let sent : sent_rounds here ≡ round =
        ap (λ (b : Bool). if b then here.count else (here.count - 1)) m.unsent ∙ before in
        let late : moment ≤ send_time run.design j round = nf.sent.after round (omega arith) (omega arith) in
        let alarms : alarm run.design.period (here.count - 1) ≡ alarm run.design.period round =
        ap (alarm run.design.period) before in
        let ready = nf.ready_is may in
        omega arith

    pub node_in_time : KeepsDeadline moment (node_deadline run w j)
    node_in_time =
        let g = run.design.gamma in
        let plan = plan_of run.design j in
        subst (KeepsDeadline moment) (sym (deadline_is run w j))
        (both_in_time moment (phase_last g plan here (since_at w j) here.phase) (send_last g plan here (ready_at w j))
        (phase_in_time here.phase refl (phase_agrees run w rules follows.keeps j below))
        (sends_in_time moment (max (ready_at w j) (last_before (release_reading plan here) g.eps))
        (may_send plan here) send_late))

  copy_counts : (number place : ℕ) (copy : FlightCopy) → slice_get (flight_at w.bus number) place ≡ Some copy
      → 1 ≤ copies copy.round (flight_at w.bus number)
  copy_counts number place copy is =
      let flight = flight_at w.bus number in
      let f : FlightCopy → ℕ = λ c. cond (is_of copy.round c) 1 0 in
      let one : f (slice_index_or flight place copy) ≤ copies copy.round flight =
      get_or-le-sum_by f flight place copy (slice_get_within flight place copy is) in
      let at : slice_index_or flight place copy ≡ copy = get_or_from_slice_get flight place copy copy is in
      let this : f (slice_index_or flight place copy) ≡ 1 = ap f at
      ∙ one_of_true (is_of copy.round copy) (eq-eqb copy.round copy.round refl) in
      omega arith

  message_in_time : (number place : ℕ) (copy : FlightCopy) → number < length run.design.links
      → slice_get (flight_at w.bus number) place ≡ Some copy
      → moment ≤ message_deadline run w number copy.round
  message_in_time number place copy below is =
      let some = copy_counts number place copy is in
      let source = (link_at run.design number).source.0 in
      let source_is : source < length run.design.components = (rule_of run number rules below).source.node_is in
      let target = node_at w.bus (link_at run.design number).target.0 in
      let sent =
      (under_way target.count (slot_at target (link_at run.design number).in_port) (rounds_sent_on run w.bus number)
      (flight_at w.bus number) copy.round ((follows.keeps.links number below).once copy.round) some).is_sent in
      let due : moment ≤ arrive_time run.design number copy.round =
      (follows.links number below).waits copy.round some in
      let at : slice_index_or (sendings w source) copy.round 0 ≡ send_time run.design source copy.round =
      (follows.nodes source source_is).moments_are copy.round sent in
      let range = rules.design.gamma.network.0 in
      omega arith

  shown : (node : ℕ) → reading_at w node ≤ moment
  shown node = elim (cases_lt node (length run.design.components)) [
    | inl below ↦ let at = follows.readings node below in omega arith
    | inr past ↦
        let size = follows.keeps.moments.readings in
        let none : reading_at w node ≡ 0 = get_or_past w.readings node 0 (omega arith) in
        omega arith
  ]

  abbrev shown_then : List ℕ
  shown_then = replicate (length run.design.components) moment

  pub pass_fine : fault_of run w (event.Pass moment (replicate (length run.design.components) moment)) ≡ None
  pass_fine =
      let at = follows.time in
      pass_is_fine run w moment rules.design.gamma.skew.0 (omega arith) shown (λ j below. node_in_time j below)
      message_in_time

  pub pass_follows : IsOnSchedule run
      (world_after run w (event.Pass moment (replicate (length run.design.components) moment))) moment (all_at moment)
      (all_at moment) (all_at moment) (all_at moment)
  pass_follows = record {
    keeps = pass_keeps_time run w moment shown_then follows.keeps (passes_in_time run w moment shown_then pass_fine);
    time = refl;
    readings = λ j below. replicate_at (length run.design.components) j moment below;
    nodes = follows.nodes;
    links = follows.links;
  }
