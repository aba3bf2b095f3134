-- Arrivals at their times, and time that passes no event, are within the bounds and maintain the invariant of timed
-- worlds.
use Rattle.std.proofs.Common.{◌≡◌, ◌≢◌, ℕ, ◌+◌, ◌-◌, ◌*◌, ◌<◌, ◌≤◌, true, false, List, length, Some, None, refl, sym}
use Rattle.std.proofs.Common.{ap, ◌∙◌}
use Rattle.std.proofs.Common.{subst, arith, slice_get}
use Rattle.std.specs.Prelude.{max, if◌then◌else◌}
use Rattle.std.proofs.lemmas.Bool.{eqb-true, false≢true}
use Rattle.list_lemmas.proofs.Options.{some_by_test}
use Rattle.std.proofs.lemmas.Option.{slice_get-get_or}
use Rattle.pals_base.specs.declared.basic_types.LinkNo.{LinkNo}
use Rattle.pals_model.specs.declared.flight_copy.FlightCopy.{FlightCopy}
use Rattle.pals_model.specs.Flights.{oldest}
use Rattle.pals_model.proofs.FirstMatches.{at_element}
use Rattle.pals_runs.specs.declared.events_and_faults.Event.TheVariants as event
use Rattle.pals_runs.specs.declared.journal.Arrived.TheVariants.{Kept}
use Rattle.pals_runs.specs.declared.phase.Phase.{Phase}
use Rattle.pals_runs.specs.declared.phase.Phase.TheVariants.{Waiting, Running, Between, Holding, Done}
use Rattle.bus_machine.specs.declared.plan.Plan.{Plan}
use Rattle.bus_machine.specs.Plans.{plan_of, link_at, no_link, component_at}
use Rattle.bus_machine.specs.Nodes.{NodeState, round_of, sent_rounds}
use Rattle.bus_machine.specs.NodeEvents.{may_send}
use Rattle.bus_machine.specs.AlarmsAndReleases.{release_reading}
use Rattle.bus_machine.specs.BusStates.{BusState, node_at, flight_at}
use Rattle.bus_machine.specs.RunParameters.{Run}
use Rattle.bus_machine.specs.MissedMessages.{rounds_sent_on}
use Rattle.bus_machine.specs.Agreement.{PhaseAgrees, IsCopy}
use Rattle.bus_machine.specs.proof.AgreementLaws.{IsRunOf}
use Rattle.bus_machine.proofs.ListsAndOldestCopies.{oldest_is_one}
use Rattle.bus_machine.proofs.SentRounds.{sent_most}
use Rattle.bus_machine.proofs.StateChangeAgreement.{node_set, node_stays}
use Rattle.run_laws.specs.Worlds.{World, since_at, ready_at, sendings, flight_since, world_after}
use Rattle.run_laws.specs.Deadlines.{last_before, phase_deadline, send_deadline, node_deadline, message_deadline}
use Rattle.run_laws.specs.EventFaults.{fault_of}
use Rattle.run_laws.specs.proof.WorldInvariant.{KeepsDeadline}
use Rattle.run_laws.proofs.FaultlessEventConditions.{FaultlessArrival, arrives_in_time}
use Rattle.run_laws.proofs.KeptWorldInvariant.{event_keeps_time}
use Rattle.run_laws.proofs.WorldInvariantAfterArrivals as arrive
use Rattle.run_laws.proofs.WorldLinkTiming.{rule_of}
use Rattle.run_laws.proofs.WorldNodeTiming.{both_in_time, phase_agrees, rounds_at_most, may_is}
use Rattle.run_laws.proofs.WorldNodeTiming.{sends_in_time as send_by}
use Rattle.world_gen.proofs.FaultlessEvents.{arrival_is_fine}
use Rattle.world_progress.proofs.FaultlessPasses.{pass_can_occur}
use Rattle.timely_worlds.specs.proof.EventTimes.{EventTimes, MeetBounds}
use Rattle.timely_worlds.specs.proof.ListsOnTime.{ArrivesOnTime, PassesOnTime, NextIsLater}
use Rattle.timely_worlds.proofs.TimedNodes.{NodeIsTimed, IsTimed, timed_put, nodes_again, in_run, rate_at}
use Rattle.timely_worlds.proofs.StartsAndSteps.{GoesRight}

module _ (run : Run) (rules : IsRunOf run) (times : EventTimes) (bounds : MeetBounds run times) (w : World)
    (timed : IsTimed run times w) where
  -- ---- a message in flight was sent at its time, in a round of the run
  record IsSent (link round : ℕ) : Type 0 where
    since : flight_since run w link round ≡ times.sends (link_at run.design link).source.0 round
    within : round < run.rounds

  sent_round : (link round : ℕ) → link < length run.design.links → round < rounds_sent_on run w.bus link
      → IsSent link round
  sent_round link round within sent =
      let source = (link_at run.design link).source.0 in
      let rule = rule_of run link rules within in
      let n = node_at w.bus source in
      let few = sent_most n.sent n.count in
      let most = rounds_at_most run w rules timed.keeps source rule.source.node_is in
      record {
        since = (timed.nodes source rule.source.node_is).moments_are round sent;
        within = omega arith;
      }

  sent_at_time : (link k : ℕ) (copy : FlightCopy) → link < length run.design.links
      → slice_get (flight_at w.bus link) k ≡ Some copy
      → IsSent link copy.round
  sent_at_time link k copy within is =
      let l = link_at run.design link in
      let agrees = timed.keeps.agrees.links link l (slice_get-get_or run.design.links link no_link within) in
      sent_round link copy.round within
      (at_element (IsCopy run link (rounds_sent_on run w.bus link)) (flight_at w.bus link) k copy agrees.flight
      is).round

  oldest_is_sent : (link round : ℕ) (copy : FlightCopy) → link < length run.design.links
      → oldest round (flight_at w.bus link) ≡ Some copy
      → IsSent link round
  oldest_is_sent link round copy within is =
      let l = link_at run.design link in
      let agrees = timed.keeps.agrees.links link l (slice_get-get_or run.design.links link no_link within) in
      let found =
      oldest_is_one (IsCopy run link (rounds_sent_on run w.bus link)) round (flight_at w.bus link) copy agrees.flight
      is in
      let of_round : copy.round ≡ round = eqb-true copy.round round found.1 in
      let sent = found.0.round in
      sent_round link round within (omega arith)

  -- ---- an arrival
  module _ (link : LinkNo) (round : ℕ) (on_time : ArrivesOnTime run times w link.0 round) where
    fine_arrival : fault_of run w (event.Arrive link round) ≡ None
    fine_arrival =
        let found = some_by_test (oldest round (flight_at w.bus link.0)) on_time.flies in
        let sent = oldest_is_sent link.0 round found.0 on_time.within found.1 in
        let since = sent.since in
        let now = on_time.now in
        let shortest = (bounds.messages link.0 round on_time.within sent.within).shortest in
        arrival_is_fine run w link round on_time.within on_time.flies (omega arith)

    arrives : FaultlessArrival run w link round
    arrives = arrives_in_time run w link round fine_arrival

    abbrev target : ℕ
    target = (link_at run.design link.0).target.0

    abbrev bus : BusState
    bus = arrive.bus_arrived run w rules timed.keeps link round arrives Kept

    abbrev holds : NodeState
    holds = arrive.holds run w rules timed.keeps link round arrives

    holds_timed : NodeIsTimed (plan_of run.design target) times target holds (since_at w target) (ready_at w target)
        (sendings w target)
    holds_timed =
        let before = timed.nodes target (rule_of run link.0 rules on_time.within).target.node_is in
        record { since_is = before.since_is; ready_is = before.ready_is; moments_are = before.moments_are }

    pub arrive_goes_right : GoesRight run times w (event.Arrive link round)
    arrive_goes_right = (
      fine_arrival,
      subst (IsTimed run times) (sym (arrive.arrive_is run w rules timed.keeps link round arrives)) (record {
        keeps = arrive.kept_keeps_time run w rules timed.keeps link round arrives;
        nodes = nodes_again run times w bus w.since w.ready w.sent_at target timed
            (record {
              nodes = λ i other. node_stays w.bus target i holds other;
              since_stays = λ i other. refl;
              ready_stays = λ i other. refl;
              sent_stays = λ i other. refl;
            })
            (timed_put (plan_of run.design target) times target (node_at bus target) holds
            (since_at w target) (since_at w target) (ready_at w target) (ready_at w target)
            (sendings w target) (sendings w target) holds_timed
            (node_set w.bus target holds (arrive.in_bus run w rules timed.keeps link round arrives))
            refl refl refl);
      }),
    )

  -- ---- a Pass
  module _ (time : ℕ) (readings : List ℕ) (on_time : PassesOnTime run times w time readings) where
    module _ (node : ℕ) (within : node < length run.design.components) where
      abbrev n : NodeState
      n = node_at w.bus node

      abbrev plan : Plan
      plan = plan_of run.design node

      agrees_at : (p : Phase) → n.phase ≡ p → PhaseAgrees run node (component_at run.design node) n p
      agrees_at p is =
          subst (PhaseAgrees run node (component_at run.design node) n) is
          (phase_agrees run w rules timed.keeps node within)

      next_by : (p : Phase) → n.phase ≡ p → NextIsLater times node n time p
          → KeepsDeadline time (phase_deadline run w node p)
      next_by Waiting is later =
          let agrees = agrees_at Waiting is in
          let some = rate_at run rules node within in
          let prompt = (bounds.steps node n.count 0 within agrees.1 some).prompt in
          omega arith
      next_by (Running step) is later =
          let in_round = in_run run w rules timed.keeps node within step is in
          let longest = (bounds.steps node (round_of n) step within in_round.0 in_round.1).longest in
          let since = (timed.nodes node within).since_is step is in
          omega arith
      next_by (Between step) is later =
          let agrees = agrees_at (Between step) is in
          let most = rounds_at_most run w rules timed.keeps node within in
          let count = agrees.0.under_way.count in
          let prompt = (bounds.steps node (round_of n) step within (omega arith) agrees.0.within).prompt in
          omega arith
      next_by Holding is later = tt
      next_by Done is later = tt

      -- a round that may be sent was started
      begun_round : (p : Phase) → n.phase ≡ p → n.sent ≡ false → 0 < n.count
      begun_round Waiting is unsent = absurd (false≢true (sym unsent ∙ (agrees_at Waiting is).0.sent))
      begun_round (Running step) is unsent = let count = (agrees_at (Running step) is).under_way.count in omega arith
      begun_round (Between steps) is unsent =
          let count = (agrees_at (Between steps) is).0.under_way.count in
          omega arith
      begun_round Holding is unsent = let count = (agrees_at Holding is).under_way.count in omega arith
      begun_round Done is unsent = absurd (false≢true (sym unsent ∙ (agrees_at Done is).0.sent))

      unsent_round : may_send plan n ≡ true → round_of n < run.rounds
      unsent_round may =
          let begun = begun_round n.phase refl (may_is plan n may).unsent in
          let most = rounds_at_most run w rules timed.keeps node within in
          omega arith

      send_later : may_send plan n ≡ true
          → time ≤ max (ready_at w node) (last_before (release_reading plan n) run.design.gamma.eps)
      send_later may =
          let later = (on_time.nodes node within).send may in
          let ready = (timed.nodes node within).ready_is may in
          let last = bounds.sends node (round_of n) within (unsent_round may) in
          omega arith

      node_later : KeepsDeadline time (node_deadline run w node)
      node_later =
          both_in_time time (phase_deadline run w node n.phase) (send_deadline run w node)
          (next_by n.phase refl (on_time.nodes node within).next)
          (send_by time _ (may_send plan n) send_later)

    message_later : (link k : ℕ) (copy : FlightCopy) → link < length run.design.links
        → slice_get (flight_at w.bus link) k ≡ Some copy
        → time ≤ message_deadline run w link copy.round
    message_later link k copy within is =
        let sent = sent_at_time link k copy within is in
        let since = sent.since in
        let longest = (bounds.messages link copy.round within sent.within).longest in
        let later = on_time.messages link k copy within is in
        omega arith

    fine_pass : fault_of run w (event.Pass time readings) ≡ None
    fine_pass =
        pass_can_occur run w time readings
        (record { many = on_time.many; forward = on_time.clocks_forward; near = on_time.clocks_near })
        on_time.forward node_later message_later

    pub pass_goes_right : GoesRight run times w (event.Pass time readings)
    pass_goes_right = (
      fine_pass,
      record {
        keeps = event_keeps_time run w (event.Pass time readings) rules timed.keeps fine_pass;
        nodes = λ node within.
            let before = timed.nodes node within in
            record { since_is = before.since_is; ready_is = before.ready_is; moments_are = before.moments_are };
      },
    )
