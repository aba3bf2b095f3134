-- The arrivals of a schedule are within the bounds.
use Rattle.std.proofs.Common.{◌≡◌, ◌≢◌, inl, inr, ℕ, suc, ◌+◌, ◌<◌, ◌≤◌, List, [], length, Some, None, refl, sym, ap}
use Rattle.std.proofs.Common.{◌∙◌, subst, arith}
use Rattle.std.proofs.lemmas.Bool.{eqb-true, eq-eqb, ne_eqb, cases_eq, cases_lt, cases_order}
use Rattle.std.proofs.lemmas.Grind.{get_or-set_at}
use Rattle.std.proofs.lemmas.List.{get_or-set_other}
use Rattle.list_lemmas.proofs.Elements.{find-passes}
use Rattle.list_lemmas.proofs.Options.{some_by_test}
use Rattle.pals_base.specs.declared.basic_types.LinkNo.{LinkNo}
use Rattle.pals_model.specs.declared.flight_copy.FlightCopy.{FlightCopy}
use Rattle.pals_model.specs.Flights.{is_of, oldest, without_oldest}
use Rattle.pals_runs.specs.declared.events_and_faults.Event.{Event}
use Rattle.pals_runs.specs.declared.events_and_faults.Event.TheVariants as event
use Rattle.pals_runs.specs.declared.journal.Arrived.TheVariants.{Kept}
use Rattle.bus_machine.specs.NodeEvents.{slot_at}
use Rattle.bus_machine.specs.BusStates.{BusState, node_at, flight_at}
use Rattle.bus_machine.specs.Plans.{link_at}
use Rattle.bus_machine.specs.RunParameters.{Run}
use Rattle.bus_machine.specs.MissedMessages.{rounds_sent_on}
use Rattle.bus_machine.specs.proof.AgreementLaws.{IsRunOf}
use Rattle.run_laws.specs.Worlds.{World, since_at, ready_at, sendings, flight_since, world_after}
use Rattle.run_laws.specs.EventFaults.{fault_of}
use Rattle.bus_machine.proofs.StateChangeAgreement.{node_set, node_stays}
use Rattle.run_laws.specs.proof.WorldInvariant.{copies, one_if}
use Rattle.world_gen.specs.proof.Schedules.{send_time, arrive_time, number_at_moment}
use Rattle.run_laws.proofs.Lists.{count_without}
use Rattle.run_laws.proofs.WorldLinkTiming.{rule_of, under_way, counts_in_flight, one_of_true, one_of_false}
use Rattle.run_laws.proofs.FaultlessEventConditions.{FaultlessArrival, arrives_in_time}
use Rattle.world_gen.proofs.FaultlessEvents.{arrival_is_fine}
use Rattle.run_laws.proofs.WorldInvariantAfterArrivals as arrive
use Rattle.world_gen.proofs.ScheduleTimes.{which_is, sends_rise}
use Rattle.world_gen.proofs.WorldsOnSchedule.{NodeOnSchedule, LinkOnSchedule, IsOnSchedule, nodes_follow, follows_put}

module _ (run : Run) (rules : IsRunOf run) (w : World) (moment : ℕ) (fin st se ar : ℕ → ℕ)
    (follows : IsOnSchedule run w moment fin st se ar)
    (l : ℕ) (within : l < length run.design.links) (round : ℕ)
    (is : number_at_moment (arrive_time run.design l) run.rounds moment ≡ Some round)
    (arrivals_are : ar l ≡ moment) (sends_are : (j : ℕ) → j < length run.design.components → se j ≡ suc moment) where
  abbrev link : LinkNo
  link = record { 0 = l }

  abbrev source : ℕ
  source = (link_at run.design l).source.0

  abbrev flight : List FlightCopy
  flight = flight_at w.bus l

  at : (round < run.rounds) × (arrive_time run.design l round ≡ moment)
  at = which_is (arrive_time run.design l) run.rounds moment round is

  from : source < length run.design.components
  from = (rule_of run l rules within).source.node_is

  abbrev lf : LinkOnSchedule run l (rounds_sent_on run w.bus l) flight (ar l)
  lf = follows.links l within

  abbrev nf : NodeOnSchedule run source (node_at w.bus source) (since_at w source) (ready_at w source)
      (sendings w source)
      (fin source) (st source) (se source)
  nf = follows.nodes source from

  arrives_rise : (a b : ℕ) → a < b → arrive_time run.design l a < arrive_time run.design l b
  arrives_rise a b less = let more = sends_rise run rules source from a b less in omega arith

  is_sent : round < rounds_sent_on run w.bus l
  is_sent =
      let now = at.1 in
      let sends = sends_are source from in
      elim (cases_lt round (rounds_sent_on run w.bus l)) [
        | inl sent ↦ sent
        | inr not_yet ↦ let waits : se source ≤ send_time run.design source round = nf.sent.after round at.0 not_yet in
            absurd (omega arith)
      ]

  some : 1 ≤ copies round flight
  some = let now = at.1 in let due = arrivals_are in lf.flies round is_sent (omega arith)

  fine_arrival : fault_of run w (event.Arrive link round) ≡ None
  fine_arrival =
      let time = follows.time in
      let now = at.1 in
      let moment_is : flight_since run w l round ≡ send_time run.design source round = nf.moments_are round is_sent in
      arrival_is_fine run w link round within (counts_in_flight round flight some) (omega arith)

  arrives : FaultlessArrival run w link round
  arrives = arrives_in_time run w link round fine_arrival

  abbrev target : ℕ
  target = (link_at run.design l).target.0

  abbrev bus : BusState
  bus = arrive.bus_arrived run w rules follows.keeps link round arrives Kept

  abbrev pub After : (ℕ → ℕ) → World → Type 0
  After later v = IsOnSchedule run v moment fin st se later

  module _ (later : ℕ → ℕ) (now : later l ≡ suc moment) (others : (i : ℕ) → i ≢ l → later i ≡ ar i) where
    copy_is : (copy : FlightCopy) × (oldest round flight ≡ Some copy)
    copy_is = some_by_test (oldest round flight) (counts_in_flight round flight some)

    this_link : LinkOnSchedule run l (rounds_sent_on run w.bus l) (without_oldest round flight) (later l)
    this_link =
        let copy = copy_is.0 in
        let of_round : copy.round ≡ round =
        eqb-true copy.round round (find-passes (is_of round) flight copy copy_is.1) in
        let n = node_at w.bus target in
        let u =
        under_way n.count (slot_at n (link_at run.design l).in_port) (rounds_sent_on run w.bus l) flight round
        ((follows.keeps.links l within).once round) some in
        let one = u.one in
        let here_at = at.1 in
        let due = arrivals_are in
        let later_is = now in
        record {
          waits = λ r left.
              let fewer : copies r (without_oldest round flight) + one_if (is_of r copy) ≡ copies r flight =
              count_without (is_of round) (is_of r) flight copy copy_is.1 in
              let before = lf.waits r (omega arith) in
              elim (cases_order r round) [
                | inl same ↦
                    let this : one_if (is_of r copy) ≡ 1 =
                    one_of_true (is_of r copy) (eq-eqb copy.round r (of_round ∙ sym same)) in
                    let at_round : copies r flight ≡ copies round flight = ap (λ x. copies x flight) same in
                    absurd (omega arith)
                | inr apart ↦ elim apart [
                  | inl less ↦ let rise = arrives_rise r round less in absurd (omega arith)
                  | inr more ↦ let rise = arrives_rise round r more in omega arith
                ]
              ];
          flies = λ r below ahead.
              let fewer : copies r (without_oldest round flight) + one_if (is_of r copy) ≡ copies r flight =
              count_without (is_of round) (is_of r) flight copy copy_is.1 in
              let before = lf.flies r below (omega arith) in
              let other : one_if (is_of r copy) ≡ 0 =
              one_of_false (is_of r copy)
              (ne_eqb copy.round r (λ e. let same : round ≡ r = sym of_round ∙ e in
              let at_same : arrive_time run.design l round ≡ arrive_time run.design l r =
              ap (arrive_time run.design l) same in omega arith)) in
              omega arith;
        }

    each_link : (i : ℕ) → i < length run.design.links
        → LinkOnSchedule run i (rounds_sent_on run bus i) (flight_at bus i) (later i)
    each_link i inside =
        let sent : rounds_sent_on run bus i ≡ rounds_sent_on run w.bus i =
        arrive.sent_stays run w rules follows.keeps link round arrives (link_at run.design i).source.0 in
        subst (λ m. LinkOnSchedule run i m (flight_at bus i) (later i)) (sym sent)
        (elim (cases_eq i l) [
          | inl same ↦
              let flies : flight_at bus l ≡ without_oldest round flight =
              get_or-set_at w.bus.flights l l (without_oldest round flight) [] refl
              (arrive.in_flights run w rules follows.keeps link round arrives) in
              subst (λ x. LinkOnSchedule run x (rounds_sent_on run w.bus x) (flight_at bus x) (later x)) (sym same)
              (subst (λ f. LinkOnSchedule run l (rounds_sent_on run w.bus l) f (later l)) (sym flies) this_link)
          | inr other ↦
              let flies : flight_at bus i ≡ flight_at w.bus i =
              get_or-set_other w.bus.flights l i (without_oldest round flight) [] other in
              subst (λ f. LinkOnSchedule run i (rounds_sent_on run w.bus i) f (later i)) (sym flies)
              (subst (λ x. LinkOnSchedule run i (rounds_sent_on run w.bus i) (flight_at w.bus i) x)
              (sym (others i other))
              (follows.links i inside))
        ])

    to : target < length run.design.components
    to = (rule_of run l rules within).target.node_is

    holds_follows : NodeOnSchedule run target (arrive.holds run w rules follows.keeps link round arrives)
        (since_at w target) (ready_at w target) (sendings w target) (fin target) (st target) (se target)
    holds_follows =
        let before = follows.nodes target to in
        record {
          begun = before.begun;
          ended = before.ended;
          sent = before.sent;
          since_is = before.since_is;
          ready_is = before.ready_is;
          moments_are = before.moments_are;
        }

    arrive_follows : After later (world_after run w (event.Arrive link round))
    arrive_follows =
        subst (After later) (sym (arrive.arrive_is run w rules follows.keeps link round arrives))
        (record {
          keeps = arrive.kept_keeps_time run w rules follows.keeps link round arrives;
          time = follows.time;
          readings = follows.readings;
          nodes = nodes_follow run w bus w.since w.ready w.sent_at target moment fin st se ar fin st se follows
              (record {
                nodes =
                    λ i other. node_stays w.bus target i
                    (arrive.holds run w rules follows.keeps link round arrives) other;
                since_stays = λ i other. refl;
                ready_stays = λ i other. refl;
                sent_stays = λ i other. refl;
              })
              (λ i other. (refl, refl, refl))
              (follows_put run target (node_at bus target) (arrive.holds run w rules follows.keeps link round arrives)
              (since_at w target) (since_at w target) (ready_at w target) (ready_at w target)
              (sendings w target) (sendings w target) (fin target) (st target) (se target) holds_follows
              (node_set w.bus target (arrive.holds run w rules follows.keeps link round arrives)
              (arrive.in_bus run w rules follows.keeps link round arrives)) refl refl refl);
          links = each_link;
        })

    abbrev pub Comes : Event → Type 0
    Comes e = (fault_of run w e ≡ None) × After later (world_after run w e)

    pub arrival_comes : Comes (event.Arrive link round)
    arrival_comes = (fine_arrival, arrive_follows)
