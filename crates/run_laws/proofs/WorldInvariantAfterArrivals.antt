-- An arrival without a fault stores its message in the slot and maintains the timing invariant of a world.
use Rattle.std.proofs.Common.{◌≡◌, ◌≢◌, inl, inr, ℕ, suc, ◌+◌, ◌<◌, nat_eq, true, false, List, [], length, Some, None}
use Rattle.std.proofs.Common.{refl, sym, ap, ◌∙◌, subst, arith}
use Rattle.std.specs.Prelude.{nat_lt}
use Rattle.std.proofs.lemmas.Bool.{and_left, and_right, and_from, eqb-true, eq-eqb, ne_eqb, cases_eq}
use Rattle.std.proofs.lemmas.Grind.{get_or-set_at}
use Rattle.std.proofs.lemmas.List.{get_or-set_other}
use Rattle.list_lemmas.proofs.Elements.{find-passes}
use Rattle.list_lemmas.proofs.Options.{some_by_test}
use Rattle.pals_base.specs.declared.basic_types.LinkNo.{LinkNo}
use Rattle.pals_base.specs.declared.basic_types.PortValue.{PortValue}
use Rattle.pals_model.specs.declared.flight_copy.FlightCopy.{FlightCopy}
use Rattle.pals_model.specs.Flights.{is_of, oldest, without_oldest}
use Rattle.pals_model.specs.PortKindsAndRates.{ins_in}
use Rattle.pals_model.proofs.SourceLaws.{same_link}
use Rattle.pals_runs.specs.declared.events_and_faults.Event.TheVariants as event
use Rattle.pals_runs.specs.declared.journal.Arrived.{Arrived}
use Rattle.pals_runs.specs.declared.journal.Arrived.TheVariants.{Kept}
use Rattle.bus_machine.specs.Plans.{plan_of, component_at, link_at}
use Rattle.bus_machine.specs.Nodes.{NodeState, sent_rounds}
use Rattle.bus_machine.specs.NodeEvents.{slot_at, with_message}
use Rattle.bus_machine.specs.LinkEvents.{is_in_flight, arriving}
use Rattle.bus_machine.specs.BusStates.{BusState, node_at, flight_at, with_node, with_flight}
use Rattle.bus_machine.specs.RunParameters.{Run}
use Rattle.bus_machine.specs.Machine.{Arrive, arrival, early_stop, after}
use Rattle.bus_machine.specs.Agreement.{Agrees}
use Rattle.bus_machine.specs.proof.AgreementLaws.{IsRunOf}
use Rattle.run_laws.specs.Worlds.{World, reading_at, since_at, ready_at, sendings, world_after}
use Rattle.bus_machine.proofs.MessageAndRunAgreement.{step_keeps_agreement}
use Rattle.bus_machine.proofs.StateChangeAgreement.{node_set, node_stays}
use Rattle.bus_machine.proofs.NodeReplacement.{keeps_at}
use Rattle.run_laws.specs.proof.WorldInvariant.{IsOnce, copies, waits, taken, one_if, KeepsLink, KeepsTime}
use Rattle.run_laws.proofs.Lists.{count_without}
use Rattle.run_laws.proofs.WorldNodeTiming.{Stands, stands_at}
use Rattle.run_laws.proofs.WorldLinkTiming.{comes_in_time, ComesInTime, is_kept, link_is, rule_of, one_of_true}
use Rattle.run_laws.proofs.WorldLinkTiming.{one_of_false, in_flight_counts, counts_in_flight}
use Rattle.run_laws.proofs.LocalWorldChanges.{changed, stands_put, keeps_again}
use Rattle.run_laws.proofs.FaultlessEventConditions.{FaultlessArrival}
use Rattle.run_laws.proofs.NodePicksAndRunReplay.{component_is}

-- ---- a round of the link
-- a copy leaves the flight, and its message waits in the slot
arrive_once_at : (count : ℕ) (tuple : List PortValue) (sent : ℕ) (flight : List FlightCopy) (round r : ℕ)
    (copy : FlightCopy) → count ≡ suc round → copy.round ≡ round
    → oldest round flight ≡ Some copy → IsOnce count None sent flight r
    → IsOnce count (Some tuple) sent (without_oldest round flight) r
arrive_once_at count tuple sent flight round r copy last is_round found once =
    let before : copies r flight + one_if (waits count None r) + one_if (taken count r) ≡ one_if (nat_lt r sent) =
    once in
    let waited : one_if (waits count None r) ≡ 0 =
    one_of_false (waits count None r) (and_right (nat_eq count (r + 1)) false refl) in
    let fewer : copies r (without_oldest round flight) + one_if (is_of r copy) ≡ copies r flight =
    count_without (is_of round) (is_of r) flight copy found in
    elim (cases_eq round r) [
      | inl same ↦
          let this : one_if (is_of r copy) ≡ 1 = one_of_true (is_of r copy) (eq-eqb copy.round r (is_round ∙ same)) in
          let now : one_if (waits count (Some tuple) r) ≡ 1 =
          one_of_true (waits count (Some tuple) r)
          (and_from (nat_eq count (r + 1)) true (eq-eqb count (r + 1) (omega arith)) refl) in
          let after : copies r (without_oldest round flight) + one_if (waits count (Some tuple) r) + one_if
          (taken count r) ≡ one_if (nat_lt r sent) = omega arith in
          after
      | inr other ↦
          let this : one_if (is_of r copy) ≡ 0 =
          one_of_false (is_of r copy) (ne_eqb copy.round r (λ e. other (sym is_round ∙ e))) in
          let now : one_if (waits count (Some tuple) r) ≡ 0 =
          one_of_false (waits count (Some tuple) r)
          (and_left (nat_eq count (r + 1)) true (ne_eqb count (r + 1) (λ e. other (omega arith)))) in
          let after : copies r (without_oldest round flight) + one_if (waits count (Some tuple) r) + one_if
          (taken count r) ≡ one_if (nat_lt r sent) = omega arith in
          after
    ]

fewer_in_flight : (round r : ℕ) (flight : List FlightCopy) (copy : FlightCopy) → oldest round flight ≡ Some copy
    → is_in_flight r (without_oldest round flight) ≡ true → is_in_flight r flight ≡ true
fewer_in_flight round r flight copy found flies =
    let some = in_flight_counts r (without_oldest round flight) flies in
    let fewer : copies r (without_oldest round flight) + one_if (is_of r copy) ≡ copies r flight =
    count_without (is_of round) (is_of r) flight copy found in
    counts_in_flight r flight (omega arith)

module _ (run : Run) (w : World) (rules : IsRunOf run) (keeps : KeepsTime run w) (link : LinkNo) (round : ℕ)
    (fine : FaultlessArrival run w link round) where
  abbrev pub target : ℕ
  target = (link_at run.design link.0).target.0

  abbrev pub port : ℕ
  port = (link_at run.design link.0).in_port

  abbrev pub here : NodeState
  here = node_at w.bus target

  abbrev pub flight : List FlightCopy
  flight = flight_at w.bus link.0

  abbrev pub tuple : List PortValue
  tuple = arriving round flight

  comes : ComesInTime run w rules keeps link.0 round
  comes = comes_in_time run w rules keeps link.0 round fine.within fine.flies fine.carried

  pub arrival_is_kept : arrival run w.bus link round ≡ Kept
  arrival_is_kept = is_kept run w rules keeps link.0 round comes

  -- the world after it, by the result of the arrival
  abbrev pub bus_arrived : Arrived → BusState
  bus_arrived a =
      record (with_flight (with_node w.bus target (with_message here port tuple a)) link.0
      (without_oldest round flight)) { stop = early_stop link round None a }

  abbrev pub holds : NodeState
  holds = with_message here port tuple Kept

  agrees_arrived : Agrees run (bus_arrived Kept)
  agrees_arrived =
      subst (λ a. Agrees run (bus_arrived a)) arrival_is_kept
      (step_keeps_agreement run w.bus (after run w.bus (Arrive link round None)) (Arrive link round None) rules
      keeps.agrees
      (record { going = keeps.going; allowed = fine.flies; state = refl }))

  pub to : target < length run.design.components
  to = (rule_of run link.0 rules fine.within).target.node_is

  pub in_bus : target < length w.bus.nodes
  in_bus = let count = keeps.agrees.node_count in let within = to in omega arith

  pub in_flights : link.0 < length w.bus.flights
  in_flights = let count = keeps.agrees.flight_count in let within = fine.within in omega arith

  has_slot : port < length here.slots
  has_slot =
      let is_c = component_is run target to in
      let slots = (keeps.agrees.nodes target (component_at run.design target) is_c).slots in
      let below : port < length (component_at run.design target).behaviour.ins =
      subst (λ o. port < ins_in o) is_c (rule_of run link.0 rules fine.within).target.port_is in
      omega arith

  holds_stands : Stands run.design.gamma (plan_of run.design target) holds (reading_at w target) w.time
      (since_at w target) (ready_at w target) (sendings w target)
  holds_stands =
      let before = stands_at run w target keeps to in
      record {
        clock = before.clock;
        in_time = before.in_time;
        keeps =
            record {
              started = before.keeps.started;
              finished = before.keeps.finished;
              running = before.keeps.running;
              unsent = before.keeps.unsent;
            };
        sends = record { each = before.sends.each; sent = before.sends.sent };
      }

  -- ---- the links
  pub sent_stays : (k : ℕ) → sent_rounds (node_at (bus_arrived Kept) k) ≡ sent_rounds (node_at w.bus k)
  sent_stays k = keeps_at (λ (n : NodeState). sent_rounds n) w.bus target k holds refl

  count_stays : (k : ℕ) → (node_at (bus_arrived Kept) k).count ≡ (node_at w.bus k).count
  count_stays k = keeps_at (λ (n : NodeState). n.count) w.bus target k holds refl

  abbrev pub world_arrived : Arrived → World
  world_arrived a = changed w (bus_arrived a) w.since w.ready w.sent_at

  this_link : KeepsLink run (world_arrived Kept) link.0 target port
  this_link =
      let source = (link_at run.design link.0).source.0 in
      let before = keeps.links link.0 fine.within in
      let old = some_by_test (oldest round flight) fine.flies in
      let of_round : old.0.round ≡ round = eqb-true old.0.round round (find-passes (is_of round) flight old.0 old.1) in
      let flies : flight_at (bus_arrived Kept) link.0 ≡ without_oldest round flight =
      get_or-set_at w.bus.flights link.0 link.0 (without_oldest round flight) [] refl in_flights in
      let slot : slot_at (node_at (bus_arrived Kept) target) port ≡ Some tuple =
      ap (λ (n : NodeState). slot_at n port) (node_set w.bus target holds in_bus)
      ∙ get_or-set_at here.slots port port (Some tuple) None refl has_slot in
      record {
        once = λ r.
            let was : IsOnce here.count None (sent_rounds (node_at w.bus source)) flight r =
            subst (λ o. IsOnce here.count o (sent_rounds (node_at w.bus source)) flight r) comes.empty
            (before.once r) in
            let one : IsOnce here.count (Some tuple) (sent_rounds (node_at w.bus source)) (without_oldest round flight)
            r =
            arrive_once_at here.count tuple (sent_rounds (node_at w.bus source)) flight round r old.0 comes.last
            of_round old.1 was in
            let two : IsOnce (node_at (bus_arrived Kept) target).count (Some tuple)
            (sent_rounds (node_at w.bus source)) (without_oldest round flight) r =
            subst (λ k. IsOnce k (Some tuple) (sent_rounds (node_at w.bus source)) (without_oldest round flight) r)
            (sym (count_stays target)) one in
            let three : IsOnce (node_at (bus_arrived Kept) target).count (Some tuple)
            (sent_rounds (node_at (bus_arrived Kept) source)) (without_oldest round flight) r =
            subst (λ k. IsOnce (node_at (bus_arrived Kept) target).count (Some tuple) k (without_oldest round flight) r)
            (sym (sent_stays source)) two in
            let four : IsOnce (node_at (bus_arrived Kept) target).count
            (slot_at (node_at (bus_arrived Kept) target) port) (sent_rounds (node_at (bus_arrived Kept) source))
            (without_oldest round flight) r =
            subst (λ o. IsOnce (node_at (bus_arrived Kept) target).count o
            (sent_rounds (node_at (bus_arrived Kept) source)) (without_oldest round flight) r) (sym slot) three in
            subst (λ f. IsOnce (node_at (bus_arrived Kept) target).count
            (slot_at (node_at (bus_arrived Kept) target) port) (sent_rounds (node_at (bus_arrived Kept) source)) f
            r) (sym flies) four;
        in_time =
            λ r flying. before.in_time r
            (fewer_in_flight round r flight old.0 old.1 (subst (λ f. is_in_flight r f ≡ true) flies flying));
      }

  other_slot : (number : ℕ) → number < length run.design.links → number ≢ link.0
      → slot_at (node_at (bus_arrived Kept) (link_at run.design number).target.0) (link_at run.design number).in_port
      ≡ slot_at (node_at w.bus (link_at run.design number).target.0) (link_at run.design number).in_port
  other_slot number within other =
      let l = link_at run.design number in
      elim (cases_eq l.target.0 target) [
        | inl same ↦
            let apart : l.in_port ≢ port =
            λ e. other (same_link run.design number link.0 l (link_at run.design link.0) rules.design
            (link_is run number within) (link_is run link.0 fine.within) same e) in
            ap (λ k. slot_at (node_at (bus_arrived Kept) k) l.in_port) same
            ∙ ap (λ (n : NodeState). slot_at n l.in_port) (node_set w.bus target holds in_bus)
            ∙ get_or-set_other here.slots port l.in_port (Some tuple) None apart
            ∙ sym (ap (λ k. slot_at (node_at w.bus k) l.in_port) same)
        | inr elsewhere ↦ ap (λ (n : NodeState). slot_at n l.in_port)
            (node_stays w.bus target l.target.0 holds elsewhere)
      ]

  other_link : (number : ℕ) → number < length run.design.links → number ≢ link.0
      → KeepsLink run (world_arrived Kept) number (link_at run.design number).target.0
      (link_at run.design number).in_port
  other_link number within other =
      let l = link_at run.design number in
      let before = keeps.links number within in
      let flies : flight_at (bus_arrived Kept) number ≡ flight_at w.bus number =
      get_or-set_other w.bus.flights link.0 number (without_oldest round flight) [] other in
      record {
        once = λ r.
            let was : IsOnce (node_at w.bus l.target.0).count (slot_at (node_at w.bus l.target.0) l.in_port)
            (sent_rounds (node_at w.bus l.source.0)) (flight_at w.bus number) r = before.once r in
            let one : IsOnce (node_at (bus_arrived Kept) l.target.0).count
            (slot_at (node_at w.bus l.target.0) l.in_port) (sent_rounds (node_at w.bus l.source.0))
            (flight_at w.bus number) r =
            subst (λ k. IsOnce k (slot_at (node_at w.bus l.target.0) l.in_port) (sent_rounds (node_at w.bus l.source.0))
            (flight_at w.bus number) r) (sym (count_stays l.target.0)) was in
            let two : IsOnce (node_at (bus_arrived Kept) l.target.0).count
            (slot_at (node_at (bus_arrived Kept) l.target.0) l.in_port) (sent_rounds (node_at w.bus l.source.0))
            (flight_at w.bus number) r =
            subst (λ o. IsOnce (node_at (bus_arrived Kept) l.target.0).count o (sent_rounds (node_at w.bus l.source.0))
            (flight_at w.bus number) r) (sym (other_slot number within other)) one in
            let three : IsOnce (node_at (bus_arrived Kept) l.target.0).count
            (slot_at (node_at (bus_arrived Kept) l.target.0) l.in_port)
            (sent_rounds (node_at (bus_arrived Kept) l.source.0)) (flight_at w.bus number) r =
            subst (λ k. IsOnce (node_at (bus_arrived Kept) l.target.0).count
            (slot_at (node_at (bus_arrived Kept) l.target.0) l.in_port) k (flight_at w.bus number) r)
            (sym (sent_stays l.source.0)) two in
            subst (λ f. IsOnce (node_at (bus_arrived Kept) l.target.0).count
            (slot_at (node_at (bus_arrived Kept) l.target.0) l.in_port)
            (sent_rounds (node_at (bus_arrived Kept) l.source.0)) f r) (sym flies) three;
        in_time = λ r flying. before.in_time r (subst (λ f. is_in_flight r f ≡ true) flies flying);
      }

  each_link : (number : ℕ) → number < length run.design.links
      → KeepsLink run (world_arrived Kept) number (link_at run.design number).target.0
      (link_at run.design number).in_port
  each_link number within = elim (cases_eq number link.0) [
    | inl same ↦ subst (λ k.
        KeepsLink run (world_arrived Kept) k (link_at run.design k).target.0 (link_at run.design k).in_port)
        (sym same) this_link
    | inr other ↦ other_link number within other
  ]

  pub kept_keeps_time : KeepsTime run (world_arrived Kept)
  kept_keeps_time =
      let sizes = keeps.moments in
      keeps_again run w (bus_arrived Kept) w.since w.ready w.sent_at keeps target
      refl
      agrees_arrived
      (record { readings = sizes.readings; since = sizes.since; ready = sizes.ready; sent_at = sizes.sent_at })
      (record {
        nodes = λ k other. node_stays w.bus target k holds other;
        since_stays = λ k other. refl;
        ready_stays = λ k other. refl;
        sent_stays = λ k other. refl;
      })
      (stands_put run w (bus_arrived Kept) w.since w.ready w.sent_at keeps target holds (since_at w target)
      (ready_at w target) (sendings w target) holds_stands
      (node_set w.bus target holds in_bus) refl refl refl)
      each_link

  pub arrive_keeps_time : KeepsTime run (world_after run w (event.Arrive link round))
  arrive_keeps_time = subst (λ a. KeepsTime run (world_arrived a)) (sym arrival_is_kept) kept_keeps_time

  pub arrive_is : world_after run w (event.Arrive link round) ≡ world_arrived Kept
  arrive_is = ap world_arrived arrival_is_kept
