-- The last part of the proof that runs agree with the composition: arrivals, losses and repeats keep the agreement,
-- and so do each step, the opening and each journal.
use Rattle.std.proofs.Common.{◌≡◌, inl, inr, ℕ, suc, ◌+◌, ◌<◌, ◌≤◌, nat_eq, Bool, true, false, List, [], ◌∷◌, ◌++◌}
use Rattle.std.proofs.Common.{length, slice_get, Option, Some, None, All, refl, sym, ap, ◌∙◌, subst, arith}
use Rattle.std.specs.Prelude.{nat_le, ◌&&◌, is_none, slice_set, if◌then◌else◌}
use Rattle.std.proofs.lemmas.Bool.{cases_eq, cases_lt, eqb-true, and_parts, false≢true}
use Rattle.std.proofs.lemmas.Grind.{get_or-set_at}
use Rattle.std.proofs.lemmas.List.{length-set, length-map, get_or-set_other, get_or_past}
use Rattle.std.proofs.lemmas.List.Elements.{All-append}
use Rattle.std.proofs.lemmas.Option.{slice_get_within, slice_get-get_or, get_or_from_slice_get}
use Rattle.list_lemmas.proofs.Options.{some_by_test}
use Rattle.list_lemmas.proofs.ElementPositions.{get_or-map_constant}
use Rattle.pals_base.specs.declared.basic_types.PortValue.{PortValue}
use Rattle.pals_base.specs.declared.basic_types.LinkNo.{LinkNo}
use Rattle.pals_base.specs.UpwardNumbers.{upwards}
use Rattle.pals_base.proofs.UpwardNumbers.{length-upwards, get_or-map_upwards}
use Rattle.pals_model.specs.declared.design.Component.{Component}
use Rattle.pals_model.specs.declared.design.Link.{Link}
use Rattle.pals_model.specs.declared.flight_copy.FlightCopy.{FlightCopy}
use Rattle.pals_model.specs.Flights.{oldest, without_oldest}
use Rattle.pals_model.specs.PortKindsAndRates.{ins_in}
use Rattle.pals_model.specs.Composition.{msg}
use Rattle.pals_model.specs.DesignRules.{IsLink}
use Rattle.pals_model.proofs.FirstMatches.{at_element}
use Rattle.pals_model.proofs.CompositionLaws.{state_begins}
use Rattle.pals_model.proofs.SourceLaws.{same_link}
use Rattle.pals_runs.specs.declared.phase.Phase.{Phase}
use Rattle.pals_runs.specs.declared.phase.Phase.TheVariants.{Waiting, Running, Between, Holding, Done}
use Rattle.pals_runs.specs.declared.journal.Arrived.{Arrived}
use Rattle.pals_runs.specs.declared.journal.Arrived.TheVariants.{Kept, Ignored, Early}
use Rattle.pals_model.specs.ComponentInputs.{sources_of}
use Rattle.bus_machine.specs.Plans.{input_of, component_at, no_component, plan_of, plan_for, link_at, no_link}
use Rattle.bus_machine.specs.Nodes.{NodeState, opening_node, sent_rounds}
use Rattle.bus_machine.specs.NodeEvents.{slot_at, arrived, with_message, received}
use Rattle.bus_machine.specs.LinkEvents.{is_in_flight, arriving, tuple_in, once_more, repeated}
use Rattle.bus_machine.specs.BusStates.{BusState, opening, node_at, no_node, flight_at, with_node, with_flight}
use Rattle.bus_machine.specs.RunParameters.{Run}
use Rattle.bus_machine.specs.MissedMessages.{missing_link, rounds_sent_on}
use Rattle.bus_machine.specs.Machine.{BusEvent, Start, Step, Finish, Send, Arrive, Drop, Repeat, arrival, early_stop}
use Rattle.bus_machine.specs.Machine.{after_arrive, after, is_allowed}
use Rattle.bus_machine.specs.Replay.{opens, goes_on}
use Rattle.bus_machine.specs.Agreement.{IsInRound, PhaseAgrees, NodeAgrees, SlotAgrees, IsCopy, Agrees}
use Rattle.bus_machine.specs.proof.AgreementLaws.{IsRunOf, OpeningAgrees, StepKeepsAgreement, ReplayAgrees}
use Rattle.bus_machine.proofs.ListsAndOldestCopies.{All-without_oldest, oldest_is_one}
use Rattle.bus_machine.proofs.InputAgreement.{SlotsAgree, length_sources}
use Rattle.bus_machine.proofs.StateChangeAgreement.{with_stop_agrees, with_flight_agrees, with_node_agrees, slots_of}
use Rattle.bus_machine.proofs.NodeEventBusAgreement.{one_copy, start_keeps, step_keeps, finish_keeps_all, send_keeps}

-- ---- a copy in flight
-- a link on which a copy is in flight is the design's
link_is : (run : Run) (s : BusState) (number round : ℕ) → Agrees run s → is_in_flight round (flight_at s number) ≡ true
    → slice_get run.design.links number ≡ Some (link_at run.design number)
link_is run s number round agree flies =
    let count = agree.flight_count in
    elim (cases_lt number (length s.flights)) [
      | inl within ↦ slice_get-get_or run.design.links number no_link (omega arith)
      | inr past ↦ absurd (false≢true (sym (ap (is_in_flight round) (get_or_past s.flights number [] past)) ∙ flies))
    ]

-- ---- Drop and Repeat
drop_keeps : (run : Run) (s : BusState) (number round : ℕ) → Agrees run s
    → is_in_flight round (flight_at s number) ≡ true
    → Agrees run (with_flight s number (without_oldest round (flight_at s number)))
drop_keeps run s number round agree flies =
    let copies = (agree.links number (link_at run.design number) (link_is run s number round agree flies)).flight in
    with_flight_agrees run s number (without_oldest round (flight_at s number)) agree
    (All-without_oldest (IsCopy run number (rounds_sent_on run s number)) round (flight_at s number) copies)

repeat_keeps : (run : Run) (s : BusState) (number round : ℕ) → Agrees run s
    → is_in_flight round (flight_at s number) ≡ true
    → Agrees run (with_flight s number (repeated round (flight_at s number)))
repeat_keeps run s number round agree flies =
    let flight = flight_at s number in
    let sent = rounds_sent_on run s number in
    let copies = (agree.links number (link_at run.design number) (link_is run s number round agree flies)).flight in
    let old = some_by_test (oldest round flight) flies in
    let copy : IsCopy run number sent old.0 =
    (oldest_is_one (IsCopy run number sent) round flight old.0 copies old.1).0 in
    with_flight_agrees run s number (repeated round flight) agree
    (subst (λ o. All (IsCopy run number sent) (flight ++ once_more o)) (sym old.1)
    (All-append (IsCopy run number sent) flight (old.0 ∷ []) copies (one_copy run number sent old.0 copy)))

-- ---- Arrive
-- a stored message is the message of the last round that its target has started
kept_when : (late fits : Bool) → (if late then Early else if fits then Kept else Ignored) ≡ Kept → fits ≡ true
kept_when true fits is = absurd (cc)
kept_when false true is = refl
kept_when false false is = absurd (cc)

kept_round : (n : NodeState) (port round : ℕ) → arrived n port round ≡ Kept → n.count ≡ suc round
kept_round n port round is =
    let fits = kept_when (nat_le n.count round) (nat_eq (round + 1) n.count && is_none (slot_at n port)) is in
    let parts = and_parts (nat_eq (round + 1) n.count) (is_none (slot_at n port)) fits in
    let same : round + 1 ≡ n.count = eqb-true (round + 1) n.count parts.0 in
    omega arith

-- a phase does not look at slots
same_round : (run : Run) (node : ℕ) (c : Component) (n : NodeState) (held : List (Option (List PortValue))) (steps : ℕ)
    → IsInRound run node c n steps → IsInRound run node c (record n { slots = held }) steps
same_round run node c n held steps agree =
    let w = agree.under_way in
    record {
      within = agree.within;
      under_way = record { round = w.round; count = w.count; reached = w.reached; vectors = w.vectors };
      finished = agree.finished;
    }

same_phase : (run : Run) (node : ℕ) (c : Component) (n : NodeState) (held : List (Option (List PortValue))) (p : Phase)
    → PhaseAgrees run node c n p → PhaseAgrees run node c (record n { slots = held }) p
same_phase run node c n held Waiting agree =
    (record { finished = agree.0.finished; frame = agree.0.frame; sent = agree.0.sent }, agree.1)
same_phase run node c n held (Running step) agree = same_round run node c n held step agree
same_phase run node c n held (Between steps) agree = (same_round run node c n held steps agree.0, agree.1)
same_phase run node c n held Holding agree =
    let w = agree.under_way in
    record {
      under_way = record { round = w.round; count = w.count; reached = w.reached; vectors = w.vectors };
      finished = agree.finished;
      sent = agree.sent;
    }
same_phase run node c n held Done agree =
    (record { finished = agree.0.finished; frame = agree.0.frame; sent = agree.0.sent }, agree.1)

-- what a message leaves of its target
pub record Receives (run : Run) (node : ℕ) (c : Component) (n m : NodeState) : Type 0 where
  pub agrees : NodeAgrees run node c m
  pub slots : SlotsAgree run node m
  pub sent : sent_rounds n ≤ sent_rounds m

receives : (run : Run) (s : BusState) (number round : ℕ) (link : Link) (c : Component) (tuple : List PortValue)
    (a : Arrived) → IsRunOf run → Agrees run s → slice_get run.design.links number ≡ Some link
    → slice_get run.design.components link.target.0 ≡ Some c → link.in_port < length c.behaviour.ins
    → tuple ≡ msg run.design run.env number round → arrived (node_at s link.target.0) link.in_port round ≡ a
    → Receives run link.target.0 c (node_at s link.target.0)
    (with_message (node_at s link.target.0) link.in_port tuple a)
receives run s number round link c tuple Early rules agree is is_c port told early =
    record { agrees = agree.nodes link.target.0 c is_c; slots = slots_of run s link.target.0 agree; sent = omega arith }
receives run s number round link c tuple Ignored rules agree is is_c port told ignored =
    record { agrees = agree.nodes link.target.0 c is_c; slots = slots_of run s link.target.0 agree; sent = omega arith }
receives run s number round link c tuple Kept rules agree is is_c port told kept =
    let n = node_at s link.target.0 in
    let here = agree.nodes link.target.0 c is_c in
    let size = here.slots in
    let within : link.in_port < length n.slots = omega arith in
    record {
      agrees =
          record {
            phase = same_phase run link.target.0 c n (slice_set n.slots link.in_port (Some tuple)) n.phase
                here.phase;
            parts = here.parts;
            rounds = here.rounds;
            slots = length-set n.slots link.in_port (Some tuple) ∙ size;
          };
      slots = λ other l is_l same. elim (cases_eq l.in_port link.in_port) [
        | inl port_same ↦
            let one : other ≡ number = same_link run.design other number l link rules.design is_l is same port_same in
            subst (λ slot. SlotAgrees run other n.count slot)
            (sym (get_or-set_at n.slots link.in_port l.in_port (Some tuple) None port_same within))
            (round, kept_round n link.in_port round kept, told ∙ ap (λ k. msg run.design run.env k round) (sym one))
        | inr port_other ↦
            subst (λ slot. SlotAgrees run other n.count slot)
            (sym (get_or-set_other n.slots link.in_port l.in_port (Some tuple) None port_other))
            (slots_of run s link.target.0 agree other l is_l same)
      ];
      sent = omega arith;
    }

arrive_keeps : (run : Run) (s : BusState) (link : LinkNo) (round : ℕ) (reading : Option ℕ) → IsRunOf run → Agrees run s
    → is_in_flight round (flight_at s link.0) ≡ true → Agrees run (after_arrive run s link round reading)
arrive_keeps run s link round reading rules agree flies =
    let number = link.0 in
    let flight = flight_at s number in
    let l = link_at run.design number in
    let is = link_is run s number round agree flies in
    let rule : IsLink run.design l =
    at_element (IsLink run.design) run.design.links number l rules.design.links.each is in
    let c = component_at run.design l.target.0 in
    let is_c : slice_get run.design.components l.target.0 ≡ Some c =
    slice_get-get_or run.design.components l.target.0 no_component rule.target.node_is in
    let port : l.in_port < length c.behaviour.ins = subst (λ o. l.in_port < ins_in o) is_c rule.target.port_is in
    let sent = rounds_sent_on run s number in
    let copies = (agree.links number l is).flight in
    let old = some_by_test (oldest round flight) flies in
    let copy = oldest_is_one (IsCopy run number sent) round flight old.0 copies old.1 in
    let of_round : old.0.round ≡ round = eqb-true old.0.round round copy.1 in
    let told : arriving round flight ≡ msg run.design run.env number round = ap tuple_in old.1 ∙ copy.0.tuple
    ∙ ap (msg run.design run.env number) of_round in
    let n = node_at s l.target.0 in
    let got =
    receives run s number round l c (arriving round flight) (arrived n l.in_port round) rules agree is is_c port
    told refl in
    let one =
    with_node_agrees run s l.target.0 c (received n l.in_port round (arriving round flight)) agree is_c got.agrees
    got.sent got.slots in
    let two =
    with_flight_agrees run (with_node s l.target.0 (received n l.in_port round (arriving round flight))) number
    (without_oldest round flight) one
    (All-without_oldest (IsCopy run number
    (rounds_sent_on run (with_node s l.target.0 (received n l.in_port round (arriving round flight))) number)) round
    flight (one.links number l is).flight) in
    with_stop_agrees run _ (early_stop link round reading (arrival run s link round)) two

-- ---- each step
keeps : (run : Run) (s : BusState) (e : BusEvent) → IsRunOf run → Agrees run s → is_allowed run s e ≡ true
    → Agrees run (after run s e)
keeps run s (Start node reading) rules agree may =
    start_keeps run s node reading (missing_link run s node.0) rules agree may refl
keeps run s (Step node reading) rules agree may = step_keeps run s node (node_at s node.0).phase agree refl
keeps run s (Finish node) rules agree may = finish_keeps_all run s node (node_at s node.0).phase rules agree refl
keeps run s (Send node reading) rules agree may = send_keeps run s node reading rules agree may
keeps run s (Arrive link round reading) rules agree may = arrive_keeps run s link round reading rules agree may
keeps run s (Drop link round) rules agree may = drop_keeps run s link.0 round agree may
keeps run s (Repeat link round) rules agree may = repeat_keeps run s link.0 round agree may

pub step_keeps_agreement : StepKeepsAgreement
step_keeps_agreement run s t e rules agree step =
    subst (Agrees run) (sym step.state) (keeps run s e rules agree step.allowed)

-- ---- the opening
opens_node : (run : Run) (node : ℕ) (c : Component) → IsRunOf run → slice_get run.design.components node ≡ Some c
    → NodeAgrees run node c (opening_node (plan_for run.design node c))
opens_node run node c rules is_c = record {
  phase = (
    record { finished = refl; frame = sym (state_begins run.design run.env node c is_c); sent = refl },
    rules.rounds,
  );
  parts = refl;
  rounds = omega arith;
  slots =
      length-map (plan_for run.design node c).inputs _ ∙ length-map (sources_of run.design node c) (input_of run.design)
      ∙ length_sources run.design node c;
}

pub node_opens : (run : Run) (node : ℕ) → node < length run.design.components
    → node_at (opening run) node ≡ opening_node (plan_of run.design node)
node_opens run node within =
    get_or-map_upwards (λ k. opening_node (plan_of run.design k)) (length run.design.components) node no_node within

pub opening_agrees : OpeningAgrees
opening_agrees run rules = record {
  node_count =
      length-map (upwards 0 (length run.design.components)) _ ∙ length-upwards 0 (length run.design.components);
  flight_count = length-map run.design.links _;
  nodes = λ node c is_c.
      let within = slice_get_within run.design.components node c is_c in
      let same : component_at run.design node ≡ c =
      get_or_from_slice_get run.design.components node c no_component is_c in
      subst (NodeAgrees run node c)
      (sym (node_opens run node within ∙ ap (λ d. opening_node (plan_for run.design node d)) same))
      (opens_node run node c rules is_c);
  links = λ number link is.
      let rule = at_element (IsLink run.design) run.design.links number link rules.design.links.each is in
      record {
        slot =
            subst (λ slot. SlotAgrees run number (node_at (opening run) link.target.0).count slot)
            (sym (ap (λ (n : NodeState). slot_at n link.in_port) (node_opens run link.target.0 rule.target.node_is)
            ∙ get_or-map_constant {Y = Option (List PortValue)} None
            (plan_of run.design link.target.0).inputs link.in_port)) tt;
        flight =
            subst (All (IsCopy run number (rounds_sent_on run (opening run) number)))
            (sym (get_or-map_constant {Y = List FlightCopy} [] run.design.links number))
            (λ k d none. absurd (omega arith));
      };
}

-- ---- each journal
pub replay_agrees : ReplayAgrees
replay_agrees run journal s rules opens = opening_agrees run rules
replay_agrees run journal s rules (goes_on {journal = before} {s = t} e replays step) =
    step_keeps_agreement run t s e rules (replay_agrees run before t rules replays) step
