-- On the whole bus, a node's start, step, finish or send keeps the agreement with the composition.
use Rattle.std.proofs.Common.{◌≡◌, ℕ, suc, ◌+◌, ◌-◌, ◌<◌, ◌≤◌, nat_eq, Bool, true, false, List, [], ◌∷◌, ◌++◌, length}
use Rattle.std.proofs.Common.{map, slice_get, Option, Some, None, All, refl, sym, ap, ap₂, ◌∙◌, subst, arith}
use Rattle.std.specs.Prelude.{slice_index_or, if◌then◌else◌}
use Rattle.std.specs.List.{enumerate_from}
use Rattle.std.proofs.lemmas.Bool.{eqb-true, false≢true}
use Rattle.std.proofs.lemmas.List.Elements.{All-append, All-replicate}
use Rattle.std.proofs.lemmas.Option.{slice_get_within, get_or_from_slice_get}
use Rattle.list_lemmas.proofs.ListOperations.{length-map_enumerate_from}
use Rattle.bus_machine.proofs.SentRounds.{sent_most}
use Rattle.list_lemmas.proofs.Options.{option_map-none}
use Rattle.list_lemmas.proofs.ElementPositions.{get_or-map_constant}
use Rattle.pals_base.specs.declared.basic_types.PortValue.{PortValue}
use Rattle.pals_base.specs.declared.basic_types.NodeNo.{NodeNo}
use Rattle.pals_model.specs.declared.design.Component.{Component}
use Rattle.pals_model.specs.declared.design.Link.{Link}
use Rattle.pals_model.specs.declared.flight_copy.FlightCopy.{FlightCopy}
use Rattle.pals_model.specs.Delays.{delay_of}
use Rattle.pals_model.specs.ComponentInputs.{values_at}
use Rattle.pals_model.specs.Composition.{msg}
use Rattle.pals_model.specs.DesignRules.{IsComponent}
use Rattle.pals_model.proofs.FirstMatches.{at_element}
use Rattle.pals_runs.specs.declared.phase.Phase.{Phase}
use Rattle.pals_runs.specs.declared.phase.Phase.TheVariants.{Waiting, Running, Between, Holding, Done}
use Rattle.bus_machine.specs.Plans.{component_at, plan_of, link_at, no_link}
use Rattle.bus_machine.specs.Nodes.{NodeState, round_of, sent_rounds}
use Rattle.bus_machine.specs.NodeEvents.{is_waiting, missing, started, next_step, stepped, running_step, finished}
use Rattle.bus_machine.specs.NodeEvents.{may_send, sent_from, message_from, slot_at}
use Rattle.bus_machine.specs.LinkEvents.{sent_copy}
use Rattle.bus_machine.specs.BusStates.{BusState, node_at, flight_at, with_node}
use Rattle.bus_machine.specs.RunParameters.{Run}
use Rattle.bus_machine.specs.MissedMessages.{missing_link, link_into, rounds_sent_on}
use Rattle.bus_machine.specs.Machine.{after_start, on_step, flight_after_send, after_send}
use Rattle.bus_machine.specs.Agreement.{SlotAgrees, IsCopy, Agrees}
use Rattle.bus_machine.specs.proof.AgreementLaws.{IsRunOf}
use Rattle.bus_machine.proofs.ListsAndOldestCopies.{numbered_at}
use Rattle.bus_machine.proofs.InputAgreement.{SlotsAgree}
use Rattle.bus_machine.proofs.NodeEventLocalAgreement.{starts, steps_on, finishes, finish_keeps, sends, MaySend}
use Rattle.bus_machine.proofs.NodeEventLocalAgreement.{may_send_of}
use Rattle.bus_machine.proofs.NodeEventLocalAgreement.{sends_message}
use Rattle.bus_machine.proofs.StateChangeAgreement.{with_stop_agrees, with_flights_agrees, node_set, is_component}
use Rattle.bus_machine.proofs.StateChangeAgreement.{with_node_agrees, slots_of}

component_rate : (run : Run) (node : ℕ) (c : Component) → IsRunOf run → slice_get run.design.components node ≡ Some c
    → 1 ≤ c.rate
component_rate run node c rules is_c =
    (at_element (IsComponent run.design.period) run.design.components node c rules.design.components.each is_c).rate.0

-- ---- Start

pub is_waiting_phase : (p : Phase) → is_waiting p ≡ true → p ≡ Waiting
is_waiting_phase Waiting is = refl
is_waiting_phase (Running step) is = absurd (false≢true is)
is_waiting_phase (Between steps) is = absurd (false≢true is)
is_waiting_phase Holding is = absurd (false≢true is)
is_waiting_phase Done is = absurd (false≢true is)

pub start_keeps : (run : Run) (s : BusState) (node : NodeNo) (reading m : Option ℕ) → IsRunOf run → Agrees run s
    → is_waiting (node_at s node.0).phase ≡ true → missing_link run s node.0 ≡ m
    → Agrees run (after_start run s node reading m)
start_keeps run s node reading (Some link) rules agree waits missed = with_stop_agrees run s _ agree
start_keeps run s node reading None rules agree waits none =
    let n = node_at s node.0 in
    let c = component_at run.design node.0 in
    let is_c =
    is_component run s node.0 agree
    (λ gone. false≢true (sym (ap (λ (k : NodeState). is_waiting k.phase) gone) ∙ waits)) in
    let sent : sent_rounds n ≤ n.count = sent_most n.sent n.count in
    with_node_agrees run s node.0 c (started (plan_of run.design node.0) (values_at run.env n.count) n) agree is_c
    (starts run node.0 c n is_c (component_rate run node.0 c rules is_c) (agree.nodes node.0 c is_c)
    (slots_of run s node.0 agree) (is_waiting_phase n.phase waits)
    (option_map-none (link_into run.design node.0) (missing (plan_of run.design node.0) n) none))
    (omega arith)
    (λ number link is same. subst (λ slot. SlotAgrees run number (n.count + 1) slot)
    (sym (get_or-map_constant {Y = Option (List PortValue)} None n.slots link.in_port)) tt)

-- ---- Step
pub on_step_stop : (step : Option ℕ) (s : BusState) (go : ℕ → BusState) → ((i : ℕ) → (go i).stop ≡ s.stop)
    → (on_step step s go).stop ≡ s.stop
on_step_stop None s go same = refl
on_step_stop (Some i) s go same = same i

pub step_keeps : (run : Run) (s : BusState) (node : NodeNo) (p : Phase) → Agrees run s → (node_at s node.0).phase ≡ p
    → Agrees run (on_step (next_step p) s (λ step. with_node s node.0 (stepped step (node_at s node.0))))
step_keeps run s node Waiting agree is = agree
step_keeps run s node (Running step) agree is = agree
step_keeps run s node (Between steps) agree is =
    let n = node_at s node.0 in
    let c = component_at run.design node.0 in
    let is_c =
    is_component run s node.0 agree
    (λ gone. let both : Between steps ≡ Done = sym is ∙ ap (λ (k : NodeState). k.phase) gone in absurd (cc)) in
    with_node_agrees run s node.0 c (stepped steps n) agree is_c
    (steps_on run node.0 c n steps (agree.nodes node.0 c is_c) is) (omega arith) (slots_of run s node.0 agree)
step_keeps run s node Holding agree is = agree
step_keeps run s node Done agree is = agree

-- ---- Finish
same_slots : (run : Run) (node : ℕ) (n m : NodeState) → SlotsAgree run node n → m.count ≡ n.count → m.slots ≡ n.slots
    → SlotsAgree run node m
same_slots run node n m agree count slots number link is same =
    subst (λ held. SlotAgrees run number m.count (slice_index_or held link.in_port None)) (sym slots)
    (subst (λ k. SlotAgrees run number k (slot_at n link.in_port)) (sym count) (agree number link is same))

pub finish_keeps_all : (run : Run) (s : BusState) (node : NodeNo) (p : Phase) → IsRunOf run → Agrees run s
    → (node_at s node.0).phase ≡ p
    → Agrees run (on_step (running_step p) s
    (λ step. with_node s node.0 (finished (plan_of run.design node.0) run.rounds step (node_at s node.0))))
finish_keeps_all run s node Waiting rules agree is = agree
finish_keeps_all run s node (Running step) rules agree is =
    let n = node_at s node.0 in
    let c = component_at run.design node.0 in
    let is_c =
    is_component run s node.0 agree
    (λ gone. let both : Running step ≡ Done = sym is ∙ ap (λ (k : NodeState). k.phase) gone in absurd (cc)) in
    let m = finished (plan_of run.design node.0) run.rounds step n in
    let keeps = finish_keeps (plan_of run.design node.0) run.rounds step n in
    let sent : sent_rounds m ≡ sent_rounds n = ap₂ (λ b k. if b then k else (k - 1)) keeps.2 keeps.0 in
    with_node_agrees run s node.0 c m agree is_c
    (finishes run node.0 c n step is_c rules.design (agree.nodes node.0 c is_c) is) (omega arith)
    (same_slots run node.0 n m (slots_of run s node.0 agree) keeps.0 keeps.1)
finish_keeps_all run s node (Between steps) rules agree is = agree
finish_keeps_all run s node Holding rules agree is = agree
finish_keeps_all run s node Done rules agree is = agree

-- ---- Send
pub one_copy : (run : Run) (number sent : ℕ) (copy : FlightCopy) → IsCopy run number sent copy
    → All (IsCopy run number sent) (copy ∷ [])
one_copy run number sent copy is = All-replicate (IsCopy run number sent) 1 copy is

flight_grows : (run : Run) (number sent : ℕ) (flight : List FlightCopy) (copy : FlightCopy) (b : Bool)
    → All (IsCopy run number sent) flight → (b ≡ true → IsCopy run number sent copy)
    → All (IsCopy run number sent) (if b then flight ++ copy ∷ [] else flight)
flight_grows run number sent flight copy true all is =
    All-append (IsCopy run number sent) flight (copy ∷ []) all (one_copy run number sent copy (is refl))
flight_grows run number sent flight copy false all is = all

-- the node of a send, before it
pub sender_before : (run : Run) (s : BusState) (node : NodeNo) → Agrees run s
    → may_send (plan_of run.design node.0) (node_at s node.0) ≡ true
    → MaySend run node.0 (component_at run.design node.0) (node_at s node.0)
sender_before run s node agree may =
    let is_c =
    is_component run s node.0 agree
    (λ gone. false≢true (sym (ap (may_send (plan_of run.design node.0)) gone) ∙ may)) in
    may_send_of run node.0 (component_at run.design node.0) (node_at s node.0)
    (agree.nodes node.0 (component_at run.design node.0) is_c) may

pub send_keeps : (run : Run) (s : BusState) (node : NodeNo) (reading : Option ℕ) → IsRunOf run → Agrees run s
    → may_send (plan_of run.design node.0) (node_at s node.0) ≡ true → Agrees run (after_send run s node reading)
send_keeps run s node reading rules agree may =
    let n = node_at s node.0 in
    let c = component_at run.design node.0 in
    let is_c =
    is_component run s node.0 agree
    (λ gone. false≢true (sym (ap (may_send (plan_of run.design node.0)) gone) ∙ may)) in
    let here = agree.nodes node.0 c is_c in
    let m : MaySend run node.0 c n = may_send_of run node.0 c n here may in
    let sent = sent_from run.rounds n in
    let most : sent_rounds n ≤ n.count = sent_most n.sent n.count in
    let one : Agrees run (with_node s node.0 sent) =
    with_node_agrees run s node.0 c sent agree is_c (sends run node.0 c n is_c here) most
    (slots_of run s node.0 agree) in
    let counted : n.count ≡ suc m.under_way.round = m.under_way.count in
    let this : round_of n ≡ m.under_way.round = omega arith in
    let count = agree.node_count in
    let within : node.0 < length s.nodes = let below : node.0 < length run.design.components =
    slice_get_within run.design.components node.0 c is_c in omega arith in
    with_flights_agrees run (with_node s node.0 sent)
    (map (λ numbered. flight_after_send run s node reading numbered.0 numbered.1)
    (enumerate_from 0 run.design.links)) one
    (length-map_enumerate_from (λ (numbered : ℕ × Link). flight_after_send run s node reading numbered.0 numbered.1) 0
    run.design.links)
    (λ number link is.
    let rounds = rounds_sent_on run (with_node s node.0 sent) number in
    let copy =
    sent_copy (round_of n) reading (delay_of run.delays number (round_of n))
    (message_from (plan_of run.design node.0) n link.out_port) in
    subst (λ f. All (IsCopy run number rounds) f)
    (sym (numbered_at (λ (numbered : ℕ × Link). flight_after_send run s node reading numbered.0 numbered.1)
    run.design.links number link [] is))
    (flight_grows run number rounds (flight_at s number) copy (nat_eq link.source.0 node.0)
    (one.links number link is).flight
    (λ goes.
    let source : link.source.0 ≡ node.0 = eqb-true link.source.0 node.0 goes in
    let from : (link_at run.design number).source.0 ≡ node.0 =
    ap (λ (l : Link). l.source.0) (get_or_from_slice_get run.design.links number link no_link is) ∙ source in
    let all_sent : rounds ≡ n.count = ap (λ j. sent_rounds (node_at (with_node s node.0 sent) j)) from
    ∙ ap (λ (k : NodeState). sent_rounds k) (node_set s node.0 sent within) in
    record {
      round = omega arith;
      tuple =
          sends_message run node.0 number link c n is_c rules.design is source m
          ∙ ap (msg run.design run.env number) (sym this);
    })))
