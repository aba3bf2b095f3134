-- In each run the facts of each link about when its messages come due and where they are hold, event by event: the
-- claim LinksAreTimed.
use Rattle.std.proofs.Common.{◌≡◌, ◌≢◌, inl, inr, ℕ, ◌+◌, ◌<◌, ◌≤◌, nat_eq, true, false, cond, List, [], ◌∷◌, ◌++◌}
use Rattle.std.proofs.Common.{length, slice_get, Option, Some, None, refl, sym, ap, ◌∙◌, subst, arith}
use Rattle.std.specs.Prelude.{slice_index_or, if◌then◌else◌}
use Rattle.std.specs.Option.{option_map}
use Rattle.std.proofs.lemmas.Bool.{cases_eq, false≢true, eq-eqb, ne_eqb}
use Rattle.std.proofs.lemmas.Grind.{get_or-set_at}
use Rattle.std.proofs.lemmas.List.{get_or-set_other, append-nil}
use Rattle.std.proofs.lemmas.Option.{slice_get-get_or}
use Rattle.list_lemmas.proofs.ElementPositions.{get_or-map_constant}
use Rattle.pals_base.specs.declared.basic_types.NodeNo.{NodeNo}
use Rattle.pals_base.specs.declared.basic_types.LinkNo.{LinkNo}
use Rattle.pals_base.specs.declared.basic_types.PortValue.{PortValue}
use Rattle.pals_model.specs.declared.design.Link.{Link}
use Rattle.pals_model.specs.declared.flight_copy.FlightCopy.{FlightCopy}
use Rattle.pals_model.specs.ComponentInputs.{values_at}
use Rattle.pals_model.specs.Delays.{delay_of}
use Rattle.pals_model.specs.Flights.{oldest, without_oldest}
use Rattle.pals_model.specs.PortKindsAndRates.{ins_in}
use Rattle.pals_model.specs.DesignRules.{IsLink}
use Rattle.pals_model.proofs.FirstMatches.{at_element}
use Rattle.pals_model.proofs.SourceLaws.{same_link}
use Rattle.pals_runs.specs.declared.phase.Phase.{Phase}
use Rattle.pals_runs.specs.declared.phase.Phase.TheVariants.{Waiting, Running, Between, Holding, Done}
use Rattle.pals_runs.specs.declared.journal.Arrived.{Arrived}
use Rattle.pals_runs.specs.declared.journal.Arrived.TheVariants.{Kept, Ignored, Early}
use Rattle.pals_runs.specs.declared.journal.JournalEntry.{JournalEntry}
use Rattle.pals_runs.specs.declared.journal.JournalEntry.TheVariants as entry
use Rattle.bus_machine.specs.Plans.{plan_of, component_at, no_component, link_at, no_link}
use Rattle.bus_machine.specs.Nodes.{NodeState, round_of, sent_rounds}
use Rattle.bus_machine.specs.NodeEvents.{started, stepped, finished, sent_from, next_step, running_step, may_send}
use Rattle.bus_machine.specs.NodeEvents.{received, with_message, slot_at, message_from}
use Rattle.bus_machine.specs.LinkEvents.{arriving, sent_copy}
use Rattle.bus_machine.specs.BusStates.{BusState, opening, node_at, no_node, flight_at, with_node}
use Rattle.bus_machine.specs.RunParameters.{Run}
use Rattle.bus_machine.specs.MissedMessages.{missing_link}
use Rattle.bus_machine.specs.Machine.{BusEvent, Start, Step, Finish, Send, Arrive, Drop, Repeat, is_allowed, after}
use Rattle.bus_machine.specs.Machine.{after_start, after_send, after_arrive, on_step, arrival, early_stop}
use Rattle.bus_machine.specs.Machine.{flight_after_send}
use Rattle.run_laws.specs.TraceRules.{is_due}
use Rattle.bus_machine.specs.Replay.{entries, start_entry}
use Rattle.bus_machine.specs.Agreement.{Agrees}
use Rattle.bus_machine.specs.proof.AgreementLaws.{IsRunOf}
use Rattle.bus_machine.proofs.ListsAndOldestCopies.{numbered_at}
use Rattle.bus_machine.proofs.NodeEventLocalAgreement.{finish_keeps}
use Rattle.bus_machine.proofs.StateChangeAgreement.{node_stays}
use Rattle.bus_machine.proofs.MessageAndRunAgreement.{node_opens}
use Rattle.bus_machine.proofs.NodeReplacement.{keeps_at}
use Rattle.bus_machine.proofs.NodeEventBusAgreement.{sender_before}
use Rattle.run_laws.specs.JournalReadings.{if_at, start_in, send_in, starts, sends, latest}
use Rattle.pals_clock.specs.declared.clock.Clocks.{Clocks}
use Rattle.pals_clock.specs.declared.clock.Clocks.TheVariants.{Lists}
use Rattle.run_laws.specs.Runs.{Takes, KeepsTo, Runs, opens, picks_for, goes_on}
use Rattle.run_laws.specs.proof.LinkTiming.{early_on, view, LinksAreTimed}
use Rattle.run_laws.proofs.NodePicksAndRunReplay.{runs_agree}
use Rattle.run_laws.proofs.JournalStartsAndSends.{rounds_are_shown, stop_shows}
use Rattle.run_laws.proofs.LinkTimingPreservation.{goes_start, goes_send, goes_arrive, slot_after, taken_after}
use Rattle.run_laws.proofs.LinkTimingPreservation.{arrived_at}
use Rattle.run_laws.proofs.MissedLinks.{full_slot}
use Rattle.run_laws.proofs.MeetingReadings.{no_fall}
use Rattle.run_laws.proofs.EventReadings.{does_read, start_tells, arrive_tells, event_tells, later, latest_after}
use Rattle.run_laws.proofs.EventReadings.{NoFall}
use Rattle.run_laws.proofs.LinkViews.{same_view, send_at, none_at, sends_more, starts_more, grows_by, TimedIn}
use Rattle.run_laws.proofs.LinkViews.{stays_timed}

-- ---- Start
start_timed : (run : Run) (s : BusState) (node : NodeNo) (reading m : Option ℕ) (at : ℕ) (journal : List JournalEntry)
    (number : ℕ) (link : Link) → IsRunOf run → Agrees run s → slice_get run.design.links number ≡ Some link
    → node.0 < length run.design.components → reading ≡ Some at → TimedIn run s journal number link → s.stop ≡ None
    → missing_link run s node.0 ≡ m
    → latest run.design link.target.0 journal
    ≤ latest run.design link.target.0 (journal ++ start_entry run s node reading m ∷ [])
    → (node.0 ≡ link.target.0
    → latest run.design link.target.0 (journal ++ start_entry run s node reading m ∷ []) ≡ at)
    → TimedIn run (after_start run s node reading m) (journal ++ start_entry run s node reading m ∷ []) number link
start_timed run s node reading (Some missed) at journal number link rules agree is within shows timed going
    misses most last =
    stays_timed run s (after_start run s node reading (Some missed)) journal
    (start_entry run s node reading (Some missed) ∷ []) number link timed going most refl refl refl refl refl refl
start_timed run s node reading None at journal number link rules agree is within shows timed going misses most last =
    let n = node_at s node.0 in
    let m = started (plan_of run.design node.0) (values_at run.env n.count) n in
    let v = view run s journal number link in
    let t = with_node s node.0 m in
    let told = entry.Start node n.count reading ∷ [] in
    elim (cases_eq link.target.0 node.0) [
      | inl same ↦
          let count' = agree.node_count in
          let here : node_at t link.target.0 ≡ m =
          get_or-set_at s.nodes node.0 link.target.0 m no_node same (omega arith) in
          let latest' = last (sym same) in
          same_view (delay_of run.delays number) (view run t (journal ++ told) number link)
          (record v { starts = v.starts ++ at ∷ []; latest = at; count = v.count + 1; slot = None })
          (sends_more link.source.0 journal told [] refl ∙ append-nil (sends link.source.0 journal))
          (starts_more link.target.0 journal told (at ∷ [])
          (send_at node.0 link.target.0 node at reading refl (sym same) shows))
          latest'
          (ap (λ (k : NodeState). k.count) here ∙ ap (λ j. (node_at s j).count + 1) (sym same))
          (ap (λ (k : NodeState). slot_at k link.in_port) here
          ∙ get_or-map_constant {Y = Option (List PortValue)} None n.slots link.in_port)
          refl refl
          (goes_start (delay_of run.delays number) v at timed (ap (early_on number) going) (omega arith)
          (full_slot run s number link rules agree is (ap (missing_link run s) same ∙ misses)))
      | inr other ↦
          let stays : node_at t link.target.0 ≡ node_at s link.target.0 = node_stays s node.0 link.target.0 m other in
          stays_timed run s t journal told number link timed going most refl
          (none_at link.target.0 node reading (λ e. other (sym e)))
          (ap (λ (k : NodeState). k.count) stays) (ap (λ (k : NodeState). slot_at k link.in_port) stays) refl
          (ap (early_on number) going)
    ]

-- ---- Step and Finish
node_timed : (run : Run) (s : BusState) (j : ℕ) (m : NodeState) (journal told : List JournalEntry) (number : ℕ)
    (link : Link) → TimedIn run s journal number link → s.stop ≡ None
    → latest run.design link.target.0 journal ≤ latest run.design link.target.0 (journal ++ told)
    → sends link.source.0 told ≡ [] → starts link.target.0 told ≡ []
    → m.count ≡ (node_at s j).count → m.slots ≡ (node_at s j).slots
    → TimedIn run (with_node s j m) (journal ++ told) number link
node_timed run s j m journal told number link timed going most no_send no_start count slots =
    stays_timed run s (with_node s j m) journal told number link timed going most no_send no_start
    (keeps_at (λ (n : NodeState). n.count) s j link.target.0 m count)
    (keeps_at (λ (n : NodeState). slot_at n link.in_port) s j link.target.0 m
    (ap (λ held. slice_index_or held link.in_port None) slots))
    refl (ap (early_on number) going)

step_timed : (run : Run) (s : BusState) (node : NodeNo) (p : Phase) (journal told : List JournalEntry) (number : ℕ)
    (link : Link) → TimedIn run s journal number link → s.stop ≡ None
    → latest run.design link.target.0 journal ≤ latest run.design link.target.0 (journal ++ told)
    → sends link.source.0 told ≡ [] → starts link.target.0 told ≡ []
    → TimedIn run (on_step (next_step p) s (λ i. with_node s node.0 (stepped i (node_at s node.0))))
    (journal ++ told) number link
step_timed run s node Waiting journal told number link timed going most no_send no_start =
    stays_timed run s s journal told number link timed going most no_send no_start refl refl refl
    (ap (early_on number) going)
step_timed run s node (Running i) journal told number link timed going most no_send no_start =
    stays_timed run s s journal told number link timed going most no_send no_start refl refl refl
    (ap (early_on number) going)
step_timed run s node (Between i) journal told number link timed going most no_send no_start =
    node_timed run s node.0 (stepped i (node_at s node.0)) journal told number link timed going most no_send
    no_start refl refl
step_timed run s node Holding journal told number link timed going most no_send no_start =
    stays_timed run s s journal told number link timed going most no_send no_start refl refl refl
    (ap (early_on number) going)
step_timed run s node Done journal told number link timed going most no_send no_start =
    stays_timed run s s journal told number link timed going most no_send no_start refl refl refl
    (ap (early_on number) going)

finish_timed : (run : Run) (s : BusState) (node : NodeNo) (p : Phase) (journal told : List JournalEntry) (number : ℕ)
    (link : Link) → TimedIn run s journal number link → s.stop ≡ None
    → latest run.design link.target.0 journal ≤ latest run.design link.target.0 (journal ++ told)
    → sends link.source.0 told ≡ [] → starts link.target.0 told ≡ []
    → TimedIn run (on_step (running_step p) s
    (λ i. with_node s node.0 (finished (plan_of run.design node.0) run.rounds i (node_at s node.0))))
    (journal ++ told) number link
finish_timed run s node Waiting journal told number link timed going most no_send no_start =
    stays_timed run s s journal told number link timed going most no_send no_start refl refl refl
    (ap (early_on number) going)
finish_timed run s node (Running i) journal told number link timed going most no_send no_start =
    let keeps = finish_keeps (plan_of run.design node.0) run.rounds i (node_at s node.0) in
    node_timed run s node.0 (finished (plan_of run.design node.0) run.rounds i (node_at s node.0)) journal told number
    link timed going most no_send no_start keeps.0 keeps.1
finish_timed run s node (Between i) journal told number link timed going most no_send no_start =
    stays_timed run s s journal told number link timed going most no_send no_start refl refl refl
    (ap (early_on number) going)
finish_timed run s node Holding journal told number link timed going most no_send no_start =
    stays_timed run s s journal told number link timed going most no_send no_start refl refl refl
    (ap (early_on number) going)
finish_timed run s node Done journal told number link timed going most no_send no_start =
    stays_timed run s s journal told number link timed going most no_send no_start refl refl refl
    (ap (early_on number) going)

-- ---- Send
pub unsent_round : (n : NodeState) → n.sent ≡ false → sent_rounds n ≡ round_of n
unsent_round n unsent = ap (λ b. if b then n.count else round_of n) unsent

send_timed : (run : Run) (s : BusState) (node : NodeNo) (reading : Option ℕ) (at : ℕ) (journal : List JournalEntry)
    (number : ℕ) (link : Link) → IsRunOf run → Agrees run s → slice_get run.design.links number ≡ Some link
    → may_send (plan_of run.design node.0) (node_at s node.0) ≡ true → reading ≡ Some at
    → TimedIn run s journal number link → s.stop ≡ None
    → length (sends node.0 journal) ≡ sent_rounds (node_at s node.0)
    → (told : JournalEntry) → ((k : ℕ) → send_in k told ≡ if_at k node reading) → ((k : ℕ) → start_in k told ≡ [])
    → latest run.design link.target.0 journal ≤ latest run.design link.target.0 (journal ++ told ∷ [])
    → TimedIn run (after_send run s node reading) (journal ++ told ∷ []) number link
send_timed run s node reading at journal number link rules agree is may shows timed going size told tells
    no_start most =
    let n = node_at s node.0 in
    let m = sent_from run.rounds n in
    let v = view run s journal number link in
    let t = after_send run s node reading in
    let copy =
    sent_copy (round_of n) reading (delay_of run.delays number (round_of n))
    (message_from (plan_of run.design node.0) n link.out_port) in
    let count = keeps_at (λ (k : NodeState). k.count) s node.0 link.target.0 m refl in
    let slot = keeps_at (λ (k : NodeState). slot_at k link.in_port) s node.0 link.target.0 m refl in
    let flight : flight_at t number ≡ (if nat_eq link.source.0 node.0 then flight_at s number
    ++ copy ∷ [] else flight_at s number)
    =
    numbered_at (λ (numbered : ℕ × Link). flight_after_send run s node reading numbered.0 numbered.1)
    run.design.links number link [] is in
    let start : starts link.target.0 (told ∷ []) ≡ [] = ap (λ xs. xs ++ []) (no_start link.target.0) in
    elim (cases_eq link.source.0 node.0) [
      | inl same ↦
          let unsent = (sender_before run s node agree may).unsent in
          let round : round_of n ≡ length v.sends = sym (unsent_round n unsent) ∙ sym size
          ∙ ap (λ j. length (sends j journal)) (sym same) in
          same_view (delay_of run.delays number) (view run t (journal ++ told ∷ []) number link)
          (record v {
            sends = v.sends ++ at ∷ [];
            flight = v.flight ++ copy ∷ [];
            latest = latest run.design link.target.0 (journal ++ told ∷ []);
          })
          (sends_more link.source.0 journal (told ∷ []) (at ∷ [])
          (ap (λ xs. xs ++ []) (tells link.source.0)
          ∙ send_at node.0 link.source.0 node at reading refl (sym same) shows))
          (starts_more link.target.0 journal (told ∷ []) [] start ∙ append-nil (starts link.target.0 journal))
          refl count slot (flight ∙ ap (λ b. if b then flight_at s number ++ copy ∷ [] else flight_at s number)
          (eq-eqb link.source.0 node.0 same)) refl
          (goes_send (delay_of run.delays number) v at (latest run.design link.target.0 (journal ++ told ∷ [])) copy
          timed (ap (early_on number) going) most round
          (ap (option_map (λ x. x + delay_of run.delays number (round_of n))) shows
          ∙ ap (λ r. Some (at + delay_of run.delays number r)) round))
      | inr other ↦
          stays_timed run s t journal (told ∷ []) number link timed going most
          (ap (λ xs. xs ++ []) (tells link.source.0) ∙ none_at link.source.0 node reading (λ e. other (sym e)))
          start count slot
          (flight ∙ ap (λ b. if b then flight_at s number ++ copy ∷ [] else flight_at s number)
          (ne_eqb link.source.0 node.0 other)) (ap (early_on number) going)
    ]

-- ---- Arrive
pub with_message_count : (n : NodeState) (port : ℕ) (tuple : List PortValue) (a : Arrived)
    → (with_message n port tuple a).count ≡ n.count
with_message_count n port tuple Kept = refl
with_message_count n port tuple Ignored = refl
with_message_count n port tuple Early = refl

other_slot : (n : NodeState) (port other : ℕ) (tuple : List PortValue) (a : Arrived) → other ≢ port
    → slot_at (with_message n port tuple a) other ≡ slot_at n other
other_slot n port other tuple Kept apart = get_or-set_other n.slots port other (Some tuple) None apart
other_slot n port other tuple Ignored apart = refl
other_slot n port other tuple Early apart = refl

own_slot : (n : NodeState) (port : ℕ) (tuple : List PortValue) (a : Arrived) → port < length n.slots
    → slot_at (with_message n port tuple a) port ≡ slot_after (slot_at n port) tuple a
own_slot n port tuple Kept within = get_or-set_at n.slots port port (Some tuple) None refl within
own_slot n port tuple Ignored within = refl
own_slot n port tuple Early within = refl

own_stop : (link : LinkNo) (number round : ℕ) (reading : Option ℕ) (a : Arrived) → link.0 ≡ number
    → early_on number (early_stop link round reading a) ≡ taken_after round a
own_stop link number round reading Kept same = refl
own_stop link number round reading Ignored same = refl
own_stop link number round reading Early same = ap (λ b. if b then Some round else None) (eq-eqb link.0 number same)

other_stop : (link : LinkNo) (number round : ℕ) (reading : Option ℕ) (a : Arrived) → link.0 ≢ number
    → early_on number (early_stop link round reading a) ≡ None
other_stop link number round reading Kept other = refl
other_stop link number round reading Ignored other = refl
other_stop link number round reading Early other = ap (λ b. if b then Some round else None) (ne_eqb link.0 number other)

-- the message of another link: it goes into another slot, or another node's
arrives_elsewhere : (run : Run) (s : BusState) (other number : ℕ) (l link : Link) (tuple : List PortValue) (a : Arrived)
    → IsRunOf run → slice_get run.design.links other ≡ Some l → slice_get run.design.links number ≡ Some link
    → other ≢ number
    → slot_at (node_at (with_node s l.target.0 (with_message (node_at s l.target.0) l.in_port tuple a)) link.target.0)
    link.in_port ≡ slot_at (node_at s link.target.0) link.in_port
arrives_elsewhere run s other number l link tuple a rules is_l is apart =
    let n = node_at s l.target.0 in
    let m = with_message n l.in_port tuple a in
    elim (cases_eq link.target.0 l.target.0) [
      | inl same ↦
          keeps_at (λ (k : NodeState). slot_at k link.in_port) s l.target.0 link.target.0 m
          (other_slot n l.in_port link.in_port tuple a
          (λ port. apart (same_link run.design other number l link rules.design is_l is (sym same) (sym port))))
      | inr elsewhere ↦ ap (λ (k : NodeState). slot_at k link.in_port)
          (node_stays s l.target.0 link.target.0 m elsewhere)
    ]

arrive_timed : (run : Run) (clocks : Clocks) (s : BusState) (from : LinkNo) (round : ℕ) (reading : Option ℕ)
    (journal : List JournalEntry) (number : ℕ) (link : Link) → IsRunOf run → Agrees run s
    → slice_get run.design.links number ≡ Some link
    → (takes : Takes run clocks s from round reading) → TimedIn run s journal number link → s.stop ≡ None
    → latest run.design link.target.0 journal
    ≤ latest run.design link.target.0 (journal ++ entries run s (Arrive from round reading))
    → ((link_at run.design from.0).target.0 ≡ link.target.0
    → latest run.design link.target.0 (journal ++ entries run s (Arrive from round reading)) ≡ takes.does.at)
    → latest run.design (link_at run.design from.0).target.0 journal ≤ takes.does.at
    → TimedIn run (after_arrive run s from round reading)
    (journal ++ entries run s (Arrive from round reading)) number link
arrive_timed run clocks s from round reading journal number link rules agree is takes timed going most last below =
    let l = link_at run.design from.0 in
    let n = node_at s l.target.0 in
    let a = arrival run s from round in
    let tuple = arriving round (flight_at s from.0) in
    let m = received n l.in_port round tuple in
    let t = after_arrive run s from round reading in
    let told = entries run s (Arrive from round reading) in
    let v = view run s journal number link in
    let is_l : slice_get run.design.links from.0 ≡ Some l =
    slice_get-get_or run.design.links from.0 no_link takes.within in
    let count =
    keeps_at (λ (k : NodeState). k.count) s l.target.0 link.target.0 m (with_message_count n l.in_port tuple a) in
    let nothing = stop_shows link.target.0 (early_stop from round reading a) in
    let nothing_sent = stop_shows link.source.0 (early_stop from round reading a) in
    elim (cases_eq from.0 number) [
      | inl same ↦
          let one : l ≡ link = let both : Some l ≡ Some link = sym is_l ∙ ap (slice_get run.design.links) same
          ∙ is in cc in
          let target : l.target.0 ≡ link.target.0 = ap (λ (k : Link). k.target.0) one in
          let rule = at_element (IsLink run.design) run.design.links from.0 l rules.design.links.each is_l in
          let c = component_at run.design l.target.0 in
          let is_c : slice_get run.design.components l.target.0 ≡ Some c =
          slice_get-get_or run.design.components l.target.0 no_component rule.target.node_is in
          let port : l.in_port < length c.behaviour.ins = subst (λ o. l.in_port < ins_in o) is_c rule.target.port_is in
          let size = (agree.nodes l.target.0 c is_c).slots in
          let nodes = agree.node_count in
          let flights = agree.flight_count in
          let within = takes.within in
          let node_within = rule.target.node_is in
          let here : node_at t link.target.0 ≡ m =
          get_or-set_at s.nodes l.target.0 link.target.0 m no_node (sym target) (omega arith) in
          let w = view run s journal number link in
          let due = subst (λ o. is_due o takes.copy ≡ true) takes.does.reading_is takes.due in
          let at = takes.does.at in
          let now = last target in
          let arrived_here : arrived_at w.count w.slot round ≡ a =
          ap (λ (k : Link). arrived_at (node_at s k.target.0).count (slot_at (node_at s k.target.0) k.in_port)
          round) (sym one) in
          same_view (delay_of run.delays number) (view run t (journal ++ told) number link)
          (record w {
            latest = at;
            slot = slot_after w.slot tuple a;
            flight = without_oldest round w.flight;
            taken = taken_after round a;
          })
          (sends_more link.source.0 journal told [] nothing_sent.1 ∙ append-nil (sends link.source.0 journal))
          (starts_more link.target.0 journal told [] nothing.0 ∙ append-nil (starts link.target.0 journal))
          now count
          (ap (λ (k : NodeState). slot_at k link.in_port) here ∙ ap (λ (k : Link). slot_at m k.in_port) (sym one)
          ∙ own_slot n l.in_port tuple a (omega arith)
          ∙ ap (λ (k : Link). slot_after (slot_at (node_at s k.target.0) k.in_port) tuple a) one)
          (get_or-set_at s.flights from.0 number (without_oldest round (flight_at s from.0)) [] (sym same) (omega arith)
          ∙ ap (λ k. without_oldest round (flight_at s k)) same)
          (own_stop from number round reading a same)
          (goes_arrive (delay_of run.delays number) w at round tuple takes.copy a timed (ap (early_on number) going)
          (omega arith) (ap (λ k. oldest round (flight_at s k)) (sym same) ∙ takes.is_copy) due arrived_here)
      | inr other ↦
          stays_timed run s t journal told number link timed going most nothing_sent.1 nothing.0 count
          (arrives_elsewhere run s from.0 number l link tuple a rules is_l is other)
          (get_or-set_other s.flights from.0 number (without_oldest round (flight_at s from.0)) [] (λ e. other (sym e)))
          (other_stop from number round reading a other)
    ]

-- ---- each event
-- the last reading of the node that it reads
last_is : (run : Run) (s : BusState) (e : BusEvent) (journal : List JournalEntry) (j k at : ℕ)
    → ((i before : ℕ) → later run.design i before (entries run s e) ≡ cond (nat_eq j i) at before) → j ≡ k
    → latest run.design k (journal ++ entries run s e) ≡ at
last_is run s e journal j k at tells same =
    latest_after run.design k journal (entries run s e) ∙ tells k (latest run.design k journal)
    ∙ ap (λ b. cond b at (latest run.design k journal)) (eq-eqb j k same)

event_timed : (run : Run) (clocks : Clocks) (s : BusState) (e : BusEvent) (journal : List JournalEntry) (number : ℕ)
    (link : Link) → IsRunOf run → Agrees run s → slice_get run.design.links number ≡ Some link → KeepsTo run clocks s e
    → is_allowed run s e ≡ true
    → s.stop ≡ None → NoFall run clocks journal s
    → ((node : ℕ) → length (sends node journal) ≡ sent_rounds (node_at s node))
    → TimedIn run s journal number link → TimedIn run (after run s e) (journal ++ entries run s e) number link
event_timed run clocks s (Start node reading) journal number link rules agree is keeps may going falls sizes timed =
    start_timed run s node reading (missing_link run s node.0) keeps.does.at journal number link rules agree is
    keeps.does.within keeps.does.reading_is timed going refl
    (grows_by run clocks s (Start node reading) journal link.target.0 falls
    (event_tells run clocks s (Start node reading) keeps))
    (λ same. last_is run s (Start node reading) journal node.0 link.target.0 keeps.does.at
    (λ i before. start_tells run s node reading (missing_link run s node.0) keeps.does.at i before
    keeps.does.reading_is refl) same)
event_timed run clocks s (Step node reading) journal number link rules agree is keeps may going falls sizes timed =
    step_timed run s node (node_at s node.0).phase journal (entries run s (Step node reading)) number link timed going
    (grows_by run clocks s (Step node reading) journal link.target.0 falls
    (event_tells run clocks s (Step node reading) keeps)) refl refl
event_timed run clocks s (Finish node) journal number link rules agree is keeps may going falls sizes timed =
    finish_timed run s node (node_at s node.0).phase journal (entries run s (Finish node)) number link timed going
    (grows_by run clocks s (Finish node) journal link.target.0 falls
    (event_tells run clocks s (Finish node) keeps)) refl refl
event_timed run clocks s (Send node reading) journal number link rules agree is keeps may going falls sizes timed =
    send_timed run s node reading keeps.1.at journal number link rules agree is may keeps.1.reading_is timed going
    (sizes node.0) (entry.Send node (round_of (node_at s node.0)) reading) (λ k. refl) (λ k. refl)
    (grows_by run clocks s (Send node reading) journal link.target.0 falls
    (event_tells run clocks s (Send node reading) keeps))
event_timed run clocks s (Arrive from round reading) journal number link rules agree is keeps may going falls
    sizes timed =
    arrive_timed run clocks s from round reading journal number link rules agree is keeps timed going
    (grows_by run clocks s (Arrive from round reading) journal link.target.0 falls
    (event_tells run clocks s (Arrive from round reading) keeps))
    (λ same. last_is run s (Arrive from round reading) journal (link_at run.design from.0).target.0 link.target.0
    keeps.does.at
    (λ i before. arrive_tells run from round reading (arrival run s from round) keeps.does.at i before
    keeps.does.reading_is) same)
    (falls (link_at run.design from.0).target.0 keeps.does.at
    (does_read run clocks s (link_at run.design from.0).target reading _ keeps.does))
event_timed run clocks s (Drop from round) journal number link rules agree is keeps may going falls sizes timed =
    absurd keeps
event_timed run clocks s (Repeat from round) journal number link rules agree is keeps may going falls sizes timed =
    absurd keeps

-- ---- the opening
opening_timed : (run : Run) (number : ℕ) (link : Link) → IsRunOf run → slice_get run.design.links number ≡ Some link
    → TimedIn run (opening run) [] number link
opening_timed run number link rules is =
    let rule = at_element (IsLink run.design) run.design.links number link rules.design.links.each is in
    let here = node_opens run link.target.0 rule.target.node_is in
    same_view (delay_of run.delays number) (view run (opening run) [] number link)
    (record { sends = []; starts = []; latest = 0; count = 0; slot = None; flight = []; taken = None })
    refl refl refl (ap (λ (n : NodeState). n.count) here)
    (ap (λ (n : NodeState). slot_at n link.in_port) here
    ∙ get_or-map_constant {Y = Option (List PortValue)} None (plan_of run.design link.target.0).inputs link.in_port)
    (get_or-map_constant {Y = List FlightCopy} [] run.design.links number) refl
    (record {
      flights = λ k d none. absurd (omega arith);
      places = λ round none. absurd (omega arith);
      slot = λ none. absurd (false≢true none);
      taken_in = λ round none. absurd (omega arith);
      begun = refl;
    })

-- ---- each run
pub links_timed : (run : Run) (clocks : Clocks) (journal : List JournalEntry) (s : BusState) (number : ℕ) (link : Link)
    → IsRunOf run → Runs run clocks journal s → slice_get run.design.links number ≡ Some link
    → TimedIn run s journal number link
links_timed run clocks journal s number link rules (opens clocks' begin) is = opening_timed run number link rules is
links_timed run clocks journal s number link rules (picks_for {clocks = before} j runs picks) is =
    links_timed run (Lists before) journal s number link rules runs is
links_timed run clocks journal s number link rules (goes_on {journal = before} {s = t} e runs keeps step) is =
    subst (λ u. TimedIn run u (before ++ entries run t e) number link) (sym step.state)
    (event_timed run clocks t e before number link rules (runs_agree run clocks before t rules runs) is keeps
    step.allowed step.going (no_fall run rules clocks before t runs)
    (λ node. (rounds_are_shown run clocks before t node rules runs).1)
    (links_timed run clocks before t number link rules runs is))

pub all_links_timed : LinksAreTimed
all_links_timed run clocks journal s rules runs number within =
    links_timed run clocks journal s number (link_at run.design number) rules runs
    (slice_get-get_or run.design.links number no_link within)
