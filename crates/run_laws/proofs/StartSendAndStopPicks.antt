-- With list clocks the readings of starts and sends in a journal, and of a stop, are picks of their nodes' lists.
use Rattle.std.proofs.Common.{◌≡◌, inl, inr, ℕ, nat_eq, Bool, true, false, cond, List, [], ◌∷◌, ◌++◌, length, slice_get}
use Rattle.std.proofs.Common.{Option, Some, None, refl, sym, ap, ◌∙◌, subst, arith}
use Rattle.std.proofs.lemmas.Bool.{cases_eq, eqb-true}
use Rattle.std.proofs.lemmas.Grind.{flat_map-append, get_or-set_at}
use Rattle.std.proofs.lemmas.List.{append-nil, get_or-set_other}
use Rattle.std.proofs.lemmas.Option.{same_Some}
use Rattle.pals_base.specs.declared.basic_types.NodeNo.{NodeNo}
use Rattle.pals_base.specs.declared.basic_types.LinkNo.{LinkNo}
use Rattle.pals_base.specs.ClockPicks.{remaining_from, picks}
use Rattle.pals_clock.specs.ClockStates.{ClockState, standing_at}
use Rattle.pals_model.specs.declared.design.Link.{Link}
use Rattle.pals_runs.specs.declared.journal.Arrived.{Arrived}
use Rattle.pals_runs.specs.declared.journal.Arrived.TheVariants.{Kept, Ignored, Early}
use Rattle.pals_runs.specs.declared.journal.Stop.{Stop}
use Rattle.pals_runs.specs.declared.journal.Stop.TheVariants as stop
use Rattle.pals_runs.specs.declared.journal.JournalEntry.{JournalEntry}
use Rattle.bus_machine.specs.Plans.{plan_of, component_at, link_at}
use Rattle.bus_machine.specs.Nodes.{NodeState, round_of, sent_rounds}
use Rattle.bus_machine.specs.NodeEvents.{next_step, running_step, stepped, finished, received, arrived}
use Rattle.bus_machine.specs.LinkEvents.{arriving}
use Rattle.bus_machine.specs.BusStates.{BusState, node_at, flight_at, with_node}
use Rattle.bus_machine.specs.RunParameters.{Run}
use Rattle.bus_machine.specs.MissedMessages.{missing_link}
use Rattle.bus_machine.specs.Machine.{BusEvent, Start, Step, Finish, Send, Arrive, Drop, Repeat, is_allowed, after}
use Rattle.bus_machine.specs.Machine.{after_start, after_arrive, arrival, early_stop}
use Rattle.bus_machine.specs.Replay.{entries, start_entry}
use Rattle.bus_machine.specs.proof.AgreementLaws.{IsRunOf}
use Rattle.bus_machine.specs.declared.node_action.NodeAction.{NodeAction}
use Rattle.bus_machine.specs.declared.node_action.NodeAction.TheVariants as action
use Rattle.bus_machine.specs.ActionsAndTargets.{target, targets, actions}
use Rattle.bus_machine.proofs.NodeEventBusAgreement.{on_step_stop, sender_before}
use Rattle.bus_machine.proofs.NodeReplacement.{keeps_at}
use Rattle.run_laws.specs.JournalReadings.{listed, start_in, send_in, starts, sends, acts}
use Rattle.pals_clock.specs.declared.clock.Clocks.{Clocks}
use Rattle.pals_clock.specs.declared.clock.Clocks.TheVariants.{Meet, Lists}
use Rattle.run_laws.specs.Runs.{no_clock, clock_at, Does, Takes, KeepsTo, Picks, Runs, opens, picks_for, goes_on}
use Rattle.run_laws.specs.PicksAndJournalLines.{picks_of, IsPickFor}
use Rattle.run_laws.proofs.TargetPicks.{pick_at}
use Rattle.run_laws.proofs.ProgressByEvent.{action_is}
use Rattle.run_laws.proofs.NodePicksAndRunReplay.{runs_agree, many_clocks, nodes_pick, next_target, acting_by}
use Rattle.run_laws.proofs.NodePicksAndRunReplay.{plan_rules, held_of}
use Rattle.run_laws.proofs.NodePicksAndRunReplay.{node_agrees}
use Rattle.run_laws.proofs.JournalStartsAndSends.{rounds_are_shown, stop_shows}
use Rattle.run_laws.proofs.MissedLinks.{missed_link}
use Rattle.run_laws.proofs.LinkTiming.{unsent_round, with_message_count}
use Rattle.run_laws.proofs.StartAndSendReadings.{got_more, send_round, start_sends}
use Rattle.run_laws.proofs.MeetingStopsAndBounds.{link_is}

-- ---- what a node does is its list's pick
-- its next action is the first that the journal does not show, and its reading is the pick for it
pub next_pick : (run : Run) (clocks : List ClockState) (journal : List JournalEntry) (s : BusState) (node : NodeNo)
    (reading : Option ℕ) (action : NodeAction) → IsRunOf run → Runs run (Lists clocks) journal s
    → (d : Does run (Lists clocks) s node reading action)
    → (slice_get (actions (plan_of run.design node.0) run.rounds) (length (acts node.0 journal)) ≡ Some action)
    × (slice_get (picks_of run clocks node.0) (length (acts node.0 journal)) ≡ Some d.at)
next_pick run clocks journal s node reading action rules runs d =
    let agree = runs_agree run (Lists clocks) journal s rules runs in
    let n = node_at s node.0 in
    let plan = plan_of run.design node.0 in
    let p = nodes_pick run clocks journal s node.0 rules runs d.within in
    let here = node_agrees run s node.0 agree d.within in
    let t = next_target run s node.0 p.done action rules agree d.within p.follows d.next in (
      ap (slice_get (actions plan run.rounds)) p.count
          ∙ action_is plan run.rounds p.done n action (plan_rules run node.0 rules d.within) rules.rounds here.rounds
          (acting_by run node.0 n n.phase here.phase) (held_of run node.0 (component_at run.design node.0) n here)
          p.follows d.next,
      ap (slice_get (picks_of run clocks node.0)) p.count
          ∙ pick_at plan run.rounds (clock_at clocks node.0) n (acts node.0 journal) p (target plan action) d.at t
          d.shows.0 d.shows.1,
    )

pub does_pick : (run : Run) (clocks : List ClockState) (journal : List JournalEntry) (s : BusState) (node : NodeNo)
    (reading : Option ℕ) (action : NodeAction) → IsRunOf run → Runs run (Lists clocks) journal s
    → (d : Does run (Lists clocks) s node reading action)
    → IsPickFor run clocks node.0 action d.at
does_pick run clocks journal s node reading action rules runs d =
    let next = next_pick run clocks journal s node reading action rules runs d in
    record { place = length (acts node.0 journal); is_action = next.0; is_pick = next.1 }

-- a pick changes no list
pub same_lists : (run : Run) (before later : List ClockState) (s : BusState) (j k : ℕ)
    → length before ≡ length run.design.components → Picks run before s j later
    → (clock_at later k).readings ≡ (clock_at before k).readings
same_lists run before later s j k many picks' =
    let within = picks'.within in
    let new =
    standing_at (clock_at before j)
    (remaining_from (clock_at before j).left (target (plan_of run.design j) picks'.action)) in
    ap (λ cs. (clock_at cs k).readings) picks'.clocks_are ∙ elim (cases_eq k j) [
      | inl same ↦ ap (λ (c : ClockState). c.readings) (get_or-set_at before j k new no_clock same (omega arith))
          ∙ ap (λ i. (clock_at before i).readings) (sym same)
      | inr other ↦ ap (λ (c : ClockState). c.readings) (get_or-set_other before j k new no_clock other)
    ]

other_clocks : (run : Run) (before later : List ClockState) (node : ℕ) (action : NodeAction) (at : ℕ)
    → (clock_at later node).readings ≡ (clock_at before node).readings → IsPickFor run before node action at
    → IsPickFor run later node action at
other_clocks run before later node action at same x =
    record {
      place = x.place;
      is_action = x.is_action;
      is_pick = ap (λ rs. slice_get (picks rs (targets (plan_of run.design node) run.rounds)) x.place) same
          ∙ x.is_pick;
    }

-- ---- the readings of starts and sends
abbrev pub Chosen : Run → Clocks → ℕ → (ℕ → NodeAction) → List ℕ → Type 0
Chosen run Meet node action shown = Unit {0}
Chosen run (Lists clocks) node action shown =
    (round at : ℕ) → slice_get shown round ≡ Some at → IsPickFor run clocks node (action round) at

none_more : (run : Run) (clocks : List ClockState) (node : ℕ) (action : ℕ → NodeAction) (shown more : List ℕ)
    → more ≡ [] → Chosen run (Lists clocks) node action shown → Chosen run (Lists clocks) node action (shown ++ more)
none_more run clocks node action shown more none all =
    subst (Chosen run (Lists clocks) node action) (sym (ap (λ xs. shown ++ xs) none ∙ append-nil shown)) all

by_node : (run : Run) (clocks : List ClockState) (action : ℕ → NodeAction) (shown : List ℕ) (node : NodeNo)
    (k at round : ℕ) (reading : Option ℕ) (b : Bool) → nat_eq node.0 k ≡ b → reading ≡ Some at
    → (node.0 ≡ k → length shown ≡ round) → (node.0 ≡ k → IsPickFor run clocks k (action round) at)
    → Chosen run (Lists clocks) k action shown
    → Chosen run (Lists clocks) k action (shown ++ (cond b (listed reading) [] ++ []))
by_node run clocks action shown node k at round None b is shows size for all = absurd (cc)
by_node run clocks action shown node k at round (Some t) true is shows size for all =
    let same : node.0 ≡ k = eqb-true node.0 k is in
    let here : t ≡ at = same_Some t at shows in
    λ r x got. elim (got_more shown t r x got) [
      | inl before ↦ all r x before
      | inr last ↦ subst (IsPickFor run clocks k (action r)) (sym (last.1 ∙ here))
          (subst (λ i. IsPickFor run clocks k (action i) at) (sym (last.0 ∙ size same)) (for same))
    ]
by_node run clocks action shown node k at round (Some t) false is shows size for all =
    none_more run clocks k action shown [] refl all

start_starts : (run : Run) (clocks : List ClockState) (journal : List JournalEntry) (s : BusState) (node : NodeNo)
    (reading m : Option ℕ) (k : ℕ) → IsRunOf run → Runs run (Lists clocks) journal s
    → Does run (Lists clocks) s node reading (action.Start (node_at s node.0).count)
    → Chosen run (Lists clocks) k action.Start (starts k journal)
    → Chosen run (Lists clocks) k action.Start
    (starts k journal ++ starts k (start_entry run s node reading m ∷ []))
start_starts run clocks journal s node reading (Some link) k rules runs does all =
    none_more run clocks k action.Start (starts k journal) [] refl all
start_starts run clocks journal s node reading None k rules runs does all =
    by_node run clocks action.Start (starts k journal) node k does.at (node_at s k).count reading (nat_eq node.0 k) refl
    does.reading_is (λ same. (rounds_are_shown run (Lists clocks) journal s k rules runs).0)
    (λ same. subst (λ j. IsPickFor run clocks j (action.Start (node_at s j).count) does.at) same
    (does_pick run clocks journal s node reading (action.Start (node_at s node.0).count) rules runs does)) all

event_starts : (run : Run) (clocks : List ClockState) (journal : List JournalEntry) (s : BusState) (e : BusEvent)
    (k : ℕ) → IsRunOf run → Runs run (Lists clocks) journal s → KeepsTo run (Lists clocks) s e
    → Chosen run (Lists clocks) k action.Start (starts k journal)
    → Chosen run (Lists clocks) k action.Start (starts k journal ++ starts k (entries run s e))
event_starts run clocks journal s (Start node reading) k rules runs keeps all =
    start_starts run clocks journal s node reading (missing_link run s node.0) k rules runs keeps.does all
event_starts run clocks journal s (Step node reading) k rules runs keeps all =
    none_more run clocks k action.Start (starts k journal) [] refl all
event_starts run clocks journal s (Finish node) k rules runs keeps all =
    none_more run clocks k action.Start (starts k journal) [] refl all
event_starts run clocks journal s (Send node reading) k rules runs keeps all =
    none_more run clocks k action.Start (starts k journal) [] refl all
event_starts run clocks journal s (Arrive link round reading) k rules runs keeps all =
    none_more run clocks k action.Start (starts k journal) _
    (stop_shows k (early_stop link round reading (arrival run s link round))).0 all
event_starts run clocks journal s (Drop link round) k rules runs keeps all = absurd keeps
event_starts run clocks journal s (Repeat link round) k rules runs keeps all = absurd keeps

event_sends : (run : Run) (clocks : List ClockState) (journal : List JournalEntry) (s : BusState) (e : BusEvent) (k : ℕ)
    → IsRunOf run → Runs run (Lists clocks) journal s → KeepsTo run (Lists clocks) s e → is_allowed run s e ≡ true
    → Chosen run (Lists clocks) k action.Send (sends k journal)
    → Chosen run (Lists clocks) k action.Send (sends k journal ++ sends k (entries run s e))
event_sends run clocks journal s (Start node reading) k rules runs keeps may all =
    none_more run clocks k action.Send (sends k journal) _
    (start_sends run s node reading (missing_link run s node.0) k) all
event_sends run clocks journal s (Step node reading) k rules runs keeps may all =
    none_more run clocks k action.Send (sends k journal) [] refl all
event_sends run clocks journal s (Finish node) k rules runs keeps may all =
    none_more run clocks k action.Send (sends k journal) [] refl all
event_sends run clocks journal s (Send node reading) k rules runs keeps may all =
    let n = node_at s node.0 in
    let does = keeps.1 in
    let agree = runs_agree run (Lists clocks) journal s rules runs in
    let unsent = (sender_before run s node agree may).unsent in
    let this = send_round (plan_of run.design node.0) n n.phase keeps.0 does.next in
    by_node run clocks action.Send (sends k journal) node k does.at (round_of n) reading (nat_eq node.0 k) refl
    does.reading_is
    (λ same. (rounds_are_shown run (Lists clocks) journal s k rules runs).1
    ∙ ap (λ j. sent_rounds (node_at s j)) (sym same) ∙ unsent_round n unsent)
    (λ same. subst (λ j. IsPickFor run clocks j (action.Send (round_of n)) does.at) same
    (subst (λ r. IsPickFor run clocks node.0 (action.Send r) does.at) this
    (does_pick run clocks journal s node reading (action.Send keeps.0) rules runs does))) all
event_sends run clocks journal s (Arrive link round reading) k rules runs keeps may all =
    none_more run clocks k action.Send (sends k journal) _
    (stop_shows k (early_stop link round reading (arrival run s link round))).1 all
event_sends run clocks journal s (Drop link round) k rules runs keeps may all = absurd keeps
event_sends run clocks journal s (Repeat link round) k rules runs keeps may all = absurd keeps

-- both
abbrev pub BothChosen : Run → Clocks → List JournalEntry → ℕ → Type 0
BothChosen run clocks journal k =
    Chosen run clocks k action.Start (starts k journal) × Chosen run clocks k action.Send (sends k journal)

opens_chosen : (run : Run) (clocks : Clocks) (k : ℕ) → BothChosen run clocks [] k
opens_chosen run Meet k = (tt, tt)
opens_chosen run (Lists clocks) k = ((λ round at none. absurd (cc)), (λ round at none. absurd (cc)))

goes_chosen : (run : Run) (clocks : Clocks) (journal : List JournalEntry) (s : BusState) (e : BusEvent) (k : ℕ)
    → IsRunOf run → Runs run clocks journal s → KeepsTo run clocks s e → is_allowed run s e ≡ true
    → BothChosen run clocks journal k → BothChosen run clocks (journal ++ entries run s e) k
goes_chosen run Meet journal s e k rules runs keeps may both = (tt, tt)
goes_chosen run (Lists clocks) journal s e k rules runs keeps may both = (
  subst (Chosen run (Lists clocks) k action.Start) (sym (flat_map-append (start_in k) journal (entries run s e)))
      (event_starts run clocks journal s e k rules runs keeps both.0),
  subst (Chosen run (Lists clocks) k action.Send) (sym (flat_map-append (send_in k) journal (entries run s e)))
      (event_sends run clocks journal s e k rules runs keeps may both.1),
)

pub both_chosen : (run : Run) (clocks : Clocks) (journal : List JournalEntry) (s : BusState) (k : ℕ) → IsRunOf run
    → Runs run clocks journal s → BothChosen run clocks journal k
both_chosen run clocks journal s k rules (opens clocks' begin) = opens_chosen run clocks k
both_chosen run clocks journal s k rules (picks_for {clocks = before} {later = after'} j runs picks') =
    let old = both_chosen run (Lists before) journal s k rules runs in
    let same = same_lists run before after' s j k (many_clocks run (Lists before) journal s runs) picks' in (
      (λ round at got. other_clocks run before after' k (action.Start round) at same (old.0 round at got)),
      (λ round at got. other_clocks run before after' k (action.Send round) at same (old.1 round at got)),
    )
both_chosen run clocks journal s k rules (goes_on {journal = before} {s = t} e runs keeps step) =
    goes_chosen run clocks before t e k rules runs keeps step.allowed (both_chosen run clocks before t k rules runs)

-- ---- the reading of a stop is a pick for the start that it belongs to
abbrev pub StopAt : Run → List ClockState → BusState → ℕ → Option ℕ → Type 0
StopAt run clocks s number reading =
    (at : ℕ) × (reading ≡ Some at)
    × IsPickFor run clocks (link_at run.design number).target.0
    (action.Start (node_at s (link_at run.design number).target.0).count) at

abbrev pub StopPicked : Run → Clocks → BusState → Option Stop → Type 0
StopPicked run Meet s why = Unit {0}
StopPicked run (Lists clocks) s None = Unit {0}
StopPicked run (Lists clocks) s (Some (stop.Missed link round reading cause)) = StopAt run clocks s link.0 reading
StopPicked run (Lists clocks) s (Some (stop.Early link round reading)) = StopAt run clocks s link.0 reading

none_picked : (run : Run) (clocks : Clocks) (s : BusState) (why : Option Stop) → why ≡ None
    → StopPicked run clocks s why
none_picked run Meet s why none = tt
none_picked run (Lists clocks) s why none = subst (StopPicked run (Lists clocks) s) (sym none) tt

later_picked : (run : Run) (before later : List ClockState) (s : BusState) (why : Option Stop)
    → ((k : ℕ) → (clock_at later k).readings ≡ (clock_at before k).readings) → StopPicked run (Lists before) s why
    → StopPicked run (Lists later) s why
later_picked run before later s None same x = tt
later_picked run before later s (Some (stop.Missed link round reading cause)) same x = (
  x.0,
  x.1,
  other_clocks run before later (link_at run.design link.0).target.0 _ x.0
      (same (link_at run.design link.0).target.0) x.2,
)
later_picked run before later s (Some (stop.Early link round reading)) same x = (
  x.0,
  x.1,
  other_clocks run before later (link_at run.design link.0).target.0 _ x.0
      (same (link_at run.design link.0).target.0) x.2,
)

start_stops : (run : Run) (clocks : List ClockState) (journal : List JournalEntry) (s : BusState) (node : NodeNo)
    (reading m : Option ℕ) → IsRunOf run → Runs run (Lists clocks) journal s
    → Does run (Lists clocks) s node reading (action.Start (node_at s node.0).count) → s.stop ≡ None
    → missing_link run s node.0 ≡ m
    → StopPicked run (Lists clocks) (after_start run s node reading m) (after_start run s node reading m).stop
start_stops run clocks journal s node reading None rules runs does going misses =
    none_picked run (Lists clocks) (after_start run s node reading None) s.stop going
start_stops run clocks journal s node reading (Some link) rules runs does going misses =
    let missed = missed_link run s node.0 link misses in
    let here : (link_at run.design link).target.0 ≡ node.0 =
    ap (λ (l : Link). l.target.0) (link_is run link missed.the_link missed.is_link) ∙ missed.to_node in (
      does.at,
      does.reading_is,
      subst (λ j. IsPickFor run clocks j (action.Start (node_at s j).count) does.at) (sym here)
          (does_pick run clocks journal s node reading (action.Start (node_at s node.0).count) rules runs does),
    )

arrive_stops : (run : Run) (clocks : List ClockState) (journal : List JournalEntry) (s : BusState) (link : LinkNo)
    (round : ℕ) (reading : Option ℕ) (a : Arrived) → IsRunOf run → Runs run (Lists clocks) journal s
    → Takes run (Lists clocks) s link round reading
    → StopPicked run (Lists clocks) (after_arrive run s link round reading) (early_stop link round reading a)
arrive_stops run clocks journal s link round reading Kept rules runs takes = tt
arrive_stops run clocks journal s link round reading Ignored rules runs takes = tt
arrive_stops run clocks journal s link round reading Early rules runs takes =
    let l = link_at run.design link.0 in
    let n = node_at s l.target.0 in
    let count : (node_at (after_arrive run s link round reading) l.target.0).count ≡ n.count =
    keeps_at (λ (k : NodeState). k.count) s l.target.0 l.target.0
    (received n l.in_port round (arriving round (flight_at s link.0)))
    (with_message_count n l.in_port (arriving round (flight_at s link.0)) (arrived n l.in_port round)) in (
      takes.does.at,
      takes.does.reading_is,
      subst (λ c. IsPickFor run clocks l.target.0 (action.Start c) takes.does.at) (sym count)
          (does_pick run clocks journal s l.target reading (action.Start n.count) rules runs takes.does),
    )

event_stops : (run : Run) (clocks : Clocks) (journal : List JournalEntry) (s : BusState) (e : BusEvent) → IsRunOf run
    → Runs run clocks journal s → KeepsTo run clocks s e → s.stop ≡ None
    → StopPicked run clocks (after run s e) (after run s e).stop
event_stops run Meet journal s e rules runs keeps going = tt
event_stops run (Lists clocks) journal s (Start node reading) rules runs keeps going =
    start_stops run clocks journal s node reading (missing_link run s node.0) rules runs keeps.does going refl
event_stops run (Lists clocks) journal s (Step node reading) rules runs keeps going =
    none_picked run (Lists clocks) (after run s (Step node reading)) (after run s (Step node reading)).stop
    (on_step_stop (next_step (node_at s node.0).phase) s (λ i. with_node s node.0 (stepped i (node_at s node.0)))
    (λ i. refl) ∙ going)
event_stops run (Lists clocks) journal s (Finish node) rules runs keeps going =
    none_picked run (Lists clocks) (after run s (Finish node)) (after run s (Finish node)).stop
    (on_step_stop (running_step (node_at s node.0).phase) s
    (λ i. with_node s node.0 (finished (plan_of run.design node.0) run.rounds i (node_at s node.0)))
    (λ i. refl) ∙ going)
event_stops run (Lists clocks) journal s (Send node reading) rules runs keeps going =
    none_picked run (Lists clocks) (after run s (Send node reading)) s.stop going
event_stops run (Lists clocks) journal s (Arrive link round reading) rules runs keeps going =
    arrive_stops run clocks journal s link round reading (arrival run s link round) rules runs keeps
event_stops run (Lists clocks) journal s (Drop link round) rules runs keeps going = absurd keeps
event_stops run (Lists clocks) journal s (Repeat link round) rules runs keeps going = absurd keeps

pub stop_picked : (run : Run) (clocks : Clocks) (journal : List JournalEntry) (s : BusState) → IsRunOf run
    → Runs run clocks journal s → StopPicked run clocks s s.stop
stop_picked run clocks journal s rules (opens clocks' begin) = none_picked run clocks s None refl
stop_picked run clocks journal s rules (picks_for {clocks = before} {later = after'} j runs picks') =
    later_picked run before after' s s.stop
    (λ k. same_lists run before after' s j k (many_clocks run (Lists before) journal s runs) picks')
    (stop_picked run (Lists before) journal s rules runs)
stop_picked run clocks journal s rules (goes_on {journal = before} {s = t} e runs keeps step) =
    subst (λ u. StopPicked run clocks u u.stop) (sym step.state)
    (event_stops run clocks before t e rules runs keeps step.going)
