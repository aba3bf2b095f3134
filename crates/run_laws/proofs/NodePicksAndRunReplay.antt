-- Each run replays, and agrees; and with list clocks each node does its actions at its clock's picks.
use Rattle.std.proofs.Common.{◌≡◌, ◌≢◌, inl, inr, ℕ, ◌+◌, ◌<◌, ◌≤◌, nat_eq, Bool, true, false, cond, List, [], ◌∷◌}
use Rattle.std.proofs.Common.{◌++◌, length, slice_get, Option, Some, None, refl, sym, ap, ◌∙◌, subst, arith}
use Rattle.std.specs.Option.{unwrap_or}
use Rattle.std.proofs.lemmas.Bool.{cases_eq, eqb-true, eqb-false}
use Rattle.std.proofs.lemmas.Grind.{get_or-set_at, flat_map-append}
use Rattle.std.proofs.lemmas.List.{length-set, get_or-set_other, append-nil}
use Rattle.std.proofs.lemmas.Option.{slice_get-get_or}
use Rattle.pals_base.specs.declared.basic_types.NodeNo.{NodeNo}
use Rattle.pals_base.specs.declared.period_bound_and_releases.Gamma.{Gamma}
use Rattle.pals_base.specs.declared.basic_types.LinkNo.{LinkNo}
use Rattle.pals_base.specs.ClockPicks.{remaining_from}
use Rattle.pals_base.specs.PeriodBoundAndReleases.{sent_steps}
use Rattle.pals_clock.specs.ClockStates.{ClockState, standing_at}
use Rattle.pals_model.specs.declared.design.Component.{Component}
use Rattle.pals_model.specs.ComponentInputs.{values_at}
use Rattle.pals_model.specs.DesignRules.{IsComponent}
use Rattle.pals_model.proofs.FirstMatches.{at_element}
use Rattle.pals_runs.specs.declared.phase.Phase.{Phase}
use Rattle.pals_runs.specs.declared.phase.Phase.TheVariants.{Waiting, Running, Between, Holding, Done}
use Rattle.pals_runs.specs.declared.journal.Arrived.{Arrived}
use Rattle.pals_runs.specs.declared.journal.Stop.{Stop}
use Rattle.pals_runs.specs.declared.journal.JournalEntry.{JournalEntry}
use Rattle.pals_runs.specs.declared.journal.JournalEntry.TheVariants as entry
use Rattle.bus_machine.specs.Plans.{plan_of, component_at, no_component, link_at}
use Rattle.bus_machine.specs.Nodes.{NodeState, round_of}
use Rattle.bus_machine.specs.NodeEvents.{started, stepped, finished, sent_from, next_step, running_step, received}
use Rattle.bus_machine.specs.NodeEvents.{arrived}
use Rattle.bus_machine.specs.LinkEvents.{arriving}
use Rattle.bus_machine.specs.BusStates.{BusState, opening, node_at, no_node, flight_at, with_node}
use Rattle.bus_machine.specs.RunParameters.{Run}
use Rattle.bus_machine.specs.MissedMessages.{missing_link}
use Rattle.bus_machine.specs.Machine.{BusEvent, Start, Step, Finish, Send, Arrive, Drop, Repeat, IsStep, is_allowed}
use Rattle.bus_machine.specs.Machine.{after, after_start, after_send, after_arrive, on_step, arrival, early_stop}
use Rattle.bus_machine.specs.Replay.{Replays, entries, start_entry, stop_entry, opens as replay_opens}
use Rattle.bus_machine.specs.Replay.{goes_on as replay_goes_on}
use Rattle.bus_machine.specs.Agreement.{NodeAgrees, PhaseAgrees, Agrees}
use Rattle.bus_machine.specs.proof.AgreementLaws.{IsRunOf}
use Rattle.bus_machine.specs.declared.node_action.NodeAction.{NodeAction}
use Rattle.bus_machine.specs.declared.node_action.NodeAction.TheVariants as action
use Rattle.bus_machine.specs.ActionsAndTargets.{target, targets, next_in}
use Rattle.bus_machine.proofs.StateChangeAgreement.{node_stays}
use Rattle.bus_machine.proofs.MessageAndRunAgreement.{replay_agrees, node_opens}
use Rattle.run_laws.specs.JournalReadings.{listed, if_at, act_in, acts}
use Rattle.run_laws.specs.NodeActions.{upcoming, Follows}
use Rattle.pals_clock.specs.declared.clock.Clocks.{Clocks}
use Rattle.pals_clock.specs.declared.clock.Clocks.TheVariants.{Meet, Lists}
use Rattle.run_laws.specs.Runs.{no_clock, clock_at, Does, Begins, Takes, KeepsTo, Picks, AreFresh, HaveFreshClocks}
use Rattle.run_laws.specs.Runs.{Runs, opens}
use Rattle.run_laws.specs.Runs.{picks_for, goes_on}
use Rattle.run_laws.specs.proof.ListPicks.{IsPicked}
use Rattle.run_laws.specs.PicksAndJournalLines.{picks_of, IsPrefix}
use Rattle.run_laws.proofs.NodeActions.{IsPlan, length-targets}
use Rattle.run_laws.proofs.TargetPicks.{does_next, picks_next, goes_otherwise, is_prefix}
use Rattle.run_laws.proofs.ProgressByEvent.{acting, is_at_most, next_is, target_is, starts_follow, steps_follow}
use Rattle.run_laws.proofs.ProgressByEvent.{sends_follow, finish_follows, received_follows}

-- ---- a run replays, and agrees
pub runs_replay : (run : Run) (clocks : Clocks) (journal : List JournalEntry) (s : BusState) → Runs run clocks journal s
    → Replays run journal s
runs_replay run clocks journal s (opens clocks' begin) = replay_opens
runs_replay run clocks journal s (picks_for {clocks = before} node runs picks) =
    runs_replay run (Lists before) journal s runs
runs_replay run clocks journal s (goes_on {journal = before} {s = t} e runs keeps step) =
    replay_goes_on e (runs_replay run clocks before t runs) step

pub runs_agree : (run : Run) (clocks : Clocks) (journal : List JournalEntry) (s : BusState) → IsRunOf run
    → Runs run clocks journal s → Agrees run s
runs_agree run clocks journal s rules runs = replay_agrees run journal s rules (runs_replay run clocks journal s runs)

-- ---- of one node
pub component_is : (run : Run) (node : ℕ) → node < length run.design.components
    → slice_get run.design.components node ≡ Some (component_at run.design node)
component_is run node within = slice_get-get_or run.design.components node no_component within

few_sent : (g : Gamma) (t k : ℕ) → sent_steps g t k ≤ k
few_sent g t k = omega arith

pub plan_rules : (run : Run) (node : ℕ) → IsRunOf run → node < length run.design.components
    → IsPlan (plan_of run.design node)
plan_rules run node rules within =
    let c = component_at run.design node in
    let rule =
    at_element (IsComponent run.design.period) run.design.components node c rules.design.components.each
    (component_is run node within) in
    record { rate = rule.rate.0; few = few_sent run.design.gamma run.design.period c.rate }

pub node_agrees : (run : Run) (s : BusState) (node : ℕ) → Agrees run s → node < length run.design.components
    → NodeAgrees run node (component_at run.design node) (node_at s node)
node_agrees run s node agree within = agree.nodes node (component_at run.design node) (component_is run node within)

pub held_of : (run : Run) (node : ℕ) (c : Component) (n : NodeState) → NodeAgrees run node c n → n.phase ≡ Holding
    → n.sent ≡ false
held_of run node c n agree held = (subst (PhaseAgrees run node c n) held agree.phase).sent

pub acting_by : (run : Run) (node : ℕ) (n : NodeState) (p : Phase)
    → PhaseAgrees run node (component_at run.design node) n p → acting (plan_of run.design node) run.rounds n p
acting_by run node n Waiting agree = agree.1
acting_by run node n (Running step) agree = agree.within
acting_by run node n (Between steps) agree = agree.0.within
acting_by run node n Holding agree = agree.sent
acting_by run node n Done agree = tt

-- its next target
pub next_target : (run : Run) (s : BusState) (node done : ℕ) (action : NodeAction) → IsRunOf run → Agrees run s
    → node < length run.design.components → Follows (plan_of run.design node) done (node_at s node)
    → upcoming (plan_of run.design node) (node_at s node) ≡ Some action
    → slice_get (targets (plan_of run.design node) run.rounds) done ≡ Some (target (plan_of run.design node) action)
next_target run s node done action rules agree within follows is =
    let n = node_at s node in
    let here = node_agrees run s node agree within in
    target_is (plan_of run.design node) run.rounds done n action (plan_rules run node rules within)
    rules.rounds here.rounds
    (acting_by run node n n.phase here.phase) (held_of run node (component_at run.design node) n here) follows is

-- ---- a node's own events
abbrev Has : Run → List ClockState → ℕ → NodeState → List ℕ → Type 0
Has run clocks node n shown = IsPicked (plan_of run.design node) run.rounds (clock_at clocks node) n shown

does_it : (run : Run) (clocks : List ClockState) (s : BusState) (node : NodeNo) (reading : Option ℕ)
    (action : NodeAction) (m : NodeState) (shown : List ℕ) → IsRunOf run → Agrees run s
    → Does run (Lists clocks) s node reading action → (p : Has run clocks node.0 (node_at s node.0) shown)
    → Follows (plan_of run.design node.0) (p.done + 1) m
    → Has run clocks node.0 m (shown ++ listed reading)
does_it run clocks s node reading action m shown rules agree does p follows =
    let plan = plan_of run.design node.0 in
    let is = next_target run s node.0 p.done action rules agree does.within p.follows does.next in
    subst (λ o. Has run clocks node.0 m (shown ++ listed o)) (sym does.reading_is)
    (does_next plan run.rounds (clock_at clocks node.0) (node_at s node.0) m shown p (target plan action) does.at is
    does.shows.0 does.shows.1 follows)

-- at each node, where one node changes
each_node : (run : Run) (clocks : List ClockState) (s : BusState) (j k : ℕ) (m : NodeState) (journal told : List ℕ)
    (b : Bool) → nat_eq j k ≡ b → j < length s.nodes
    → Has run clocks k (node_at s k) journal → (j ≡ k → Has run clocks k m (journal ++ told))
    → Has run clocks k (node_at (with_node s j m) k) (journal ++ (cond b told [] ++ []))
each_node run clocks s j k m journal told true is within before own =
    let same : j ≡ k = eqb-true j k is in
    subst (λ n. Has run clocks k n (journal ++ (told ++ [])))
    (sym (get_or-set_at s.nodes j k m no_node (sym same) within))
    (subst (λ xs. Has run clocks k m (journal ++ xs)) (sym (append-nil told)) (own same))
each_node run clocks s j k m journal told false is within before own =
    let other : j ≢ k = eqb-false j k is in
    subst (λ n. Has run clocks k n (journal ++ [])) (sym (node_stays s j k m (λ e. other (sym e))))
    (subst (Has run clocks k (node_at s k)) (sym (append-nil journal)) before)

stays_node : (run : Run) (clocks : List ClockState) (s : BusState) (j k : ℕ) (m : NodeState) (journal : List ℕ)
    → j < length s.nodes
    → Has run clocks k (node_at s k) journal → (j ≡ k → Has run clocks k m journal)
    → Has run clocks k (node_at (with_node s j m) k) (journal ++ [])
stays_node run clocks s j k m journal within before own =
    subst (Has run clocks k (node_at (with_node s j m) k)) (sym (append-nil journal)) (elim (cases_eq k j) [
      | inl same ↦ subst (λ n. Has run clocks k n journal) (sym (get_or-set_at s.nodes j k m no_node same within))
          (own (sym same))
      | inr other ↦ subst (λ n. Has run clocks k n journal) (sym (node_stays s j k m other)) before
    ])

unchanged : (run : Run) (clocks : List ClockState) (n : NodeState) (k : ℕ) (journal : List ℕ)
    → Has run clocks k n journal → Has run clocks k n (journal ++ [])
unchanged run clocks n k journal before = subst (Has run clocks k n) (sym (append-nil journal)) before

-- ---- each event, by its entries
abbrev Goes : Run → List ClockState → BusState → BusState → ℕ → List ℕ → List JournalEntry → Type 0
Goes run clocks s t k shown told =
    Has run clocks k (node_at s k) shown → Has run clocks k (node_at t k) (shown ++ acts k told)

pub below_nodes : (run : Run) (s : BusState) (j : ℕ) → Agrees run s → j < length run.design.components
    → j < length s.nodes
below_nodes run s j agree within = let count = agree.node_count in omega arith

start_goes : (run : Run) (clocks : List ClockState) (s : BusState) (node : NodeNo) (reading m : Option ℕ) (k : ℕ)
    (shown : List ℕ) → IsRunOf run → Agrees run s → Begins run (Lists clocks) s node reading
    → Goes run clocks s (after_start run s node reading m) k shown (start_entry run s node reading m ∷ [])
start_goes run clocks s node reading (Some link) k shown rules agree begins =
    λ before. unchanged run clocks (node_at s k) k shown before
start_goes run clocks s node reading None k shown rules agree begins = λ before.
    let n = node_at s node.0 in
    let plan = plan_of run.design node.0 in
    let does = begins.does in
    each_node run clocks s node.0 k (started plan (values_at run.env n.count) n) shown (listed reading)
    (nat_eq node.0 k) refl (below_nodes run s node.0 agree does.within) before
    (λ same.
    subst (λ j. Has run clocks j (started plan (values_at run.env n.count) n) (shown ++ listed reading)) same
    (let here : Has run clocks node.0 n shown = subst (λ j. Has run clocks j (node_at s j) shown) (sym same) before in
    does_it run clocks s node reading (action.Start n.count) (started plan (values_at run.env n.count) n) shown rules
    agree does here
    (starts_follow plan here.done n (values_at run.env n.count)
    (next_is plan here.done n (action.Start n.count) (plan_rules run node.0 rules does.within)
    (held_of run node.0 (component_at run.design node.0) n (node_agrees run s node.0 agree does.within))
    here.follows does.next))))

step_goes : (run : Run) (clocks : List ClockState) (s : BusState) (node : NodeNo) (reading : Option ℕ) (round step : ℕ)
    (p : Phase) (k : ℕ) (shown : List ℕ) → IsRunOf run → Agrees run s
    → Does run (Lists clocks) s node reading (action.Step round step)
    → (node_at s node.0).phase ≡ p → (told : JournalEntry) → act_in k told ≡ if_at k node reading
    → Goes run clocks s (on_step (next_step p) s (λ i. with_node s node.0 (stepped i (node_at s node.0)))) k
    shown (told ∷ [])
step_goes run clocks s node reading round step Waiting k shown rules agree does is told tells =
    absurd (let both : next_in (plan_of run.design node.0) (node_at s node.0) Waiting ≡ Some (action.Step round step) =
    subst (λ q. next_in (plan_of run.design node.0) (node_at s node.0) q ≡ Some (action.Step round step)) is
    does.next in cc)
step_goes run clocks s node reading round step (Running i) k shown rules agree does is told tells =
    absurd (let both : next_in (plan_of run.design node.0) (node_at s node.0) (Running i)
    ≡ Some (action.Step round step) = subst (λ q. next_in (plan_of run.design node.0) (node_at s node.0) q
    ≡ Some (action.Step round step)) is does.next in cc)
step_goes run clocks s node reading round step (Between steps) k shown rules agree does is told tells = λ before.
    let n = node_at s node.0 in
    let plan = plan_of run.design node.0 in
    subst (λ xs. Has run clocks k (node_at (with_node s node.0 (stepped steps n)) k) (shown ++ (xs ++ []))) (sym tells)
    (each_node run clocks s node.0 k (stepped steps n) shown (listed reading) (nat_eq node.0 k) refl
    (below_nodes run s node.0 agree does.within) before
    (λ same.
    subst (λ j. Has run clocks j (stepped steps n) (shown ++ listed reading)) same
    (let here : Has run clocks node.0 n shown = subst (λ j. Has run clocks j (node_at s j) shown) (sym same) before in
    does_it run clocks s node reading (action.Step round step) (stepped steps n) shown rules agree does here
    (steps_follow plan here.done n steps round step (plan_rules run node.0 rules does.within) here.follows is
    does.next))))
step_goes run clocks s node reading round step Holding k shown rules agree does is told tells =
    absurd (let both : next_in (plan_of run.design node.0) (node_at s node.0) Holding ≡ Some (action.Step round step) =
    subst (λ q. next_in (plan_of run.design node.0) (node_at s node.0) q ≡ Some (action.Step round step)) is
    does.next in cc)
step_goes run clocks s node reading round step Done k shown rules agree does is told tells =
    absurd (let both : next_in (plan_of run.design node.0) (node_at s node.0) Done ≡ Some (action.Step round step) =
    subst (λ q. next_in (plan_of run.design node.0) (node_at s node.0) q ≡ Some (action.Step round step)) is
    does.next in cc)

finish_goes : (run : Run) (clocks : List ClockState) (s : BusState) (node : NodeNo) (p : Phase) (round k : ℕ)
    (shown : List ℕ) → IsRunOf run → Agrees run s → node.0 < length run.design.components → (node_at s node.0).phase ≡ p
    → Goes run clocks s (on_step (running_step p) s
    (λ i. with_node s node.0 (finished (plan_of run.design node.0) run.rounds i (node_at s node.0)))) k shown
    (entry.Finish node round ∷ [])
finish_goes run clocks s node Waiting round k shown rules agree within is =
    λ before. unchanged run clocks (node_at s k) k shown before
finish_goes run clocks s node (Running step) round k shown rules agree within is = λ before.
    let n = node_at s node.0 in
    let plan = plan_of run.design node.0 in
    let below =
    subst (PhaseAgrees run node.0 (component_at run.design node.0) n) is
    (node_agrees run s node.0 agree within).phase in
    stays_node run clocks s node.0 k (finished plan run.rounds step n) shown
    (below_nodes run s node.0 agree within) before
    (λ same.
    subst (λ j. Has run clocks j (finished plan run.rounds step n) shown) same
    (let here : Has run clocks node.0 n shown = subst (λ j. Has run clocks j (node_at s j) shown) (sym same) before in
    goes_otherwise plan run.rounds (clock_at clocks node.0) n (finished plan run.rounds step n) shown here
    (finish_follows plan run.rounds here.done n step here.follows is below.within)))
finish_goes run clocks s node (Between steps) round k shown rules agree within is =
    λ before. unchanged run clocks (node_at s k) k shown before
finish_goes run clocks s node Holding round k shown rules agree within is =
    λ before. unchanged run clocks (node_at s k) k shown before
finish_goes run clocks s node Done round k shown rules agree within is =
    λ before. unchanged run clocks (node_at s k) k shown before

send_goes : (run : Run) (clocks : List ClockState) (s : BusState) (node : NodeNo) (reading : Option ℕ)
    (round told k : ℕ) (shown : List ℕ) → IsRunOf run → Agrees run s
    → Does run (Lists clocks) s node reading (action.Send round)
    → Goes run clocks s (after_send run s node reading) k shown (entry.Send node told reading ∷ [])
send_goes run clocks s node reading round told k shown rules agree does = λ before.
    let n = node_at s node.0 in
    let plan = plan_of run.design node.0 in
    each_node run clocks s node.0 k (sent_from run.rounds n) shown (listed reading) (nat_eq node.0 k) refl
    (below_nodes run s node.0 agree does.within) before
    (λ same.
    subst (λ j. Has run clocks j (sent_from run.rounds n) (shown ++ listed reading)) same
    (let here : Has run clocks node.0 n shown = subst (λ j. Has run clocks j (node_at s j) shown) (sym same) before in
    does_it run clocks s node reading (action.Send round) (sent_from run.rounds n) shown rules agree does here
    (sends_follow plan run.rounds here.done n round (plan_rules run node.0 rules does.within)
    (held_of run node.0 (component_at run.design node.0) n (node_agrees run s node.0 agree does.within))
    here.follows does.next)))

stop_tells : (k : ℕ) (o : Option Stop) → acts k (stop_entry o) ≡ []
stop_tells k None = refl
stop_tells k (Some why) = refl

arrive_goes : (run : Run) (clocks : List ClockState) (s : BusState) (link : LinkNo) (round : ℕ) (reading : Option ℕ)
    (a : Arrived) (k : ℕ) (shown : List ℕ) → Agrees run s → Takes run (Lists clocks) s link round reading
    → Goes run clocks s (after_arrive run s link round reading) k shown
    (entry.Arrive link round reading a ∷ stop_entry (early_stop link round reading a))
arrive_goes run clocks s link round reading a k shown agree takes = λ before.
    let l = link_at run.design link.0 in
    let n = node_at s l.target.0 in
    let m = received n l.in_port round (arriving round (flight_at s link.0)) in
    subst (λ xs. Has run clocks k (node_at (with_node s l.target.0 m) k) (shown ++ xs))
    (sym (stop_tells k (early_stop link round reading a)))
    (stays_node run clocks s l.target.0 k m shown (below_nodes run s l.target.0 agree takes.does.within) before
    (λ same.
    subst (λ j. Has run clocks j m shown) same
    (let here : Has run clocks l.target.0 n shown =
    subst (λ j. Has run clocks j (node_at s j) shown) (sym same) before in
    goes_otherwise (plan_of run.design l.target.0) run.rounds (clock_at clocks l.target.0) n m shown here
    (received_follows (plan_of run.design l.target.0) here.done n l.in_port (arriving round (flight_at s link.0))
    (arrived n l.in_port round) here.follows))))

event_goes : (run : Run) (clocks : List ClockState) (s : BusState) (e : BusEvent) (k : ℕ) (shown : List ℕ) → IsRunOf run
    → Agrees run s → KeepsTo run (Lists clocks) s e → is_allowed run s e ≡ true
    → Goes run clocks s (after run s e) k shown (entries run s e)
event_goes run clocks s (Start node reading) k shown rules agree keeps may =
    start_goes run clocks s node reading (missing_link run s node.0) k shown rules agree keeps
event_goes run clocks s (Step node reading) k shown rules agree keeps may =
    step_goes run clocks s node reading keeps.0 keeps.1 (node_at s node.0).phase k shown rules agree keeps.2 refl
    (entry.Step node (round_of (node_at s node.0)) (unwrap_or (next_step (node_at s node.0).phase) 0) reading) refl
event_goes run clocks s (Finish node) k shown rules agree keeps may =
    finish_goes run clocks s node (node_at s node.0).phase (round_of (node_at s node.0)) k shown rules agree keeps refl
event_goes run clocks s (Send node reading) k shown rules agree keeps may =
    send_goes run clocks s node reading keeps.0 (round_of (node_at s node.0)) k shown rules agree keeps.1
event_goes run clocks s (Arrive link round reading) k shown rules agree keeps may =
    arrive_goes run clocks s link round reading (arrival run s link round) k shown agree keeps
event_goes run clocks s (Drop link round) k shown rules agree keeps may = absurd keeps
event_goes run clocks s (Repeat link round) k shown rules agree keeps may = absurd keeps

-- ---- the opening
opening_picks : (run : Run) (clocks : List ClockState) (node : ℕ) → AreFresh run clocks
    → node < length run.design.components → Has run clocks node (node_at (opening run) node) []
opening_picks run clocks node fresh within =
    let count = fresh.count in
    subst (λ n. Has run clocks node n []) (sym (node_opens run node within))
    (record {
      done = 0;
      follows = inl (record { none_done = refl; count = refl; phase = refl });
      count = refl;
      shown_are = refl;
      left = inl (fresh.each node (omega arith));
    })

-- ---- a pick
picks_at : (run : Run) (clocks later : List ClockState) (s : BusState) (j k : ℕ) (shown : List ℕ) → IsRunOf run
    → Agrees run s → length clocks ≡ length run.design.components → Picks run clocks s j later
    → Has run clocks k (node_at s k) shown → Has run later k (node_at s k) shown
picks_at run clocks later s j k shown rules agree many picks before =
    let within = picks.within in
    let t = target (plan_of run.design j) picks.action in
    let new = standing_at (clock_at clocks j) (remaining_from (clock_at clocks j).left t) in
    subst (λ cs. Has run cs k (node_at s k) shown) (sym picks.clocks_are) (elim (cases_eq k j) [
      | inl same ↦
          let here : Has run clocks j (node_at s j) shown =
          subst (λ i. Has run clocks i (node_at s i) shown) same before in
          let one : IsPicked (plan_of run.design j) run.rounds new (node_at s j) shown =
          picks_next (plan_of run.design j) run.rounds (clock_at clocks j) (node_at s j) shown here t
          (next_target run s j here.done picks.action rules agree within here.follows picks.next) in
          subst (λ c. IsPicked (plan_of run.design k) run.rounds c (node_at s k) shown)
          (sym (get_or-set_at clocks j k new no_clock same (omega arith)))
          (subst (λ i. IsPicked (plan_of run.design i) run.rounds new (node_at s i) shown) (sym same) one)
      | inr other ↦ subst (λ c. IsPicked (plan_of run.design k) run.rounds c (node_at s k) shown)
          (sym (get_or-set_other clocks j k new no_clock other)) before
    ])

-- ---- each run
-- there is one clock for each node
abbrev ManyClocks : Run → Clocks → Type 0
ManyClocks run Meet = Unit {0}
ManyClocks run (Lists clocks) = length clocks ≡ length run.design.components

begins_many : (run : Run) (clocks : Clocks) → HaveFreshClocks run clocks → ManyClocks run clocks
begins_many run Meet begin = tt
begins_many run (Lists clocks) begin = begin.count

pub many_clocks : (run : Run) (clocks : Clocks) (journal : List JournalEntry) (s : BusState) → Runs run clocks journal s
    → ManyClocks run clocks
many_clocks run clocks journal s (opens clocks' begin) = begins_many run clocks begin
many_clocks run clocks journal s (picks_for {clocks = before} node runs picks) =
    ap length picks.clocks_are ∙ length-set before node _ ∙ many_clocks run (Lists before) journal s runs
many_clocks run clocks journal s (goes_on {journal = before} {s = t} e runs keeps step) =
    many_clocks run clocks before t runs

abbrev HasIn : Run → Clocks → ℕ → BusState → List JournalEntry → Type 0
HasIn run Meet node s journal = Unit {0}
HasIn run (Lists clocks) node s journal = Has run clocks node (node_at s node) (acts node journal)

begins_picked : (run : Run) (clocks : Clocks) (node : ℕ) → HaveFreshClocks run clocks
    → node < length run.design.components
    → HasIn run clocks node (opening run) []
begins_picked run Meet node begin within = tt
begins_picked run (Lists clocks) node begin within = opening_picks run clocks node begin within

event_picked : (run : Run) (clocks : Clocks) (s t : BusState) (e : BusEvent) (journal : List JournalEntry) (node : ℕ)
    → IsRunOf run → Agrees run s → KeepsTo run clocks s e → IsStep run s e t
    → HasIn run clocks node s journal → HasIn run clocks node t (journal ++ entries run s e)
event_picked run Meet s t e journal node rules agree keeps step before = tt
event_picked run (Lists clocks) s t e journal node rules agree keeps step before =
    subst (λ u. Has run clocks node (node_at u node) (acts node (journal ++ entries run s e))) (sym step.state)
    (subst (λ xs. Has run clocks node (node_at (after run s e) node) xs)
    (sym (flat_map-append (act_in node) journal (entries run s e)))
    (event_goes run clocks s e node (acts node journal) rules agree keeps step.allowed before))

picked : (run : Run) (clocks : Clocks) (journal : List JournalEntry) (s : BusState) (node : ℕ) → IsRunOf run
    → Runs run clocks journal s → node < length run.design.components → HasIn run clocks node s journal
picked run clocks journal s node rules (opens clocks' begin) within = begins_picked run clocks node begin within
picked run clocks journal s node rules (picks_for {clocks = before} {later = later} j runs picks) within =
    picks_at run before later s j node (acts node journal) rules (runs_agree run (Lists before) journal s rules runs)
    (many_clocks run (Lists before) journal s runs) picks
    (picked run (Lists before) journal s node rules runs within)
picked run clocks journal s node rules (goes_on {journal = before} {s = t} e runs keeps step) within =
    event_picked run clocks t s e before node rules (runs_agree run clocks before t rules runs) keeps step
    (picked run clocks before t node rules runs within)

pub nodes_pick : (run : Run) (clocks : List ClockState) (journal : List JournalEntry) (s : BusState) (node : ℕ)
    → IsRunOf run → Runs run (Lists clocks) journal s → node < length run.design.components
    → IsPicked (plan_of run.design node) run.rounds (clock_at clocks node) (node_at s node) (acts node journal)
nodes_pick run clocks journal s node rules runs within = picked run (Lists clocks) journal s node rules runs within

-- ---- so the readings are picks
at_most_all : (run : Run) (clocks : List ClockState) (s : BusState) (node : ℕ) (shown : List ℕ) → IsRunOf run
    → Agrees run s → node < length run.design.components → (p : Has run clocks node (node_at s node) shown)
    → p.done ≤ length (targets (plan_of run.design node) run.rounds)
at_most_all run clocks s node shown rules agree within p =
    let plan = plan_of run.design node in
    let size = length-targets plan run.rounds in
    let most =
    is_at_most plan run.rounds p.done (node_at s node) (plan_rules run node rules within)
    (node_agrees run s node agree within).rounds p.follows in
    omega arith

pub readings_are_picks : (run : Run) (clocks : List ClockState) (journal : List JournalEntry) (s : BusState) (node : ℕ)
    → IsRunOf run → Runs run (Lists clocks) journal s → node < length run.design.components
    → IsPrefix (acts node journal) (picks_of run clocks node)
readings_are_picks run clocks journal s node rules runs within =
    let p = nodes_pick run clocks journal s node rules runs within in
    is_prefix (plan_of run.design node) run.rounds (clock_at clocks node) (node_at s node) (acts node journal) p
    (at_most_all run clocks s node (acts node journal) rules
    (runs_agree run (Lists clocks) journal s rules runs) within p)
