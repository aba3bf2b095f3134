-- With a meeting no reading is later than the target of a node that is not done.
use Rattle.std.proofs.Common.{◌≡◌, inl, inr, ℕ, suc, ◌<◌, ◌≤◌, nat_eq, Bool, true, false, cond, List, [], ◌++◌, length}
use Rattle.std.proofs.Common.{Option, Some, None, refl, sym, ap, ◌∙◌, subst, arith}
use Rattle.std.specs.Option.{option_map}
use Rattle.std.proofs.lemmas.Bool.{cases_eq}
use Rattle.std.proofs.lemmas.Grind.{get_or-set_at}
use Rattle.std.proofs.lemmas.Option.{same_Some}
use Rattle.pals_base.specs.declared.basic_types.NodeNo.{NodeNo}
use Rattle.pals_base.specs.declared.basic_types.PortValue.{PortValue}
use Rattle.pals_model.specs.ComponentInputs.{values_at}
use Rattle.pals_runs.specs.declared.phase.Phase.{Phase}
use Rattle.pals_runs.specs.declared.phase.Phase.TheVariants.{Waiting, Running, Between, Holding, Done}
use Rattle.pals_runs.specs.declared.journal.Arrived.{Arrived}
use Rattle.pals_runs.specs.declared.journal.Arrived.TheVariants.{Kept, Ignored, Early}
use Rattle.pals_runs.specs.declared.journal.JournalEntry.{JournalEntry}
use Rattle.bus_machine.specs.declared.plan.Plan.{Plan}
use Rattle.bus_machine.specs.Plans.{plan_of, component_at, link_at}
use Rattle.bus_machine.specs.Nodes.{NodeState}
use Rattle.bus_machine.specs.NodeEvents.{is_waiting, started, stepped, finished, sent_from, next_step, running_step}
use Rattle.bus_machine.specs.NodeEvents.{received, arrived, with_message}
use Rattle.bus_machine.specs.LinkEvents.{arriving}
use Rattle.bus_machine.specs.BusStates.{BusState, opening, node_at, no_node, flight_at, with_node}
use Rattle.bus_machine.specs.RunParameters.{Run}
use Rattle.bus_machine.specs.MissedMessages.{missing_link}
use Rattle.bus_machine.specs.Machine.{BusEvent, Start, Step, Finish, Send, Arrive, Drop, Repeat, is_allowed, after}
use Rattle.bus_machine.specs.Machine.{after_start, on_step}
use Rattle.bus_machine.specs.Replay.{entries}
use Rattle.bus_machine.specs.Agreement.{PhaseAgrees, Agrees}
use Rattle.bus_machine.specs.proof.AgreementLaws.{IsRunOf}
use Rattle.bus_machine.specs.declared.node_action.NodeAction.{NodeAction}
use Rattle.bus_machine.specs.declared.node_action.NodeAction.TheVariants as action
use Rattle.bus_machine.specs.ActionsAndTargets.{target, action_in, next_in}
use Rattle.bus_machine.proofs.StateChangeAgreement.{node_stays}
use Rattle.bus_machine.proofs.NodeEventBusAgreement.{is_waiting_phase}
use Rattle.run_laws.specs.JournalReadings.{latest}
use Rattle.pals_clock.specs.declared.clock.Clocks.{Clocks}
use Rattle.pals_clock.specs.declared.clock.Clocks.TheVariants.{Meet, Lists}
use Rattle.run_laws.specs.Runs.{target_of, Does, KeepsTo, Runs, opens, picks_for, goes_on}
use Rattle.run_laws.proofs.NodePicksAndRunReplay.{runs_agree, node_agrees, below_nodes, component_is}
use Rattle.run_laws.proofs.ActionsInOrder.{HasDone, follows_in}
use Rattle.run_laws.proofs.RisingTargets.{IsTimedPlan, plan_times, step_was, aim_in, aim, Rises, same_aim, start_rises}
use Rattle.run_laws.proofs.RisingTargets.{step_rises, send_rises, finish_rises, Steps}
use Rattle.run_laws.proofs.EventReadings.{Told, none_told, is_told, event_tells, latest_after, NoFall, lists_no_fall}

-- ---- each event raises targets
one_aim : (run : Run) (s : BusState) (j k : ℕ) (m : NodeState) → j < length s.nodes
    → Rises (aim (plan_of run.design j) (node_at s j)) (aim (plan_of run.design j) m)
    → Rises (target_of run s k) (target_of run (with_node s j m) k)
one_aim run s j k m within rises = elim (cases_eq k j) [
  | inl same ↦
      subst (λ n. Rises (target_of run s k) (aim (plan_of run.design k) n))
      (sym (get_or-set_at s.nodes j k m no_node same within))
      (subst (λ i. Rises (aim (plan_of run.design i) (node_at s i)) (aim (plan_of run.design i) m)) (sym same) rises)
  | inr other ↦ same_aim (target_of run s k) (target_of run (with_node s j m) k)
      (ap (aim (plan_of run.design k)) (node_stays s j k m other))
]

pub times_of : (run : Run) (j : ℕ) → IsRunOf run → j < length run.design.components → IsTimedPlan (plan_of run.design j)
times_of run j rules within = plan_times run j rules within (component_is run j within)

steps_by : (run : Run) (j : ℕ) (n : NodeState) (p : Phase) → PhaseAgrees run j (component_at run.design j) n p
    → Steps (plan_of run.design j) n p
steps_by run j n Waiting agree = tt
steps_by run j n (Running i) agree = agree.within
steps_by run j n (Between i) agree = agree.0.within
steps_by run j n Holding agree = tt
steps_by run j n Done agree = tt

start_aims : (run : Run) (clocks : Clocks) (s : BusState) (node : NodeNo) (reading m : Option ℕ) (k : ℕ) → Agrees run s
    → node.0 < length run.design.components → is_waiting (node_at s node.0).phase ≡ true
    → Rises (target_of run s k) (target_of run (after_start run s node reading m) k)
start_aims run clocks s node reading (Some link) k agree within waits = same_aim _ _ refl
start_aims run clocks s node reading None k agree within waits =
    let n = node_at s node.0 in
    one_aim run s node.0 k (started (plan_of run.design node.0) (values_at run.env n.count) n)
    (below_nodes run s node.0 agree within)
    (start_rises (plan_of run.design node.0) n (values_at run.env n.count) (is_waiting_phase n.phase waits))

step_aims : (run : Run) (clocks : Clocks) (s : BusState) (node : NodeNo) (reading : Option ℕ) (round step : ℕ)
    (p : Phase) (k : ℕ) → Agrees run s → Does run clocks s node reading (action.Step round step)
    → (node_at s node.0).phase ≡ p
    → Rises (target_of run s k)
    (target_of run (on_step (next_step p) s (λ i. with_node s node.0 (stepped i (node_at s node.0)))) k)
step_aims run clocks s node reading round step Waiting k agree does is = same_aim _ _ refl
step_aims run clocks s node reading round step (Running i) k agree does is = same_aim _ _ refl
step_aims run clocks s node reading round step (Between i) k agree does is =
    one_aim run s node.0 k (stepped i (node_at s node.0)) (below_nodes run s node.0 agree does.within)
    (step_rises (plan_of run.design node.0) (node_at s node.0) i round step is does.next)
step_aims run clocks s node reading round step Holding k agree does is = same_aim _ _ refl
step_aims run clocks s node reading round step Done k agree does is = same_aim _ _ refl

counted : (round count : ℕ) → count ≡ suc round → 1 ≤ count
counted round count is = omega arith

finish_aims : (run : Run) (s : BusState) (node : NodeNo) (p : Phase) (k : ℕ) → IsRunOf run → Agrees run s
    → node.0 < length run.design.components → (node_at s node.0).phase ≡ p → HasDone run node.0 (node_at s node.0)
    → Rises (target_of run s k)
    (target_of run (on_step (running_step p) s
    (λ i. with_node s node.0 (finished (plan_of run.design node.0) run.rounds i (node_at s node.0)))) k)
finish_aims run s node Waiting k rules agree within is done = same_aim _ _ refl
finish_aims run s node (Running i) k rules agree within is done =
    let n = node_at s node.0 in
    let plan = plan_of run.design node.0 in
    let round =
    subst (PhaseAgrees run node.0 (component_at run.design node.0) n) is
    (node_agrees run s node.0 agree within).phase in
    let times = times_of run node.0 rules within in
    one_aim run s node.0 k (finished plan run.rounds i n) (below_nodes run s node.0 agree within)
    (finish_rises plan run.rounds n i times (counted round.under_way.round n.count round.under_way.count) round.within
    is (step_was plan done.0 n i times done.1 is))
finish_aims run s node (Between i) k rules agree within is done = same_aim _ _ refl
finish_aims run s node Holding k rules agree within is done = same_aim _ _ refl
finish_aims run s node Done k rules agree within is done = same_aim _ _ refl

some_round : (run : Run) (j : ℕ) (n : NodeState) (p : Phase) (round : ℕ)
    → PhaseAgrees run j (component_at run.design j) n p → next_in (plan_of run.design j) n p ≡ Some (action.Send round)
    → 1 ≤ n.count
some_round run j n Waiting round agree is =
    absurd (let both : action.Start n.count ≡ action.Send round = same_Some _ _ is in cc)
some_round run j n (Running i) round agree is = absurd (cc)
some_round run j n (Between i) round agree is = counted agree.0.under_way.round n.count agree.0.under_way.count
some_round run j n Holding round agree is = counted agree.under_way.round n.count agree.under_way.count
some_round run j n Done round agree is = absurd (cc)

kept_aim : (plan : Plan) (n : NodeState) (port : ℕ) (tuple : List PortValue) (p : Phase)
    → aim_in plan (with_message n port tuple Kept) p ≡ aim_in plan n p
kept_aim plan n port tuple Waiting = refl
kept_aim plan n port tuple (Running i) = refl
kept_aim plan n port tuple (Between i) = refl
kept_aim plan n port tuple Holding = refl
kept_aim plan n port tuple Done = refl

message_aim : (plan : Plan) (n : NodeState) (port : ℕ) (tuple : List PortValue) (a : Arrived)
    → aim plan (with_message n port tuple a) ≡ aim plan n
message_aim plan n port tuple Kept = kept_aim plan n port tuple n.phase
message_aim plan n port tuple Ignored = refl
message_aim plan n port tuple Early = refl

pub event_aims : (run : Run) (clocks : Clocks) (s : BusState) (e : BusEvent) (k : ℕ) → IsRunOf run → Agrees run s
    → KeepsTo run clocks s e → is_allowed run s e ≡ true
    → ((j : ℕ) → j < length run.design.components → HasDone run j (node_at s j))
    → Rises (target_of run s k) (target_of run (after run s e) k)
event_aims run clocks s (Start node reading) k rules agree keeps may done =
    start_aims run clocks s node reading (missing_link run s node.0) k agree keeps.does.within may
event_aims run clocks s (Step node reading) k rules agree keeps may done =
    step_aims run clocks s node reading keeps.0 keeps.1 (node_at s node.0).phase k agree keeps.2 refl
event_aims run clocks s (Finish node) k rules agree keeps may done =
    finish_aims run s node (node_at s node.0).phase k rules agree keeps refl (done node.0 keeps)
event_aims run clocks s (Send node reading) k rules agree keeps may done =
    let n = node_at s node.0 in
    let does = keeps.1 in
    let here = (node_agrees run s node.0 agree does.within).phase in
    one_aim run s node.0 k (sent_from run.rounds n) (below_nodes run s node.0 agree does.within)
    (send_rises (plan_of run.design node.0) run.rounds n keeps.0 (times_of run node.0 rules does.within)
    (some_round run node.0 n n.phase keeps.0 here does.next) (steps_by run node.0 n n.phase here) does.next)
event_aims run clocks s (Arrive link round reading) k rules agree keeps may done =
    let l = link_at run.design link.0 in
    let n = node_at s l.target.0 in
    let tuple = arriving round (flight_at s link.0) in
    one_aim run s l.target.0 k (received n l.in_port round tuple) (below_nodes run s l.target.0 agree keeps.does.within)
    (same_aim _ _ (message_aim (plan_of run.design l.target.0) n l.in_port tuple (arrived n l.in_port round)))
event_aims run clocks s (Drop link round) k rules agree keeps may done = absurd keeps
event_aims run clocks s (Repeat link round) k rules agree keeps may done = absurd keeps

-- ---- no reading is later than a target
abbrev pub BelowTargets : Run → Clocks → List JournalEntry → BusState → Type 0
BelowTargets run Meet journal s =
    (k j least : ℕ) → j < length run.design.components → target_of run s j ≡ Some least
    → latest run.design k journal ≤ least
BelowTargets run (Lists clocks) journal s = Unit {0}

opens_below : (run : Run) (clocks : Clocks) → BelowTargets run clocks [] (opening run)
opens_below run Meet = λ k j least within is. omega arith
opens_below run (Lists clocks) = tt

told_below : (run : Run) (s : BusState) (e : BusEvent) (journal : List JournalEntry) → Told run Meet s e
    → ((k : ℕ) → Rises (target_of run s k) (target_of run (after run s e) k)) → BelowTargets run Meet journal s
    → BelowTargets run Meet (journal ++ entries run s e) (after run s e)
told_below run s e journal (none_told tells) rises before = λ k j least within is.
    let old = rises j least is in
    let most = before k j old.0 within old.1 in
    let same = latest_after run.design k journal (entries run s e) ∙ tells k (latest run.design k journal) in
    let greater_rate = old.2 in
    omega arith
told_below run s e journal (is_told i at reads tells) rises before = λ k j least within is.
    let old = rises j least is in
    let most = before k j old.0 within old.1 in
    let hour : at ≤ old.0 = reads.shows.1 j old.0 within old.1 in
    let same : latest run.design k (journal ++ entries run s e) ≡ cond (nat_eq i k) at (latest run.design k journal) =
    latest_after run.design k journal (entries run s e) ∙ tells k (latest run.design k journal) in
    let greater_rate = old.2 in
    let either : cond (nat_eq i k) at (latest run.design k journal) ≤ old.0 =
    both (nat_eq i k) at (latest run.design k journal) old.0 hour most in
    omega arith
  where
    both : (b : Bool) (x y z : ℕ) → x ≤ z → y ≤ z → cond b x y ≤ z
    both true x y z p q = p
    both false x y z p q = q

event_below : (run : Run) (clocks : Clocks) (s : BusState) (e : BusEvent) (journal : List JournalEntry) → IsRunOf run
    → Agrees run s → KeepsTo run clocks s e → is_allowed run s e ≡ true
    → ((j : ℕ) → j < length run.design.components → HasDone run j (node_at s j))
    → BelowTargets run clocks journal s → BelowTargets run clocks (journal ++ entries run s e) (after run s e)
event_below run Meet s e journal rules agree keeps may done before =
    told_below run s e journal (event_tells run Meet s e keeps)
    (λ k. event_aims run Meet s e k rules agree keeps may done) before
event_below run (Lists clocks) s e journal rules agree keeps may done before = tt

pub below_in : (run : Run) (clocks : Clocks) (journal : List JournalEntry) (s : BusState) → IsRunOf run
    → Runs run clocks journal s → BelowTargets run clocks journal s
below_in run clocks journal s rules (opens clocks' begin) = opens_below run clocks
below_in run clocks journal s rules (picks_for {later = after'} j runs picks) = tt
below_in run clocks journal s rules (goes_on {journal = before} {s = t} e runs keeps step) =
    subst (BelowTargets run clocks (before ++ entries run t e)) (sym step.state)
    (event_below run clocks t e before rules (runs_agree run clocks before t rules runs) keeps step.allowed
    (λ j within. follows_in run clocks before t j rules runs within) (below_in run clocks before t rules runs))

-- ---- so no reading falls
pub next_acts : (plan : Plan) (n : NodeState) (p : Phase) (action : NodeAction) → next_in plan n p ≡ Some action
    → action_in plan n p ≡ Some action
next_acts plan n Waiting action is = is
next_acts plan n (Running i) action is = absurd (cc)
next_acts plan n (Between i) action is = is
next_acts plan n Holding action is = is
next_acts plan n Done action is = absurd (cc)

pub no_fall : (run : Run) → IsRunOf run → (clocks : Clocks) (journal : List JournalEntry) (s : BusState)
    → Runs run clocks journal s → NoFall run clocks journal s
no_fall run rules (Lists clocks) journal s runs = lists_no_fall run clocks journal s runs
no_fall run rules Meet journal s runs = λ j at reads.
    let n = node_at s j in
    let plan = plan_of run.design j in
    below_in run Meet journal s rules runs j j at reads.within
    (ap (option_map (target plan)) (next_acts plan n n.phase reads.action reads.next) ∙ ap Some (sym reads.shows.0))
