-- A list clock that shows a reading has picked it for its node's next action; a list clock that shows none has ended.
-- A deliverable message can arrive, and the run can continue.
use Rattle.std.proofs.Common.{◌-◌, inl, inr, Bool, cond, ◌≡◌, ℕ, ◌<◌, ◌≤◌, true, List, length, Some, refl, sym, ap, ◌∙◌}
use Rattle.std.proofs.Common.{subst, arith}
use Rattle.std.proofs.lemmas.Option.{slice_get_within}
use Rattle.pals_base.specs.declared.basic_types.NodeNo.{NodeNo}
use Rattle.pals_base.specs.declared.basic_types.LinkNo.{LinkNo}
use Rattle.pals_base.specs.declared.basic_types.PortValue.{PortValue}
use Rattle.pals_clock.proofs.RemainingReadingsAndPicks.{reached_none}
use Rattle.pals_model.specs.declared.design.Link.{Link}
use Rattle.pals_model.specs.Delays.{delay_of}
use Rattle.pals_runs.specs.declared.phase.Phase.{Phase}
use Rattle.pals_runs.specs.declared.phase.Phase.TheVariants.{Waiting}
use Rattle.pals_runs.specs.declared.journal.Arrived.{Arrived}
use Rattle.pals_runs.specs.declared.journal.Arrived.TheVariants.{Kept, Ignored, Early}
use Rattle.pals_runs.specs.declared.journal.JournalEntry.{JournalEntry}
use Rattle.bus_machine.specs.declared.node_action.NodeAction.TheVariants as action
use Rattle.bus_machine.specs.Plans.{plan_of, link_at}
use Rattle.bus_machine.specs.Nodes.{NodeState, sent_rounds}
use Rattle.bus_machine.specs.NodeEvents.{is_waiting, with_message, received, arrived}
use Rattle.bus_machine.specs.LinkEvents.{arriving}
use Rattle.bus_machine.specs.BusStates.{BusState, node_at, flight_at}
use Rattle.bus_machine.specs.RunParameters.{Run}
use Rattle.bus_machine.specs.Machine.{BusEvent, Arrive}
use Rattle.bus_machine.specs.ActionsAndTargets.{next_in, target}
use Rattle.bus_machine.specs.proof.AgreementLaws.{IsRunOf}
use Rattle.bus_machine.proofs.NodeEventBusAgreement.{is_waiting_phase}
use Rattle.bus_machine.proofs.NodeReplacement.{keeps_at}
use Rattle.pals_clock.specs.ClockStates.{ClockState}
use Rattle.pals_clock.specs.declared.clock.Clocks.{Clocks}
use Rattle.pals_clock.specs.declared.clock.Clocks.TheVariants.{Meet, Lists}
use Rattle.run_laws.specs.Runs.{Shows, Does, Takes, IsAwaited, HasEnded, target_of, Runs}
use Rattle.run_laws.specs.proof.LinkTiming.{view}
use Rattle.run_laws.specs.proof.ClockAnswersAndDueArrivals.{ListPicks, ListEnds, IsToStart, IsDueAt, DueArrives}
use Rattle.run_laws.proofs.MeetingStopsAndBounds.{link_is}
use Rattle.run_laws.proofs.EndedListClocks.{stays_ended}
use Rattle.run_laws.proofs.ActionsInOrder.{follows_in}
use Rattle.run_laws.proofs.MeetingReadings.{event_aims}
use Rattle.run_laws.proofs.LinkTiming.{links_timed}
use Rattle.run_laws.proofs.OldestCopies.{due_is_oldest}
use Rattle.run_laws.proofs.NodePicksAndRunReplay.{runs_agree}

-- ---- clocks
pub list_picks : ListPicks
list_picks run clocks s node action within next =
    record { within = within; action = action; next = next; clocks_are = refl }

pub list_ends : ListEnds
list_ends run clocks s node action next below = (action, next, reached_none _ _ below)

-- ---- messages that are due
-- a message that is due to a node that is to start is one that a run takes
pub due_takes : (run : Run) (clocks : Clocks) (journal : List JournalEntry) (s : BusState) (node : NodeNo) (reading : ℕ)
    (link : LinkNo) (round : ℕ) → IsRunOf run → Runs run clocks journal s
    → IsToStart run clocks s node reading → IsDueAt run s node.0 link round reading
    → Takes run clocks s link round (Some reading)
due_takes run clocks journal s node reading link round rules runs waits due =
    let l = due.the_link in
    let here : link_at run.design link.0 ≡ l = link_is run link.0 l due.is_link in
    let to : (link_at run.design link.0).target.0 ≡ node.0 = ap (λ (m : Link). m.target.0) here ∙ due.to_node in
    let same : node ≡ (link_at run.design link.0).target = ap (λ (k : ℕ). record { 0 = k }) (sym to) in
    record {
      within = slice_get_within run.design.links link.0 l due.is_link;
      does =
          subst (λ (j : NodeNo). Does run clocks s j (Some reading) (action.Start (node_at s j.0).count))
          same waits.does;
      waits = subst (λ (j : NodeNo). is_waiting (node_at s j.0).phase ≡ true) same waits.waits;
      copy = due.copy;
      is_copy = due_is_oldest (delay_of run.delays link.0) (view run s journal link.0 l) due.place round due.copy
          (links_timed run clocks journal s link.0 l rules runs due.is_link) due.is_copy due.of_round;
      due = due.due;
    }

pub message_keeps : {X : Type 0} (f : ℕ → Phase → Bool → X) (n : NodeState) (port : ℕ) (tuple : List PortValue)
    (a : Arrived)
    → f (with_message n port tuple a).count (with_message n port tuple a).phase (with_message n port tuple a).sent
    ≡ f n.count n.phase n.sent
message_keeps f n port tuple Kept = refl
message_keeps f n port tuple Ignored = refl
message_keeps f n port tuple Early = refl

-- a clock shows the same reading if no target is reached
shows_still : (run : Run) (clocks : Clocks) (s t : BusState) (node at goal now : ℕ) → now ≡ goal
    → ((other later : ℕ) → other < length run.design.components → target_of run t other ≡ Some later
    → (n : ℕ) × (target_of run s other ≡ Some n) × (n ≤ later))
    → Shows run clocks s node goal at → Shows run clocks t node now at
shows_still run Meet s t node at goal now same rises shows = (
  shows.0 ∙ sym same,
  (λ other least within is. let old = rises other least within is in
      let most = shows.1 other old.0 within old.1 in let up = old.2 in omega arith),
)
shows_still run (Lists clocks) s t node at goal now same rises shows = (shows.0, (let most = shows.1 in omega arith))

-- a node still waits for the same inputs if no source has sent fewer rounds and every ended list stays ended
waits_still : (run : Run) (clocks : Clocks) (s t : BusState) (node : ℕ)
    → ((lists : List ClockState) (k : ℕ) → clocks ≡ Lists lists → HasEnded run lists s k → HasEnded run lists t k)
    → (node_at t node).count ≡ (node_at s node).count
    → ((k : ℕ) → sent_rounds (node_at t k) ≡ sent_rounds (node_at s k)) → IsAwaited run clocks s node
    → IsAwaited run clocks t node
waits_still run Meet s t node ended count sent awaited = awaited
waits_still run (Lists lists) s t node ended count sent awaited =
    λ number link is to. elim (awaited number link is to) [
      | inl enough ↦ inl (let there = sent link.source.0 in omega arith)
      | inr over ↦ inr (ended lists link.source.0 refl over)
    ]

pub due_arrives : DueArrives
due_arrives run clocks journal s rules runs t node reading link round waits due step =
    let e : BusEvent = Arrive link round (Some reading) in
    let takes = due_takes run clocks journal s node reading link round rules runs waits due in
    let l = link_at run.design link.0 in
    let n = node_at s l.target.0 in
    let tuple = arriving round (flight_at s link.0) in
    let m = received n l.in_port round tuple in
    let how = arrived n l.in_port round in
    let count : (node_at t node.0).count ≡ (node_at s node.0).count =
    ap (λ u. (node_at u node.0).count) step.state
    ∙ keeps_at (λ (k : NodeState). k.count) s l.target.0 node.0 m
    (message_keeps (λ x p b. x) n l.in_port tuple how) in
    let phase : (node_at t node.0).phase ≡ (node_at s node.0).phase =
    ap (λ u. (node_at u node.0).phase) step.state
    ∙ keeps_at (λ (k : NodeState). k.phase) s l.target.0 node.0 m
    (message_keeps (λ x p b. p) n l.in_port tuple how) in
    let plan = plan_of run.design node.0 in
    let still : is_waiting (node_at t node.0).phase ≡ true = ap is_waiting phase ∙ waits.waits in
    let is_waiting' : (node_at t node.0).phase ≡ Waiting = is_waiting_phase (node_at t node.0).phase still in
    let d = waits.does in (
      takes,
      record {
        does = record {
          within = d.within;
          next = ap (next_in plan (node_at t node.0)) is_waiting';
          at = d.at;
          reading_is = d.reading_is;
          shows =
              shows_still run clocks s t node.0 d.at (target plan (action.Start (node_at s node.0).count))
              (target plan (action.Start (node_at t node.0).count)) (ap (λ k. target plan (action.Start k)) count)
              (λ other later within is.
              event_aims run clocks s e other rules (runs_agree run clocks journal s rules runs) takes step.allowed
              (λ j below. follows_in run clocks journal s j rules runs below) later
              (ap (λ u. target_of run u other) (sym step.state) ∙ is)) d.shows;
        };
        waits = still;
      },
      waits_still run clocks s t node.0
          (λ lists k are ended. stays_ended run lists s t e k ended
          (subst (λ (z : Clocks). Takes run z s link round (Some reading)) are takes) step) count
          (λ k. ap (λ u. sent_rounds (node_at u k)) step.state
          ∙ keeps_at sent_rounds s l.target.0 k m
          (message_keeps (λ x p b. cond b x (x - 1)) n l.in_port tuple how)),
    )
