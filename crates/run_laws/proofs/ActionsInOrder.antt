-- Each node does its actions in order, whatever the clocks.
use Rattle.std.proofs.Common.{◌≡◌, inl, inr, ℕ, ◌+◌, ◌<◌, false, List, length, Option, Some, None, refl, sym, subst}
use Rattle.std.proofs.lemmas.Bool.{cases_eq}
use Rattle.std.proofs.lemmas.Grind.{get_or-set_at}
use Rattle.pals_base.specs.declared.basic_types.NodeNo.{NodeNo}
use Rattle.pals_model.specs.ComponentInputs.{values_at}
use Rattle.pals_runs.specs.declared.phase.Phase.{Phase}
use Rattle.pals_runs.specs.declared.phase.Phase.TheVariants.{Waiting, Running, Between, Holding, Done}
use Rattle.pals_runs.specs.declared.journal.JournalEntry.{JournalEntry}
use Rattle.bus_machine.specs.Plans.{plan_of, component_at, link_at}
use Rattle.bus_machine.specs.Nodes.{NodeState}
use Rattle.bus_machine.specs.NodeEvents.{started, stepped, finished, sent_from, next_step, running_step, received}
use Rattle.bus_machine.specs.NodeEvents.{arrived}
use Rattle.bus_machine.specs.LinkEvents.{arriving}
use Rattle.bus_machine.specs.BusStates.{BusState, node_at, no_node, flight_at, with_node}
use Rattle.bus_machine.specs.RunParameters.{Run}
use Rattle.bus_machine.specs.MissedMessages.{missing_link}
use Rattle.bus_machine.specs.Machine.{BusEvent, Start, Step, Finish, Send, Arrive, Drop, Repeat, after, after_start}
use Rattle.bus_machine.specs.Machine.{on_step}
use Rattle.bus_machine.specs.Agreement.{PhaseAgrees, Agrees}
use Rattle.bus_machine.specs.proof.AgreementLaws.{IsRunOf}
use Rattle.bus_machine.specs.declared.node_action.NodeAction.TheVariants as action
use Rattle.bus_machine.proofs.StateChangeAgreement.{node_stays}
use Rattle.bus_machine.proofs.MessageAndRunAgreement.{node_opens}
use Rattle.run_laws.specs.NodeActions.{Follows}
use Rattle.pals_clock.specs.declared.clock.Clocks.{Clocks}
use Rattle.pals_clock.specs.declared.clock.Clocks.TheVariants.{Lists}
use Rattle.run_laws.specs.Runs.{Does, KeepsTo, Runs, opens, picks_for, goes_on}
use Rattle.run_laws.proofs.ProgressByEvent.{next_is, starts_follow, steps_follow, sends_follow, finish_follows}
use Rattle.run_laws.proofs.ProgressByEvent.{received_follows}
use Rattle.run_laws.proofs.NodePicksAndRunReplay.{runs_agree, plan_rules, held_of, node_agrees, below_nodes}

abbrev pub HasDone : Run → ℕ → NodeState → Type 0
HasDone run k n = (done : ℕ) × Follows (plan_of run.design k) done n

one_node : (run : Run) (s : BusState) (j k : ℕ) (m : NodeState) → j < length s.nodes → HasDone run k (node_at s k)
    → (j ≡ k → HasDone run k m) → HasDone run k (node_at (with_node s j m) k)
one_node run s j k m within before own = elim (cases_eq k j) [
  | inl same ↦ subst (HasDone run k) (sym (get_or-set_at s.nodes j k m no_node same within)) (own (sym same))
  | inr other ↦ subst (HasDone run k) (sym (node_stays s j k m other)) before
]

-- where the node is this one
here : (run : Run) (s : BusState) (j k : ℕ) (m : NodeState) → HasDone run k (node_at s k)
    → (HasDone run j (node_at s j) → HasDone run j m) → j ≡ k → HasDone run k m
here run s j k m before go same =
    subst (λ i. HasDone run i m) same (go (subst (λ i. HasDone run i (node_at s i)) (sym same) before))

held_in : (run : Run) (s : BusState) (j : ℕ) → Agrees run s → j < length run.design.components
    → (node_at s j).phase ≡ Holding → (node_at s j).sent ≡ false
held_in run s j agree within =
    held_of run j (component_at run.design j) (node_at s j) (node_agrees run s j agree within)

start_follows : (run : Run) (clocks : Clocks) (s : BusState) (node : NodeNo) (reading m : Option ℕ) (k : ℕ)
    → IsRunOf run → Agrees run s → Does run clocks s node reading (action.Start (node_at s node.0).count)
    → HasDone run k (node_at s k) → HasDone run k (node_at (after_start run s node reading m) k)
start_follows run clocks s node reading (Some link) k rules agree does before = before
start_follows run clocks s node reading None k rules agree does before =
    let n = node_at s node.0 in
    let plan = plan_of run.design node.0 in
    let m = started plan (values_at run.env n.count) n in
    one_node run s node.0 k m (below_nodes run s node.0 agree does.within) before
    (here run s node.0 k m before (λ own. (
      own.0 + 1,
      starts_follow plan own.0 n (values_at run.env n.count)
          (next_is plan own.0 n (action.Start n.count) (plan_rules run node.0 rules does.within)
          (held_in run s node.0 agree does.within) own.1 does.next),
    )))

step_follows : (run : Run) (clocks : Clocks) (s : BusState) (node : NodeNo) (reading : Option ℕ) (round step : ℕ)
    (p : Phase) (k : ℕ) → IsRunOf run → Agrees run s → Does run clocks s node reading (action.Step round step)
    → (node_at s node.0).phase ≡ p
    → HasDone run k (node_at s k)
    → HasDone run k (node_at (on_step (next_step p) s (λ i. with_node s node.0 (stepped i (node_at s node.0)))) k)
step_follows run clocks s node reading round step Waiting k rules agree does is before = before
step_follows run clocks s node reading round step (Running i) k rules agree does is before = before
step_follows run clocks s node reading round step (Between i) k rules agree does is before =
    let n = node_at s node.0 in
    one_node run s node.0 k (stepped i n) (below_nodes run s node.0 agree does.within) before
    (here run s node.0 k (stepped i n) before
    (λ own. (
      own.0 + 1,
      steps_follow (plan_of run.design node.0) own.0 n i round step
          (plan_rules run node.0 rules does.within) own.1 is does.next,
    )))
step_follows run clocks s node reading round step Holding k rules agree does is before = before
step_follows run clocks s node reading round step Done k rules agree does is before = before

finish_follows_on : (run : Run) (s : BusState) (node : NodeNo) (p : Phase) (k : ℕ) → IsRunOf run → Agrees run s
    → node.0 < length run.design.components → (node_at s node.0).phase ≡ p
    → HasDone run k (node_at s k)
    → HasDone run k (node_at
    (on_step (running_step p) s
    (λ i. with_node s node.0 (finished (plan_of run.design node.0) run.rounds i (node_at s node.0)))) k)
finish_follows_on run s node Waiting k rules agree within is before = before
finish_follows_on run s node (Running i) k rules agree within is before =
    let n = node_at s node.0 in
    let plan = plan_of run.design node.0 in
    let below =
    subst (PhaseAgrees run node.0 (component_at run.design node.0) n) is
    (node_agrees run s node.0 agree within).phase in
    one_node run s node.0 k (finished plan run.rounds i n) (below_nodes run s node.0 agree within) before
    (here run s node.0 k (finished plan run.rounds i n) before
    (λ own. (own.0, finish_follows plan run.rounds own.0 n i own.1 is below.within)))
finish_follows_on run s node (Between i) k rules agree within is before = before
finish_follows_on run s node Holding k rules agree within is before = before
finish_follows_on run s node Done k rules agree within is before = before

event_follows : (run : Run) (clocks : Clocks) (s : BusState) (e : BusEvent) (k : ℕ) → IsRunOf run → Agrees run s
    → KeepsTo run clocks s e → HasDone run k (node_at s k) → HasDone run k (node_at (after run s e) k)
event_follows run clocks s (Start node reading) k rules agree keeps before =
    start_follows run clocks s node reading (missing_link run s node.0) k rules agree keeps.does before
event_follows run clocks s (Step node reading) k rules agree keeps before =
    step_follows run clocks s node reading keeps.0 keeps.1 (node_at s node.0).phase k rules agree keeps.2 refl before
event_follows run clocks s (Finish node) k rules agree keeps before =
    finish_follows_on run s node (node_at s node.0).phase k rules agree keeps refl before
event_follows run clocks s (Send node reading) k rules agree keeps before =
    let n = node_at s node.0 in
    let plan = plan_of run.design node.0 in
    let does = keeps.1 in
    one_node run s node.0 k (sent_from run.rounds n) (below_nodes run s node.0 agree does.within) before
    (here run s node.0 k (sent_from run.rounds n) before (λ own. (
      own.0 + 1,
      sends_follow plan run.rounds own.0 n keeps.0 (plan_rules run node.0 rules does.within)
          (held_in run s node.0 agree does.within) own.1 does.next,
    )))
event_follows run clocks s (Arrive link round reading) k rules agree keeps before =
    let l = link_at run.design link.0 in
    let n = node_at s l.target.0 in
    let m = received n l.in_port round (arriving round (flight_at s link.0)) in
    one_node run s l.target.0 k m (below_nodes run s l.target.0 agree keeps.does.within) before
    (here run s l.target.0 k m before
    (λ own. (
      own.0,
      received_follows (plan_of run.design l.target.0) own.0 n l.in_port
          (arriving round (flight_at s link.0)) (arrived n l.in_port round) own.1,
    )))
event_follows run clocks s (Drop link round) k rules agree keeps before = absurd keeps
event_follows run clocks s (Repeat link round) k rules agree keeps before = absurd keeps

pub follows_in : (run : Run) (clocks : Clocks) (journal : List JournalEntry) (s : BusState) (k : ℕ) → IsRunOf run
    → Runs run clocks journal s → k < length run.design.components → HasDone run k (node_at s k)
follows_in run clocks journal s k rules (opens clocks' begin) within =
    subst (HasDone run k) (sym (node_opens run k within))
    (0, inl (record { none_done = refl; count = refl; phase = refl }))
follows_in run clocks journal s k rules (picks_for {clocks = before} j runs picks) within =
    follows_in run (Lists before) journal s k rules runs within
follows_in run clocks journal s k rules (goes_on {journal = before} {s = t} e runs keeps step) within =
    subst (λ u. HasDone run k (node_at u k)) (sym step.state)
    (event_follows run clocks t e k rules (runs_agree run clocks before t rules runs) keeps
    (follows_in run clocks before t k rules runs within))
