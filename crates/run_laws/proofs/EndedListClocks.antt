-- If a list has no reading for its node's next target, no event of a run belongs to that node.
use Rattle.std.proofs.Common.{◌≡◌, ◌≢◌, ℕ, List, [], slice_get, Option, Some, None, refl, sym, ap, ◌∙◌, subst}
use Rattle.std.proofs.lemmas.Option.{same_Some}
use Rattle.pals_base.specs.declared.basic_types.NodeNo.{NodeNo}
use Rattle.pals_base.specs.ClockPicks.{remaining_from}
use Rattle.pals_clock.specs.ClockStates.{ClockState}
use Rattle.pals_model.specs.ComponentInputs.{values_at}
use Rattle.pals_runs.specs.declared.phase.Phase.{Phase}
use Rattle.pals_runs.specs.declared.phase.Phase.TheVariants.{Waiting, Running, Between, Holding, Done}
use Rattle.bus_machine.specs.Plans.{plan_of, link_at}
use Rattle.bus_machine.specs.Nodes.{NodeState}
use Rattle.bus_machine.specs.NodeEvents.{started, stepped, finished, sent_from, next_step, running_step, received}
use Rattle.bus_machine.specs.LinkEvents.{arriving}
use Rattle.bus_machine.specs.BusStates.{BusState, node_at, flight_at, with_node}
use Rattle.bus_machine.specs.RunParameters.{Run}
use Rattle.bus_machine.specs.MissedMessages.{missing_link}
use Rattle.bus_machine.specs.Machine.{BusEvent, Start, Step, Finish, Send, Arrive, Drop, Repeat, IsStep, after}
use Rattle.bus_machine.specs.Machine.{after_start, on_step}
use Rattle.bus_machine.specs.declared.node_action.NodeAction.{NodeAction}
use Rattle.bus_machine.specs.ActionsAndTargets.{target, next_in}
use Rattle.bus_machine.proofs.StateChangeAgreement.{node_stays}
use Rattle.run_laws.specs.NodeActions.{upcoming}
use Rattle.pals_clock.specs.declared.clock.Clocks.TheVariants.{Lists}
use Rattle.run_laws.specs.Runs.{clock_at, HasEnded, Does, KeepsTo}
use Rattle.run_laws.proofs.TargetPicks.{stands}

-- it does nothing more
does_not : (run : Run) (clocks : List ClockState) (s : BusState) (node : NodeNo) (reading : Option ℕ)
    (action : NodeAction) → HasEnded run clocks s node.0 → Does run (Lists clocks) s node reading action → ⊥
does_not run clocks s node reading action ended d =
    let plan = plan_of run.design node.0 in
    let left = (clock_at clocks node.0).left in
    let same : action ≡ ended.0 = same_Some action ended.0 (sym d.next ∙ ended.1) in
    let here : remaining_from left (target plan action) ≡ left =
    stands left (target plan action) d.at d.shows.0 d.shows.1 in
    let none : left ≡ [] = sym here ∙ ap (λ a. remaining_from left (target plan a)) same ∙ ended.2 in
    let both : None ≡ Some d.at = ap (λ l. slice_get l 0) (sym none) ∙ d.shows.0 in
    absurd (cc)

-- nor does a step of it run
runs_not : (run : Run) (clocks : List ClockState) (s : BusState) (k step : ℕ) → HasEnded run clocks s k
    → (node_at s k).phase ≡ Running step → ⊥
runs_not run clocks s k step ended is =
    let both : None ≡ Some ended.0 = sym (ap (next_in (plan_of run.design k) (node_at s k)) is) ∙ ended.1 in
    absurd (cc)

other_than : (run : Run) (clocks : List ClockState) (s : BusState) (node : NodeNo) (reading : Option ℕ)
    (action : NodeAction) (k : ℕ) → HasEnded run clocks s k → Does run (Lists clocks) s node reading action → k ≢ node.0
other_than run clocks s node reading action k ended d =
    λ same. does_not run clocks s node reading action (subst (HasEnded run clocks s) same ended) d

start_stays : (run : Run) (s : BusState) (node : NodeNo) (reading m : Option ℕ) (k : ℕ) → k ≢ node.0
    → node_at (after_start run s node reading m) k ≡ node_at s k
start_stays run s node reading (Some link) k other = refl
start_stays run s node reading None k other =
    node_stays s node.0 k (started (plan_of run.design node.0) (values_at run.env (node_at s node.0).count)
    (node_at s node.0)) other

step_stays : (step : Option ℕ) (s : BusState) (j k : ℕ) (m : ℕ → NodeState) → k ≢ j
    → node_at (on_step step s (λ i. with_node s j (m i))) k ≡ node_at s k
step_stays None s j k m other = refl
step_stays (Some i) s j k m other = node_stays s j k (m i) other

finish_by : (run : Run) (clocks : List ClockState) (s : BusState) (j k : ℕ) (p : Phase) (m : ℕ → NodeState)
    → HasEnded run clocks s k → (node_at s j).phase ≡ p
    → node_at (on_step (running_step p) s (λ i. with_node s j (m i))) k ≡ node_at s k
finish_by run clocks s j k Waiting m ended is = refl
finish_by run clocks s j k (Running i) m ended is =
    node_stays s j k (m i) (λ same. runs_not run clocks s k i ended (ap (λ x. (node_at s x).phase) same ∙ is))
finish_by run clocks s j k (Between i) m ended is = refl
finish_by run clocks s j k Holding m ended is = refl
finish_by run clocks s j k Done m ended is = refl

event_stays : (run : Run) (clocks : List ClockState) (s : BusState) (e : BusEvent) (k : ℕ) → HasEnded run clocks s k
    → KeepsTo run (Lists clocks) s e → node_at (after run s e) k ≡ node_at s k
event_stays run clocks s (Start node reading) k ended keeps =
    start_stays run s node reading (missing_link run s node.0) k
    (other_than run clocks s node reading _ k ended keeps.does)
event_stays run clocks s (Step node reading) k ended keeps =
    step_stays (next_step (node_at s node.0).phase) s node.0 k (λ i. stepped i (node_at s node.0))
    (other_than run clocks s node reading _ k ended keeps.2)
event_stays run clocks s (Finish node) k ended keeps =
    finish_by run clocks s node.0 k (node_at s node.0).phase
    (λ i. finished (plan_of run.design node.0) run.rounds i (node_at s node.0)) ended refl
event_stays run clocks s (Send node reading) k ended keeps =
    node_stays s node.0 k (sent_from run.rounds (node_at s node.0))
    (other_than run clocks s node reading _ k ended keeps.1)
event_stays run clocks s (Arrive link round reading) k ended keeps =
    let l = link_at run.design link.0 in
    node_stays s l.target.0 k (received (node_at s l.target.0) l.in_port round (arriving round (flight_at s link.0)))
    (other_than run clocks s l.target reading _ k ended keeps.does)
event_stays run clocks s (Drop link round) k ended keeps = absurd keeps
event_stays run clocks s (Repeat link round) k ended keeps = absurd keeps

-- so it stays at its list's end
pub stays_ended : (run : Run) (clocks : List ClockState) (s t : BusState) (e : BusEvent) (k : ℕ)
    → HasEnded run clocks s k → KeepsTo run (Lists clocks) s e → IsStep run s e t → HasEnded run clocks t k
stays_ended run clocks s t e k ended keeps step =
    let same : node_at t k ≡ node_at s k = ap (λ u. node_at u k) step.state
    ∙ event_stays run clocks s e k ended keeps in
    (ended.0, ap (upcoming (plan_of run.design k)) same ∙ ended.1, ended.2)

-- and waits for the same action
pub waits_for : (run : Run) (clocks : List ClockState) (s t : BusState) (e : BusEvent) (k : ℕ)
    (ended : HasEnded run clocks s k) (keeps : KeepsTo run (Lists clocks) s e) (step : IsStep run s e t)
    → (stays_ended run clocks s t e k ended keeps step).0 ≡ ended.0
unfolding stays_ended
waits_for run clocks s t e k ended keeps step = refl
