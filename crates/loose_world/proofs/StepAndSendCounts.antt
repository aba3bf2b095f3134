-- The law of step counts: how each step of the machine changes the counts of each node.
use Rattle.std.proofs.Common.{◌≡◌, ℕ, ◌+◌, ◌-◌, ◌*◌, ◌<◌, ◌≤◌, nat_eq, Bool, true, false, List, length, Option, Some}
use Rattle.std.proofs.Common.{None, refl, sym, ap, ap₂, ◌∙◌, subst, arith, length-append}
use Rattle.std.specs.Prelude.{nat_lt, is_some, if◌then◌else◌}
use Rattle.std.proofs.lemmas.Bool.{ltb-false, false≢true}
use Rattle.std.proofs.lemmas.Option.{slice_get_within}
use Rattle.bus_machine.proofs.NodeReplacement.{grows_at, stays_at}
use Rattle.bus_machine.proofs.SentRounds.{sent_at_start, sent_behind}
use Rattle.list_lemmas.proofs.Numbers.{add_zero_from}
use Rattle.pals_base.specs.declared.basic_types.NodeNo.{NodeNo}
use Rattle.pals_base.specs.declared.basic_types.LinkNo.{LinkNo}
use Rattle.pals_base.specs.declared.basic_types.PortValue.{PortValue}
use Rattle.pals_model.specs.declared.part.Part.{Part}
use Rattle.pals_model.specs.ComponentInputs.{values_at}
use Rattle.pals_model.specs.PortKindsAndRates.{rate_of, rate_in}
use Rattle.pals_runs.specs.declared.phase.Phase.{Phase}
use Rattle.pals_runs.specs.declared.phase.Phase.TheVariants.{Waiting, Running, Between, Holding, Done}
use Rattle.pals_runs.specs.declared.journal.Arrived.{Arrived}
use Rattle.pals_runs.specs.declared.journal.Arrived.TheVariants.{Kept, Ignored, Early}
use Rattle.pals_runs.specs.declared.events_and_faults.Event.TheVariants as event
use Rattle.bus_machine.specs.declared.plan.Plan.{Plan}
use Rattle.bus_machine.specs.Plans.{component_at, plan_of, link_at}
use Rattle.bus_machine.specs.Nodes.{NodeState, at_rest, sent_rounds}
use Rattle.bus_machine.specs.NodeEvents.{is_waiting, started, next_step, stepped, running_step, finished, may_send}
use Rattle.bus_machine.specs.NodeEvents.{sent_from, with_message, arrived, received, after_send as phase_after_send}
use Rattle.bus_machine.specs.LinkEvents.{arriving}
use Rattle.bus_machine.specs.BusStates.{BusState, node_at, flight_at, with_node}
use Rattle.bus_machine.specs.RunParameters.{Run}
use Rattle.bus_machine.specs.MissedMessages.{missing_link}
use Rattle.bus_machine.specs.Machine.{BusEvent, Start, Step, Finish, Send, Arrive, Drop, Repeat, IsStep, after}
use Rattle.bus_machine.specs.Machine.{after_start, after_send, after_arrive, on_step, is_allowed}
use Rattle.bus_machine.specs.Agreement.{PhaseAgrees, Agrees}
use Rattle.bus_machine.specs.proof.AgreementLaws.{IsRunOf}
use Rattle.bus_machine.proofs.NodeEventLocalAgreement.{finish_keeps, MaySend}
use Rattle.bus_machine.proofs.StateChangeAgreement.{is_component}
use Rattle.bus_machine.proofs.NodeEventBusAgreement.{is_waiting_phase, sender_before}
use Rattle.loose_world.specs.proof.StepAndSendCounts.{steps_in_hand, steps_finished, IsCounted}
use Rattle.loose_world.specs.proof.BusAfterEvents.{event_of}

-- ---- the two quantities
abbrev steps_of : Run → ℕ → NodeState → ℕ
steps_of run node n = steps_finished (rate_of run.design node) n

abbrev rounds_of : ℕ → NodeState → ℕ
rounds_of node n = sent_rounds n

-- an event that leaves both at a node leaves both at each
stay : (run : Run) (s : BusState) (node k : ℕ) (n : NodeState)
    → steps_of run node n ≡ steps_of run node (node_at s node)
    → sent_rounds n ≡ sent_rounds (node_at s node)
    → (steps_of run k (node_at (with_node s node n) k) ≡ steps_of run k (node_at s k))
    × (sent_rounds (node_at (with_node s node n) k) ≡ sent_rounds (node_at s k))
stay run s node k n steps sends = (stays_at (steps_of run) s node k n steps, stays_at rounds_of s node k n sends)

-- ---- Start
counts_start : (run : Run) (s : BusState) (node : NodeNo) (reading m : Option ℕ) (k : ℕ) → Agrees run s
    → is_waiting (node_at s node.0).phase ≡ true
    → IsCounted run s (event.Start node) (after_start run s node reading m) k
counts_start run s node reading (Some link) k agree waits =
    record { steps = add_zero_from _ _ refl; sends = add_zero_from _ _ refl }
counts_start run s node reading None k agree waits =
    let n = node_at s node.0 in
    let c = component_at run.design node.0 in
    let is_c =
    is_component run s node.0 agree
    (λ gone. false≢true (sym (ap (λ (k : NodeState). is_waiting k.phase) gone) ∙ waits)) in
    let phase : n.phase ≡ Waiting = is_waiting_phase n.phase waits in
    let rest = subst (PhaseAgrees run node.0 c n) phase (agree.nodes node.0 c is_c).phase in
    let m = started (plan_of run.design node.0) (values_at run.env n.count) n in
    let both =
    stay run s node.0 k m (ap (λ p. rate_of run.design node.0 * length n.parts + steps_in_hand p) (sym phase))
    (sent_at_start n.sent n.count rest.0.sent) in
    record { steps = add_zero_from _ _ both.0; sends = add_zero_from _ _ both.1 }

-- ---- Step
counts_step : (run : Run) (s : BusState) (node : NodeNo) (p : Phase) (k : ℕ) → (node_at s node.0).phase ≡ p
    → IsCounted run s (event.Step node)
    (on_step (next_step p) s (λ step. with_node s node.0 (stepped step (node_at s node.0)))) k
counts_step run s node Waiting k is = record { steps = add_zero_from _ _ refl; sends = add_zero_from _ _ refl }
counts_step run s node (Running step) k is = record { steps = add_zero_from _ _ refl; sends = add_zero_from _ _ refl }
counts_step run s node (Between steps) k is =
    let n = node_at s node.0 in
    let both =
    stay run s node.0 k (stepped steps n)
    (ap (λ p. rate_of run.design node.0 * length n.parts + steps_in_hand p) (sym is)) refl in
    record { steps = add_zero_from _ _ both.0; sends = add_zero_from _ _ both.1 }
counts_step run s node Holding k is = record { steps = add_zero_from _ _ refl; sends = add_zero_from _ _ refl }
counts_step run s node Done k is = record { steps = add_zero_from _ _ refl; sends = add_zero_from _ _ refl }

-- ---- Finish
no_hand : (sent : Bool) (b : Bool) → steps_in_hand (if sent then at_rest b else Holding) ≡ 0
no_hand true true = refl
no_hand true false = refl
no_hand false b = refl

-- one step more: of the round in hand, or the last of a round
one_step : (rate step : ℕ) (n x y : NodeState) (b : Bool) → nat_lt (step + 1) rate ≡ b → x.parts ≡ n.parts
    → x.phase ≡ Between (step + 1)
    → length y.parts ≡ length n.parts + 1 → steps_in_hand y.phase ≡ 0 → step < rate → n.phase ≡ Running step
    → steps_finished rate (if b then x else y) ≡ steps_finished rate n + 1
one_step rate step n x y true is parts phase one none within runs =
    let old : steps_in_hand n.phase ≡ step = ap steps_in_hand runs in
    let new : steps_in_hand x.phase ≡ step + 1 = ap steps_in_hand phase in
    let same : rate * length x.parts ≡ rate * length n.parts = ap (λ (ps : List Part). rate * length ps) parts in
    omega arith
one_step rate step n x y false is parts phase one none within runs =
    let old : steps_in_hand n.phase ≡ step = ap steps_in_hand runs in
    let last : rate ≤ step + 1 = ltb-false (step + 1) rate is in
    let more : rate * length y.parts ≡ rate * length n.parts + rate = ap (λ m. rate * m) one ∙ omega arith in
    omega arith

finish_counts : (plan : Plan) (rounds step : ℕ) (n : NodeState) → step < plan.rate → n.phase ≡ Running step
    → steps_finished plan.rate (finished plan rounds step n) ≡ steps_finished plan.rate n + 1
finish_counts plan rounds step n within runs =
    one_step plan.rate step n _ _ (nat_lt (step + 1) plan.rate) refl refl refl
    (length-append n.parts _) (no_hand n.sent (nat_eq n.count rounds)) within runs

counts_finish : (run : Run) (s : BusState) (node : NodeNo) (p : Phase) (k : ℕ) → Agrees run s
    → (node_at s node.0).phase ≡ p
    → is_some (running_step p) ≡ true
    → IsCounted run s (event.Finish node)
    (on_step (running_step p) s
    (λ step. with_node s node.0 (finished (plan_of run.design node.0) run.rounds step (node_at s node.0)))) k
counts_finish run s node Waiting k agree is may = absurd (false≢true may)
counts_finish run s node (Running step) k agree is may =
    let n = node_at s node.0 in
    let c = component_at run.design node.0 in
    let plan = plan_of run.design node.0 in
    let is_c =
    is_component run s node.0 agree
    (λ gone. let both : Running step ≡ Done = sym is ∙ ap (λ (k : NodeState). k.phase) gone in absurd (cc)) in
    let count = agree.node_count in
    let below : node.0 < length s.nodes = let here : node.0 < length run.design.components =
    slice_get_within run.design.components node.0 c is_c in omega arith in
    let round = subst (PhaseAgrees run node.0 c n) is (agree.nodes node.0 c is_c).phase in
    let rate : rate_of run.design node.0 ≡ c.rate = ap rate_in is_c in
    let m = finished plan run.rounds step n in
    let keeps = finish_keeps plan run.rounds step n in
    let sends : sent_rounds m ≡ sent_rounds n = ap₂ (λ b j. if b then j else (j - 1)) keeps.2 keeps.0 in
    let steps : steps_finished (rate_of run.design node.0) m ≡ steps_finished (rate_of run.design node.0) n + 1 =
    subst (λ r. steps_finished r m ≡ steps_finished r n + 1) (sym rate)
    (finish_counts plan run.rounds step n round.within is) in
    record {
      steps = grows_at (steps_of run) s node.0 k 1 m below steps;
      sends = add_zero_from _ _ (stays_at rounds_of s node.0 k m sends);
    }
counts_finish run s node (Between steps) k agree is may = absurd (false≢true may)
counts_finish run s node Holding k agree is may = absurd (false≢true may)
counts_finish run s node Done k agree is may = absurd (false≢true may)

-- ---- Send
send_keeps_hand : (count rounds : ℕ) (p : Phase) → steps_in_hand (phase_after_send count rounds p) ≡ steps_in_hand p
send_keeps_hand count rounds Waiting = refl
send_keeps_hand count rounds (Running step) = refl
send_keeps_hand count rounds (Between steps) = refl
send_keeps_hand count rounds Holding = no_hand true (nat_eq count rounds)
send_keeps_hand count rounds Done = refl

pub sender_is_there : (run : Run) (s : BusState) (node : NodeNo) → Agrees run s
    → may_send (plan_of run.design node.0) (node_at s node.0) ≡ true → node.0 < length run.design.components
sender_is_there run s node agree may =
    slice_get_within run.design.components node.0 (component_at run.design node.0)
    (is_component run s node.0 agree (λ gone. false≢true (sym (ap (may_send (plan_of run.design node.0)) gone) ∙ may)))

counts_send : (run : Run) (s : BusState) (node : NodeNo) (reading : Option ℕ) (k : ℕ) → Agrees run s
    → may_send (plan_of run.design node.0) (node_at s node.0) ≡ true
    → IsCounted run s (event.Send node) (after_send run s node reading) k
counts_send run s node reading k agree may =
    let n = node_at s node.0 in
    let m = sent_from run.rounds n in
    let before : MaySend run node.0 (component_at run.design node.0) n = sender_before run s node agree may in
    let there = sender_is_there run s node agree may in
    let count = agree.node_count in
    let below : node.0 < length s.nodes = omega arith in
    let hand : steps_of run node.0 m ≡ steps_of run node.0 n =
    ap (λ h. rate_of run.design node.0 * length n.parts + h) (send_keeps_hand n.count run.rounds n.phase) in
    record {
      steps = add_zero_from _ _ (stays_at (steps_of run) s node.0 k m hand);
      sends =
          grows_at rounds_of s node.0 k 1 m below
          (sent_behind n.sent n.count before.under_way.round before.unsent before.under_way.count);
    }

-- ---- Arrive
arrival_keeps : (run : Run) (node : ℕ) (n : NodeState) (port : ℕ) (tuple : List PortValue) (a : Arrived)
    → (steps_of run node (with_message n port tuple a) ≡ steps_of run node n)
    × (sent_rounds (with_message n port tuple a) ≡ sent_rounds n)
arrival_keeps run node n port tuple Kept = (refl, refl)
arrival_keeps run node n port tuple Ignored = (refl, refl)
arrival_keeps run node n port tuple Early = (refl, refl)

counts_arrive : (run : Run) (s : BusState) (link : LinkNo) (round : ℕ) (reading : Option ℕ) (k : ℕ)
    → IsCounted run s (event.Arrive link round) (after_arrive run s link round reading) k
counts_arrive run s link round reading k =
    let l = link_at run.design link.0 in
    let n = node_at s l.target.0 in
    let tuple = arriving round (flight_at s link.0) in
    let keeps = arrival_keeps run l.target.0 n l.in_port tuple (arrived n l.in_port round) in
    let both = stay run s l.target.0 k (received n l.in_port round tuple) keeps.0 keeps.1 in
    record { steps = add_zero_from _ _ both.0; sends = add_zero_from _ _ both.1 }

-- ---- each event
counts_after : (run : Run) (s : BusState) (e : BusEvent) (k : ℕ) → Agrees run s → is_allowed run s e ≡ true
    → IsCounted run s (event_of e) (after run s e) k
counts_after run s (Start node reading) k agree may =
    counts_start run s node reading (missing_link run s node.0) k agree may
counts_after run s (Step node reading) k agree may = counts_step run s node (node_at s node.0).phase k refl
counts_after run s (Finish node) k agree may = counts_finish run s node (node_at s node.0).phase k agree refl may
counts_after run s (Send node reading) k agree may = counts_send run s node reading k agree may
counts_after run s (Arrive link round reading) k agree may = counts_arrive run s link round reading k
counts_after run s (Drop link round) k agree may =
    record { steps = add_zero_from _ _ refl; sends = add_zero_from _ _ refl }
counts_after run s (Repeat link round) k agree may =
    record { steps = add_zero_from _ _ refl; sends = add_zero_from _ _ refl }

pub step_counts : (run : Run) (s t : BusState) (e : BusEvent) (node : ℕ) → IsRunOf run → Agrees run s → IsStep run s e t
    → IsCounted run s (event_of e) t node
step_counts run s t e node rules agree step =
    subst (λ u. IsCounted run s (event_of e) u node) (sym step.state) (counts_after run s e node agree step.allowed)
