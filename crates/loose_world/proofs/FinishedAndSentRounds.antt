-- The law that rounds are counted: how many rounds a node has sent and finished after a list of events.
use Rattle.std.proofs.Common.{◌≡◌, inl, inr, ℕ, zero, suc, ◌+◌, ◌*◌, ◌/◌, ◌<◌, ◌≤◌, nat_eq, false, cond, List, [], ◌∷◌}
use Rattle.std.proofs.Common.{length, map, slice_get, Option, Some, None, refl, sym, ap, ap₂, ◌∙◌, subst, arith}
use Rattle.std.proofs.Common.{add-zero, zero-add, mul_comm}
use Rattle.std.specs.Prelude.{slice_index_or, count_by}
use Rattle.std.specs.Option.{option_map_or}
use Rattle.std.proofs.lemmas.List.Sums.{sum_by-cons, sum_by-append}
use Rattle.std.proofs.lemmas.Nat.{div-mul-add}
use Rattle.std.proofs.lemmas.Option.{slice_get-get_or}
use Rattle.list_lemmas.proofs.Numbers.{nat_eq-swapped}
use Rattle.pals_base.specs.UpwardNumbers.{upwards}
use Rattle.pals_model.specs.declared.design.Component.{Component}
use Rattle.pals_model.specs.declared.design.DesignParts.{DesignParts}
use Rattle.pals_model.specs.PortKindsAndRates.{rate_of, rate_in}
use Rattle.pals_model.specs.DesignRules.{IsComponent}
use Rattle.pals_model.proofs.FirstMatches.{at_element}
use Rattle.pals_runs.specs.declared.phase.Phase.{Phase}
use Rattle.pals_runs.specs.declared.phase.Phase.TheVariants.{Waiting, Running, Between, Holding, Done}
use Rattle.pals_runs.specs.declared.events_and_faults.Event.{Event}
use Rattle.pals_runs.specs.declared.events_and_faults.Event.TheVariants as event
use Rattle.bus_machine.specs.Plans.{component_at, plan_of, no_component}
use Rattle.bus_machine.specs.Nodes.{NodeState, opening_node, sent_rounds}
use Rattle.bus_machine.specs.BusStates.{opening, BusState, node_at, no_node}
use Rattle.bus_machine.specs.RunParameters.{Run}
use Rattle.bus_machine.specs.Machine.{BusEvent, IsStep}
use Rattle.bus_machine.specs.Agreement.{PhaseAgrees}
use Rattle.bus_machine.specs.proof.AgreementLaws.{IsRunOf}
use Rattle.bus_machine.specs.WorldTexts.{is_finish, sender, sends_of, finished_by}
use Rattle.pals_bus.specs.BusValues.{BusValue, Happens}
use Rattle.pals_bus.specs.proof.OpeningNodes.{opening_bus}
use Rattle.loose_world.specs.proof.StepAndSendCounts.{steps_in_hand, steps_finished, is_send, IsCounted}
use Rattle.loose_world.specs.LooseRuns.{InTurn}
use Rattle.loose_world.specs.proof.BusAfterEvents.{Undergoes, IsLeftBy, IsReplayed}
use Rattle.loose_world.specs.proof.EventSenders.{with_sender, senders}
use Rattle.loose_world.proofs.SentLinesPerEvent.{and_sender}
use Rattle.loose_world.proofs.StepAndSendCounts.{step_counts}
use Rattle.loose_world.proofs.BusAfterEvents.{stays_replayed, opens_replayed, events_replay}

-- ---- one event
event_counts : (run : Run) (s t : BusValue) (e : Event) (node : ℕ) → IsRunOf run → IsReplayed run s → Undergoes s e t
    → IsCounted run s.state e t.state node
event_counts run s t e node rules before (inl rests) =
    let none : IsCounted run s.state (event.Pass rests.time rests.readings) s.state node =
    record { steps = sym (add-zero _); sends = sym (add-zero _) } in
    subst (λ (b : BusValue). IsCounted run s.state e b.state node) (sym rests.same)
    (subst (λ (v : Event). IsCounted run s.state v s.state node) (sym rests.is_pass) none)
event_counts run s t e node rules before (inr makes) =
    let what : BusEvent = makes.what in
    let happens : Happens s what t = makes.happens in
    let step = subst (λ r. IsStep r s.state what t.state) before.run_is happens.step in
    subst (λ (v : Event). IsCounted run s.state v t.state node) makes.is_what
    (step_counts run s.state t.state what node rules before.agrees step)

-- ---- sends

-- one sender more
one_more : (node : ℕ) (o : Option ℕ) (later : List ℕ)
    → sends_of node (with_sender o later) ≡ cond (option_map_or (λ j. nat_eq j node) o false) 1 0 + sends_of node later
one_more node None later = sym (zero-add _)
one_more node (Some j) later =
    sum_by-cons (λ x. cond (nat_eq node x) 1 0) j later
    ∙ ap (λ b. cond b 1 0 + sends_of node later) (nat_eq-swapped node j)

-- ---- counts of all
joined : (a b c x y z : ℕ) → b ≡ a + x → c ≡ b + y → z ≡ x + y → c ≡ a + z
joined a b c x y z first rest both = omega arith

record AreCounted (run : Run) (s : BusState) (events : List Event) (t : BusState) (node : ℕ) : Type 0 where
  pub steps : steps_finished (rate_of run.design node) (node_at t node)
      ≡ steps_finished (rate_of run.design node) (node_at s node) + count_by (is_finish node) events
  pub sends : sent_rounds (node_at t node) ≡ sent_rounds (node_at s node) + sends_of node (senders events)

all_counted : (run : Run) (s t : BusValue) (events : List Event) (lines : List (List ℕ)) (node : ℕ) → IsRunOf run
    → IsReplayed run s
    → InTurn Undergoes s events t lines → AreCounted run s.state events t.state node
all_counted run s t [] lines node rules before turns =
    subst (λ (b : BusValue). AreCounted run s.state [] b.state node) (sym turns.0)
    (record { steps = sym (add-zero _); sends = sym (add-zero _) })
all_counted run s t (e ∷ events) lines node rules before turns =
    let next : BusValue = turns.0 in
    let first : IsCounted run s.state e next.state node = event_counts run s next e node rules before turns.2 in
    let behind = stays_replayed run s next e rules before turns.2 in
    let rest : AreCounted run next.state events t.state node =
    all_counted run next t events turns.1 node rules behind turns.3 in
    record {
      steps = joined _ _ _ _ _ _ first.steps rest.steps (sum_by-cons (λ x. cond (is_finish node x) 1 0) e events);
      sends = joined _ _ _ _ _ _ first.sends rest.sends (one_more node (sender e) (senders events));
    }

-- ---- the opening has counted nothing
opens_with : (design : DesignParts) (nodes : List ℕ) (node rate : ℕ)
    → let n = slice_index_or (map (λ j. opening_node (plan_of design j)) nodes) node no_node in
    (steps_finished rate n ≡ 0) × (sent_rounds n ≡ 0)
opens_with design [] node rate = (omega arith, refl)
opens_with design (j ∷ nodes) zero rate = (omega arith, refl)
opens_with design (j ∷ nodes) (suc node) rate = opens_with design nodes node rate

pub nothing_sent : (run : Run) (node : ℕ) → sent_rounds (node_at (opening run) node) ≡ 0
nothing_sent run node = (opens_with run.design (upwards 0 (length run.design.components)) node 0).1

counted_since_opening : (run : Run) (events : List Event) (t : BusValue) (lines : List (List ℕ)) (node : ℕ)
    → IsRunOf run
    → IsLeftBy run events t lines
    → (steps_finished (rate_of run.design node) (node_at t.state node) ≡ count_by (is_finish node) events)
    × (sent_rounds (node_at t.state node) ≡ sends_of node (senders events))
counted_since_opening run events t lines node rules left =
    let opened = opening_bus run left.programs false in
    let counts =
    all_counted run opened t events lines node rules (opens_replayed run left.programs rules) left.undergone in
    let none = opens_with run.design (upwards 0 (length run.design.components)) node (rate_of run.design node) in (
      counts.steps ∙ ap (λ k. k + count_by (is_finish node) events) none.0 ∙ zero-add _,
      counts.sends ∙ ap (λ k. k + sends_of node (senders events)) none.1 ∙ zero-add _,
    )

pub rounds_are_sent : (run : Run) (events : List Event) (t : BusValue) (lines : List (List ℕ)) → IsRunOf run
    → IsLeftBy run events t lines
    → (node : ℕ) → node < length run.design.components
    → sent_rounds (node_at t.state node) ≡ sends_of node (senders events)
rounds_are_sent run events t lines rules left node within = (counted_since_opening run events t lines node rules left).1

-- ---- sends after others
behind : (node : ℕ) (before : List ℕ) (o : Option ℕ)
    → sends_of node (and_sender before o) ≡ sends_of node before + sends_of node (with_sender o [])
behind node before None = sym (add-zero _)
behind node before (Some j) = sum_by-append (λ x. cond (nat_eq node x) 1 0) before (j ∷ [])

sends_more : (node : ℕ) (before : List ℕ) (e : Event)
    → sends_of node (and_sender before (sender e)) ≡ sends_of node before + cond (is_send node e) 1 0
sends_more node before e =
    behind node before (sender e)
    ∙ ap (λ k. sends_of node before + k) (one_more node (sender e) [] ∙ add-zero (cond (is_send node e) 1 0))

pub sent_more : (run : Run) (s t : BusValue) (e : Event) (before : List ℕ) → IsRunOf run → IsReplayed run s
    → ((node : ℕ) → node < length run.design.components → sent_rounds (node_at s.state node) ≡ sends_of node before)
    → Undergoes s e t
    → (node : ℕ) → node < length run.design.components
    → sent_rounds (node_at t.state node) ≡ sends_of node (and_sender before (sender e))
sent_more run s t e before rules replayed sent undergoes node within =
    let counted : IsCounted run s.state e t.state node = event_counts run s t e node rules replayed undergoes in
    counted.sends ∙ ap (λ k. k + cond (is_send node e) 1 0) (sent node within) ∙ sym (sends_more node before e)

-- ---- whole rounds
-- the steps of a round in hand are fewer than a round's
hand_is_less : (run : Run) (node : ℕ) (c : Component) (n : NodeState) (p : Phase) → 1 ≤ c.rate
    → PhaseAgrees run node c n p → steps_in_hand p < c.rate
hand_is_less run node c n Waiting rate agree = rate
hand_is_less run node c n (Running step) rate agree = agree.within
hand_is_less run node c n (Between steps) rate agree = agree.0.within
hand_is_less run node c n Holding rate agree = rate
hand_is_less run node c n Done rate agree = rate

pub rounds_are_finished : (run : Run) (events : List Event) (t : BusValue) (lines : List (List ℕ)) → IsRunOf run
    → IsLeftBy run events t lines
    → (node : ℕ) → node < length run.design.components
    → length (node_at t.state node).parts ≡ finished_by run.design events node
rounds_are_finished run events t lines rules left node within =
    let agree = (events_replay run events t lines rules left).agrees in
    let n = node_at t.state node in
    let c = component_at run.design node in
    let is_c : slice_get run.design.components node ≡ Some c =
    slice_get-get_or run.design.components node no_component within in
    let one : 1 ≤ c.rate = (at_element (IsComponent run.design.period) run.design.components node c
    rules.design.components.each is_c).rate.0 in
    let less : steps_in_hand n.phase < c.rate = hand_is_less run node c n n.phase one (agree.nodes node c is_c).phase in
    let rate : c.rate ≡ rate_of run.design node = sym (ap rate_in is_c) in
    let counted : c.rate * length n.parts + steps_in_hand n.phase ≡ count_by (is_finish node) events =
    subst (λ r. r * length n.parts + steps_in_hand n.phase ≡ count_by (is_finish node) events) (sym rate)
    (counted_since_opening run events t lines node rules left).0 in
    sym (div-mul-add (length n.parts) c.rate (steps_in_hand n.phase) less)
    ∙ ap (λ k. (k + steps_in_hand n.phase) / c.rate) (mul_comm (length n.parts) c.rate)
    ∙ ap₂ (λ k r. k / r) counted rate
