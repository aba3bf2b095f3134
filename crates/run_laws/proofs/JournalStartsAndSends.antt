-- The journal shows each start and each send of a node.
use Rattle.std.proofs.Common.{◌≡◌, inl, inr, ℕ, ◌+◌, ◌-◌, ◌<◌, ◌≤◌, nat_eq, Bool, true, false, cond, List, [], ◌∷◌}
use Rattle.std.proofs.Common.{◌++◌, length, Option, Some, None, refl, sym, ap, ap₂, ◌∙◌, subst, arith, length-append}
use Rattle.std.specs.Prelude.{if◌then◌else◌, slice_index_or}
use Rattle.std.proofs.lemmas.Bool.{false≢true, cases_lt}
use Rattle.std.proofs.lemmas.Grind.{flat_map-append}
use Rattle.std.proofs.lemmas.List.{get_or_past, length-map}
use Rattle.bus_machine.proofs.NodeReplacement.{grows_at, stays_at}
use Rattle.bus_machine.proofs.SentRounds.{sent_at_start, sent_behind}
use Rattle.list_lemmas.proofs.Numbers.{add_zero_from}
use Rattle.pals_base.specs.declared.basic_types.NodeNo.{NodeNo}
use Rattle.pals_base.specs.declared.basic_types.LinkNo.{LinkNo}
use Rattle.pals_base.specs.declared.basic_types.PortValue.{PortValue}
use Rattle.pals_base.specs.UpwardNumbers.{upwards}
use Rattle.pals_base.proofs.UpwardNumbers.{length-upwards}
use Rattle.pals_model.specs.ComponentInputs.{values_at}
use Rattle.pals_runs.specs.declared.phase.Phase.{Phase}
use Rattle.pals_runs.specs.declared.phase.Phase.TheVariants.{Waiting, Running, Between, Holding, Done}
use Rattle.pals_runs.specs.declared.journal.Arrived.{Arrived}
use Rattle.pals_runs.specs.declared.journal.Arrived.TheVariants.{Kept, Ignored, Early}
use Rattle.pals_runs.specs.declared.journal.Stop.{Stop}
use Rattle.pals_runs.specs.declared.journal.JournalEntry.{JournalEntry}
use Rattle.pals_runs.specs.declared.journal.JournalEntry.TheVariants as entry
use Rattle.bus_machine.specs.Plans.{component_at, plan_of, link_at}
use Rattle.bus_machine.specs.Nodes.{NodeState, round_of, opening_node, sent_rounds}
use Rattle.bus_machine.specs.NodeEvents.{is_waiting, started, next_step, stepped, running_step, finished, may_send}
use Rattle.bus_machine.specs.NodeEvents.{sent_from, with_message, arrived, received}
use Rattle.bus_machine.specs.LinkEvents.{arriving}
use Rattle.bus_machine.specs.BusStates.{BusState, opening, node_at, no_node, flight_at, with_node}
use Rattle.bus_machine.specs.RunParameters.{Run}
use Rattle.bus_machine.specs.MissedMessages.{missing_link}
use Rattle.bus_machine.specs.Machine.{BusEvent, Start, Step, Finish, Send, Arrive, Drop, Repeat, after, after_start}
use Rattle.bus_machine.specs.Machine.{after_send, after_arrive, on_step, is_allowed, arrival, early_stop}
use Rattle.bus_machine.specs.Replay.{entries, start_entry, stop_entry}
use Rattle.bus_machine.specs.Agreement.{PhaseAgrees, Agrees}
use Rattle.bus_machine.specs.proof.AgreementLaws.{IsRunOf}
use Rattle.bus_machine.proofs.NodeEventLocalAgreement.{finish_keeps, MaySend}
use Rattle.bus_machine.proofs.StateChangeAgreement.{is_component}
use Rattle.bus_machine.proofs.MessageAndRunAgreement.{node_opens}
use Rattle.bus_machine.proofs.NodeEventBusAgreement.{is_waiting_phase, sender_before}
use Rattle.run_laws.specs.JournalReadings.{listed, start_in, send_in, starts, sends}
use Rattle.pals_clock.specs.declared.clock.Clocks.{Clocks}
use Rattle.pals_clock.specs.declared.clock.Clocks.TheVariants.{Lists}
use Rattle.run_laws.specs.Runs.{Runs, KeepsTo, opens, picks_for, goes_on}
use Rattle.run_laws.proofs.NodePicksAndRunReplay.{runs_agree, below_nodes}

-- ---- the two numbers
abbrev rounds_of : ℕ → NodeState → ℕ
rounds_of node n = sent_rounds n

abbrev count_of : ℕ → NodeState → ℕ
count_of node n = n.count

pub record Grow (s t : BusState) (k begun sent : ℕ) : Type 0 where
  pub count : (node_at t k).count ≡ (node_at s k).count + begun
  pub sends : sent_rounds (node_at t k) ≡ sent_rounds (node_at s k) + sent

nothing : (s t : BusState) (k : ℕ) → t.nodes ≡ s.nodes → Grow s t k 0 0
nothing s t k same = record {
  count = add_zero_from _ _ (ap (λ (ns : List NodeState). (slice_index_or ns k no_node).count) same);
  sends = add_zero_from _ _ (ap (λ (ns : List NodeState). sent_rounds (slice_index_or ns k no_node)) same);
}

stay : (s : BusState) (j k : ℕ) (m : NodeState) → m.count ≡ (node_at s j).count
    → sent_rounds m ≡ sent_rounds (node_at s j) → Grow s (with_node s j m) k 0 0
stay s j k m count sent =
    record {
      count = add_zero_from _ _ (stays_at count_of s j k m count);
      sends = add_zero_from _ _ (stays_at rounds_of s j k m sent);
    }

-- ---- the readings that an event adds
shown : Option ℕ → Bool → ℕ
shown reading b = length (cond b (listed reading) [] ++ [])

shows_one : (reading : Option ℕ) (at : ℕ) (b : Bool) → reading ≡ Some at
    → cond b 1 0 ≡ length (cond b (listed reading) [] ++ [])
shows_one None at b is = absurd (cc)
shows_one (Some other) at true is = refl
shows_one (Some other) at false is = refl

abbrev Shows : Run → BusState → BusState → ℕ → List JournalEntry → Type 0
Shows run s t k told = Grow s t k (length (starts k told)) (length (sends k told))

one_start : (s t : BusState) (k n : ℕ) (reading : Option ℕ) (at : ℕ) (b : Bool) → reading ≡ Some at
    → Grow s t k (cond b 1 0) 0 → Grow s t k (length (cond b (listed reading) [] ++ [])) 0
one_start s t k n reading at b is grows = subst (λ x. Grow s t k x 0) (shows_one reading at b is) grows

-- ---- Start
counts_start : (run : Run) (s : BusState) (node : NodeNo) (reading m : Option ℕ) (at k : ℕ) → Agrees run s
    → node.0 < length run.design.components → reading ≡ Some at
    → is_waiting (node_at s node.0).phase ≡ true
    → Shows run s (after_start run s node reading m) k (start_entry run s node reading m ∷ [])
counts_start run s node reading (Some link) at k agree within is waits = nothing s _ k refl
counts_start run s node reading None at k agree within is waits =
    let n = node_at s node.0 in
    let c = component_at run.design node.0 in
    let is_c =
    is_component run s node.0 agree
    (λ gone. false≢true (sym (ap (λ (k : NodeState). is_waiting k.phase) gone) ∙ waits)) in
    let rest = subst (PhaseAgrees run node.0 c n) (is_waiting_phase n.phase waits) (agree.nodes node.0 c is_c).phase in
    let m = started (plan_of run.design node.0) (values_at run.env n.count) n in
    one_start s (with_node s node.0 m) k 0 reading at (nat_eq node.0 k) is (record {
      count = grows_at count_of s node.0 k 1 m (below_nodes run s node.0 agree within) refl;
      sends = add_zero_from _ _ (stays_at rounds_of s node.0 k m (sent_at_start n.sent n.count rest.0.sent));
    })

-- ---- Step and Finish
counts_step : (run : Run) (s : BusState) (node : NodeNo) (p : Phase) (k : ℕ)
    → Grow s (on_step (next_step p) s (λ step. with_node s node.0 (stepped step (node_at s node.0)))) k 0 0
counts_step run s node Waiting k = nothing s s k refl
counts_step run s node (Running step) k = nothing s s k refl
counts_step run s node (Between steps) k = stay s node.0 k (stepped steps (node_at s node.0)) refl refl
counts_step run s node Holding k = nothing s s k refl
counts_step run s node Done k = nothing s s k refl

counts_finish : (run : Run) (s : BusState) (node : NodeNo) (p : Phase) (k : ℕ)
    → Grow s (on_step (running_step p) s
    (λ step. with_node s node.0 (finished (plan_of run.design node.0) run.rounds step (node_at s node.0)))) k 0 0
counts_finish run s node Waiting k = nothing s s k refl
counts_finish run s node (Running step) k =
    let n = node_at s node.0 in
    let keeps = finish_keeps (plan_of run.design node.0) run.rounds step n in
    stay s node.0 k (finished (plan_of run.design node.0) run.rounds step n) keeps.0
    (ap₂ (λ b j. if b then j else (j - 1)) keeps.2 keeps.0)
counts_finish run s node (Between steps) k = nothing s s k refl
counts_finish run s node Holding k = nothing s s k refl
counts_finish run s node Done k = nothing s s k refl

-- ---- Send
one_send : (s t : BusState) (k : ℕ) (reading : Option ℕ) (at : ℕ) (b : Bool) → reading ≡ Some at
    → Grow s t k 0 (cond b 1 0) → Grow s t k 0 (length (cond b (listed reading) [] ++ []))
one_send s t k reading at b is grows = subst (λ x. Grow s t k 0 x) (shows_one reading at b is) grows

counts_send : (run : Run) (s : BusState) (node : NodeNo) (reading : Option ℕ) (at k round : ℕ) → Agrees run s
    → node.0 < length run.design.components → reading ≡ Some at
    → may_send (plan_of run.design node.0) (node_at s node.0) ≡ true
    → Shows run s (after_send run s node reading) k (entry.Send node round reading ∷ [])
counts_send run s node reading at k round agree within is may =
    let n = node_at s node.0 in
    let m = sent_from run.rounds n in
    let before : MaySend run node.0 (component_at run.design node.0) n = sender_before run s node agree may in
    let grows : Grow s (with_node s node.0 m) k 0 (cond (nat_eq node.0 k) 1 0) = record {
      count = add_zero_from _ _ (stays_at count_of s node.0 k m refl);
      sends =
          grows_at rounds_of s node.0 k 1 m (below_nodes run s node.0 agree within)
          (sent_behind n.sent n.count before.under_way.round before.unsent before.under_way.count);
    } in
    let all = one_send s (with_node s node.0 m) k reading at (nat_eq node.0 k) is grows in
    record { count = all.count; sends = all.sends }

-- ---- Arrive
arrival_keeps : (n : NodeState) (port : ℕ) (tuple : List PortValue) (a : Arrived)
    → ((with_message n port tuple a).count ≡ n.count) × (sent_rounds (with_message n port tuple a) ≡ sent_rounds n)
arrival_keeps n port tuple Kept = (refl, refl)
arrival_keeps n port tuple Ignored = (refl, refl)
arrival_keeps n port tuple Early = (refl, refl)

pub stop_shows : (k : ℕ) (o : Option Stop) → (starts k (stop_entry o) ≡ []) × (sends k (stop_entry o) ≡ [])
stop_shows k None = (refl, refl)
stop_shows k (Some why) = (refl, refl)

counts_arrive : (run : Run) (s : BusState) (link : LinkNo) (round : ℕ) (reading : Option ℕ) (a : Arrived) (k : ℕ)
    → Shows run s (after_arrive run s link round reading) k
    (entry.Arrive link round reading a ∷ stop_entry (early_stop link round reading a))
counts_arrive run s link round reading a k =
    let l = link_at run.design link.0 in
    let n = node_at s l.target.0 in
    let keeps = arrival_keeps n l.in_port (arriving round (flight_at s link.0)) (arrived n l.in_port round) in
    let both = stay s l.target.0 k (received n l.in_port round (arriving round (flight_at s link.0))) keeps.0 keeps.1 in
    let none = stop_shows k (early_stop link round reading a) in
    let count = both.count in
    let sends' = both.sends in
    record {
      count = count ∙ ap (λ x. (node_at s k).count + x) (sym (ap length none.0));
      sends = sends' ∙ ap (λ x. sent_rounds (node_at s k) + x) (sym (ap length none.1));
    }

-- ---- each event
counts_after : (run : Run) (clocks : Clocks) (s : BusState) (e : BusEvent) (k : ℕ) → Agrees run s
    → KeepsTo run clocks s e → is_allowed run s e ≡ true → Shows run s (after run s e) k (entries run s e)
counts_after run clocks s (Start node reading) k agree keeps may =
    counts_start run s node reading (missing_link run s node.0) keeps.does.at k agree keeps.does.within
    keeps.does.reading_is may
counts_after run clocks s (Step node reading) k agree keeps may = counts_step run s node (node_at s node.0).phase k
counts_after run clocks s (Finish node) k agree keeps may = counts_finish run s node (node_at s node.0).phase k
counts_after run clocks s (Send node reading) k agree keeps may =
    counts_send run s node reading keeps.1.at k (round_of (node_at s node.0)) agree keeps.1.within
    keeps.1.reading_is may
counts_after run clocks s (Arrive link round reading) k agree keeps may =
    counts_arrive run s link round reading (arrival run s link round) k
counts_after run clocks s (Drop link round) k agree keeps may = absurd keeps
counts_after run clocks s (Repeat link round) k agree keeps may = absurd keeps

opening_past : (run : Run) (k : ℕ) → length run.design.components ≤ k → node_at (opening run) k ≡ no_node
opening_past run k past =
    get_or_past (opening run).nodes k no_node
    (omega (
      arith,
      length-map (upwards 0 (length run.design.components))
          (λ node. opening_node (plan_of run.design node)),
      length-upwards 0 (length run.design.components),
    ))

abbrev IsShown : BusState → List JournalEntry → ℕ → Type 0
IsShown s journal k =
    (length (starts k journal) ≡ (node_at s k).count) × (length (sends k journal) ≡ sent_rounds (node_at s k))

opening_shown : (run : Run) (k : ℕ) → IsShown (opening run) [] k
opening_shown run k = elim (cases_lt k (length run.design.components)) [
  | inl within ↦ (
    sym (ap (λ (n : NodeState). n.count) (node_opens run k within)),
    sym (ap (λ (n : NodeState). sent_rounds n) (node_opens run k within)),
  )
  | inr past ↦ (
    sym (ap (λ (n : NodeState). n.count) (opening_past run k past)),
    sym (ap (λ (n : NodeState). sent_rounds n) (opening_past run k past)),
  )
]

pub rounds_are_shown : (run : Run) (clocks : Clocks) (journal : List JournalEntry) (s : BusState) (k : ℕ) → IsRunOf run
    → Runs run clocks journal s
    → (length (starts k journal) ≡ (node_at s k).count) × (length (sends k journal) ≡ sent_rounds (node_at s k))
rounds_are_shown run clocks journal s k rules (opens clocks' begin) = opening_shown run k
rounds_are_shown run clocks journal s k rules (picks_for {clocks = before} j runs picks) =
    rounds_are_shown run (Lists before) journal s k rules runs
rounds_are_shown run clocks journal s k rules (goes_on {journal = before} {s = t} e runs keeps step) =
    let old = rounds_are_shown run clocks before t k rules runs in
    let grows = counts_after run clocks t e k (runs_agree run clocks before t rules runs) keeps step.allowed in
    let first : length (starts k (before ++ entries run t e))
    ≡ length (starts k before) + length (starts k (entries run t e)) =
    ap length (flat_map-append (start_in k) before (entries run t e))
    ∙ length-append (starts k before) (starts k (entries run t e)) in
    let second : length (sends k (before ++ entries run t e))
    ≡ length (sends k before) + length (sends k (entries run t e)) =
    ap length (flat_map-append (send_in k) before (entries run t e))
    ∙ length-append (sends k before) (sends k (entries run t e)) in
    subst (λ u. IsShown u (before ++ entries run t e) k) (sym step.state) (
      first ∙ ap (λ x. x + length (starts k (entries run t e))) old.0 ∙ sym grows.count,
      second ∙ ap (λ x. x + length (sends k (entries run t e))) old.1 ∙ sym grows.sends,
    )
