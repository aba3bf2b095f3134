-- How many entries the bus owes for a node, before and after an event of it.
use Rattle.std.proofs.Common.{◌≡◌, ◌∙◌, ℕ, ◌+◌, ◌*◌, ◌<◌, ◌≤◌, nat_eq, nat_lt, Bool, true, false, List, [], ◌∷◌, ◌++◌}
use Rattle.std.proofs.Common.{length, Option, None, refl, ap, ap₂, arith}
use Rattle.std.specs.Prelude.{sum_by, slice_set, slice_index_or, is_some, not, if◌then◌else◌}
use Rattle.std.proofs.lemmas.Bool.{and_parts, not-true}
use Rattle.std.proofs.lemmas.List.Elements.{All-from_get_or}
use Rattle.std.proofs.lemmas.List.Sums.{sum_by-set, sum_by-le}
use Rattle.pals_base.specs.Tuples.{with_places}
use Rattle.pals_runs.specs.declared.phase.Phase.{Phase}
use Rattle.pals_runs.specs.declared.phase.Phase.TheVariants.{Waiting, Running, Between, Holding, Done}
use Rattle.bus_machine.specs.declared.plan.Plan.{Plan}
use Rattle.bus_machine.specs.Nodes.{NodeState, at_rest}
use Rattle.bus_machine.specs.NodeEvents.{running_step, finished, fired, after_send, after_round, part_left, may_send}
use Rattle.bus_machine.specs.NodeEvents.{sent_from}
use Rattle.bus_machine.proofs.NodeEventLocalAgreement.{finish_keeps}
use Rattle.pals_node.specs.proof.NodeAndJobValues.{NodeValue}
use Rattle.pals_bus.specs.proof.BusInvariant.{owed}
use Rattle.pals_bus.specs.proof.OutOfRangeDefaults.{no_node_value}
use Rattle.pals_bus.proofs.NodeChanges.{none_or_one, one_at_most}

pub owed_at_most : (n : NodeValue) → owed n ≤ 2
owed_at_most n =
    let a = one_at_most (is_some (running_step n.state.phase)) in
    let b = none_or_one n.state.sent in
    omega (arith, a, b)

pub all_owed : (nodes : List NodeValue) → sum_by owed nodes ≤ length nodes * 2
all_owed nodes =
    sum_by-le owed 2 nodes (All-from_get_or (λ (n : NodeValue). owed n ≤ 2) nodes no_node_value
    (λ i lt. owed_at_most (slice_index_or nodes i no_node_value)))

-- a node owes two entries at most
pub owed_more : (nodes : List NodeValue) (at : ℕ) (m : NodeValue) → at < length nodes
    → sum_by owed (slice_set nodes at m) ≤ sum_by owed nodes + 2
owed_more nodes at m within =
    let all = sum_by-set owed nodes at m no_node_value within in
    let most = owed_at_most m in
    omega (arith, all, most)

-- it records one of the entries that must follow
pub owed_less : (nodes : List NodeValue) (at : ℕ) (m : NodeValue) → at < length nodes
    → owed m + 1 ≡ owed (slice_index_or nodes at no_node_value)
    → sum_by owed (slice_set nodes at m) + 1 ≡ sum_by owed nodes
owed_less nodes at m within less =
    let all = sum_by-set owed nodes at m no_node_value within in
    omega (arith, all, less)

rests_not : (b : Bool) → running_step (at_rest b) ≡ None
rests_not true = refl
rests_not false = refl

after_round_rests : (sent b : Bool) → running_step (if sent then at_rest b else Holding) ≡ None
after_round_rests true b = rests_not b
after_round_rests false b = refl

either_rests : (b : Bool) (x y : NodeState) → running_step x.phase ≡ None → running_step y.phase ≡ None
    → running_step (if b then x else y).phase ≡ None
either_rests true x y left right = left
either_rests false x y left right = right

pub finished_rests : (plan : Plan) (rounds step : ℕ) (n : NodeState)
    → running_step (finished plan rounds step n).phase ≡ None
finished_rests plan rounds step n =
    let result = fired plan step n in
    let outs = with_places step result.outs n.outs in
    either_rests (nat_lt (step + 1) plan.rate)
    (record n { frame = result.frame; outs = outs; phase = Between (step + 1) })
    (record n {
      frame = result.frame;
      outs = outs;
      phase = after_round rounds n;
      parts = n.parts ++ part_left plan result outs ∷ [];
    }) refl (after_round_rests n.sent (nat_eq n.count rounds))

pub owed_finished : (n : NodeValue) (plan : Plan) (rounds step : ℕ) (m : NodeValue) → n.state.phase ≡ Running step
    → m.state ≡ finished plan rounds step n.state → owed m + 1 ≡ owed n
owed_finished n plan rounds step m runs is =
    let none : running_step m.state.phase ≡ None = ap (λ (s : NodeState). running_step s.phase) is
    ∙ finished_rests plan rounds step n.state in
    let sent : m.state.sent ≡ n.state.sent = ap (λ (s : NodeState). s.sent) is
    ∙ (finish_keeps plan rounds step n.state).2 in
    let before : owed n ≡ 1 + (if n.state.sent then 0 else 1) =
    ap (λ p. (if is_some (running_step p) then 1 else 0) + (if n.state.sent then 0 else 1)) runs in
    let after : owed m ≡ 0 + (if n.state.sent then 0 else 1) =
    ap₂ (λ (o : Option ℕ) (b : Bool). (if is_some o then 1 else 0) + (if b then 0 else 1)) none sent in
    omega (arith, before, after)

send_runs : (count rounds : ℕ) (b : Bool) (p : Phase) → running_step (after_send count rounds p) ≡ running_step p
send_runs count rounds b Waiting = refl
send_runs count rounds b (Running step) = refl
send_runs count rounds b (Between steps) = refl
send_runs count rounds b Holding = rests_not _
send_runs count rounds b Done = refl

pub is_unsent : (plan : Plan) (n : NodeState) → may_send plan n ≡ true → n.sent ≡ false
is_unsent plan n may = not-true n.sent (and_parts (not n.sent) _ may).0

pub owed_sent : (n : NodeValue) (rounds : ℕ) (m : NodeValue) → n.state.sent ≡ false → m.state ≡ sent_from rounds n.state
    → owed m + 1 ≡ owed n
owed_sent n rounds m unsent is =
    let runs : running_step m.state.phase ≡ running_step n.state.phase = ap (λ (s : NodeState). running_step s.phase) is
    ∙ send_runs n.state.count rounds true n.state.phase in
    let sent : m.state.sent ≡ true = ap (λ (s : NodeState). s.sent) is in
    let before : owed n ≡ (if is_some (running_step n.state.phase) then 1 else 0) + 1 =
    ap (λ b. (if is_some (running_step n.state.phase) then 1 else 0) + (if b then 0 else 1)) unsent in
    let after : owed m ≡ (if is_some (running_step n.state.phase) then 1 else 0) + 0 =
    ap₂ (λ (o : Option ℕ) (b : Bool). (if is_some o then 1 else 0) + (if b then 0 else 1)) runs sent in
    omega (arith, before, after)
