-- The parts of a world that stay the same when one node, its moments or one flight changes.
use Rattle.std.proofs.Common.{◌≡◌, ◌≢◌, inl, inr, ℕ, ◌<◌, Bool, true, false, List, [], length, None, refl, sym, ap}
use Rattle.std.proofs.Common.{subst}
use Rattle.std.specs.Prelude.{slice_index_or, if◌then◌else◌}
use Rattle.std.proofs.lemmas.Bool.{cases_eq}
use Rattle.std.proofs.lemmas.Grind.{get_or-set_at}
use Rattle.std.proofs.lemmas.List.{length-set, get_or-set_other}
use Rattle.bus_machine.specs.Plans.{plan_of, link_at}
use Rattle.bus_machine.specs.Nodes.{NodeState, sent_rounds}
use Rattle.bus_machine.specs.NodeEvents.{slot_at}
use Rattle.bus_machine.specs.BusStates.{BusState, node_at, flight_at, with_node}
use Rattle.bus_machine.specs.RunParameters.{Run}
use Rattle.bus_machine.specs.Agreement.{Agrees}
use Rattle.run_laws.specs.Worlds.{World, reading_at, since_at, ready_at, sendings, moved}
use Rattle.bus_machine.proofs.NodeReplacement.{keeps_at}
use Rattle.run_laws.specs.proof.WorldInvariant.{KeepsDeadline, IsOnce, HasMoments, KeepsLink, KeepsTime}
use Rattle.run_laws.proofs.WorldNodeTiming.{Stands, StandsAt, stands_at, deadline_is}

-- ---- moments
pub moved_other : (b : Bool) (moments : List ℕ) (node k time : ℕ) → k ≢ node
    → slice_index_or (moved b moments node time) k 0 ≡ slice_index_or moments k 0
moved_other true moments node k time other = get_or-set_other moments node k time 0 other
moved_other false moments node k time other = refl

pub moved_length : (b : Bool) (moments : List ℕ) (node time : ℕ) → length (moved b moments node time) ≡ length moments
moved_length true moments node time = length-set moments node time
moved_length false moments node time = refl

pub moved_here : (b : Bool) (moments : List ℕ) (node time : ℕ) → node < length moments
    → slice_index_or (moved b moments node time) node 0 ≡ (if b then time else slice_index_or moments node 0)
moved_here true moments node time within = get_or-set_at moments node node time 0 refl within
moved_here false moments node time within = refl

-- ---- worlds
-- the time and the readings stay
abbrev pub changed : World → BusState → List ℕ → List ℕ → List (List ℕ) → World
changed w bus since ready sent_at = record w { bus = bus; since = since; ready = ready; sent_at = sent_at }

-- nothing changes at the other nodes
pub record ChangesAt (w : World) (bus : BusState) (since ready : List ℕ) (sent_at : List (List ℕ))
    (node : ℕ) : Type 0 where
  pub nodes : (k : ℕ) → k ≢ node → node_at bus k ≡ node_at w.bus k
  pub since_stays : (k : ℕ) → k ≢ node → slice_index_or since k 0 ≡ since_at w k
  pub ready_stays : (k : ℕ) → k ≢ node → slice_index_or ready k 0 ≡ ready_at w k
  pub sent_stays : (k : ℕ) → k ≢ node → slice_index_or sent_at k [] ≡ sendings w k

module _ (run : Run) (w : World) (bus : BusState) (since ready : List ℕ) (sent_at : List (List ℕ))
    (keeps : KeepsTime run w) where
  others_stand : (node : ℕ) → ChangesAt w bus since ready sent_at node
      → StandsAt run (changed w bus since ready sent_at) node
      → (k : ℕ) → k < length run.design.components → StandsAt run (changed w bus since ready sent_at) k
  others_stand node changes here k within = elim (cases_eq k node) [
    | inl same ↦ subst (λ j. StandsAt run (changed w bus since ready sent_at) j) (sym same) here
    | inr other ↦
        let g = run.design.gamma in
        let plan = plan_of run.design k in
        let before = stands_at run w k keeps within in
        let one : Stands g plan (node_at bus k) (reading_at w k) w.time (since_at w k) (ready_at w k) (sendings w k) =
        subst (λ (n : NodeState). Stands g plan n (reading_at w k) w.time (since_at w k) (ready_at w k) (sendings w k))
        (sym (changes.nodes k other)) before in
        let two : Stands g plan (node_at bus k) (reading_at w k) w.time (slice_index_or since k 0) (ready_at w k)
        (sendings w k) =
        subst (λ s. Stands g plan (node_at bus k) (reading_at w k) w.time s (ready_at w k) (sendings w k))
        (sym (changes.since_stays k other)) one in
        let three : Stands g plan (node_at bus k) (reading_at w k) w.time (slice_index_or since k 0)
        (slice_index_or ready k 0) (sendings w k) =
        subst (λ r. Stands g plan (node_at bus k) (reading_at w k) w.time (slice_index_or since k 0) r (sendings w k))
        (sym (changes.ready_stays k other)) two in
        subst (λ m. Stands g plan (node_at bus k) (reading_at w k) w.time (slice_index_or since k 0)
        (slice_index_or ready k 0) m) (sym (changes.sent_stays k other)) three
  ]

  -- the node that changes, by its new state
  pub stands_put : (node : ℕ) (m : NodeState) (at_since at_ready : ℕ) (moments : List ℕ)
      → Stands run.design.gamma (plan_of run.design node) m (reading_at w node) w.time at_since at_ready moments
      → node_at bus node ≡ m → slice_index_or since node 0 ≡ at_since → slice_index_or ready node 0 ≡ at_ready
      → slice_index_or sent_at node [] ≡ moments
      → StandsAt run (changed w bus since ready sent_at) node
  stands_put node m at_since at_ready moments stands is_node is_since is_ready is_sent =
      let g = run.design.gamma in
      let plan = plan_of run.design node in
      let one : Stands g plan (node_at bus node) (reading_at w node) w.time at_since at_ready moments =
      subst (λ (n : NodeState). Stands g plan n (reading_at w node) w.time at_since at_ready moments)
      (sym is_node) stands in
      let two : Stands g plan (node_at bus node) (reading_at w node) w.time (slice_index_or since node 0) at_ready
      moments =
      subst (λ s. Stands g plan (node_at bus node) (reading_at w node) w.time s at_ready moments) (sym is_since) one in
      let three : Stands g plan (node_at bus node) (reading_at w node) w.time (slice_index_or since node 0)
      (slice_index_or ready node 0) moments =
      subst (λ r. Stands g plan (node_at bus node) (reading_at w node) w.time (slice_index_or since node 0) r moments)
      (sym is_ready) two in
      subst (λ l. Stands g plan (node_at bus node) (reading_at w node) w.time (slice_index_or since node 0)
      (slice_index_or ready node 0) l) (sym is_sent) three

  -- the whole, from its parts
  pub keeps_again : (node : ℕ) → bus.stop ≡ None → Agrees run bus → HasMoments run (changed w bus since ready sent_at)
      → ChangesAt w bus since ready sent_at node
      → StandsAt run (changed w bus since ready sent_at) node
      → ((number : ℕ) → number < length run.design.links
      → KeepsLink run (changed w bus since ready sent_at) number (link_at run.design number).target.0
      (link_at run.design number).in_port)
      → KeepsTime run (changed w bus since ready sent_at)
  keeps_again node going agrees moments changes here links =
      let v = changed w bus since ready sent_at in
      let all = others_stand node changes here in
      record {
        going = going;
        agrees = agrees;
        moments = moments;
        clocks = λ k within. (all k within).clock;
        in_time = λ k within. subst (KeepsDeadline w.time) (sym (deadline_is run v k)) (all k within).in_time;
        nodes = λ k within. (all k within).keeps;
        sends = λ k within. (all k within).sends;
        links = links;
      }

-- ---- links, if a node's count, slots and sent rounds stay the same
pub record KeepsRounds (n m : NodeState) : Type 0 where
  pub count : m.count ≡ n.count
  pub slots : m.slots ≡ n.slots
  pub sent : sent_rounds m ≡ sent_rounds n

pub same_links : (run : Run) (w : World) (node : ℕ) (m : NodeState) (since ready : List ℕ) → KeepsTime run w
    → KeepsRounds (node_at w.bus node) m
    → (number : ℕ) → number < length run.design.links
    → KeepsLink run (changed w (with_node w.bus node m) since ready w.sent_at) number
    (link_at run.design number).target.0 (link_at run.design number).in_port
same_links run w node m since ready keeps same number within =
    let s = w.bus in
    let bus = with_node w.bus node m in
    let target = (link_at run.design number).target.0 in
    let port = (link_at run.design number).in_port in
    let source = (link_at run.design number).source.0 in
    let flight = flight_at s number in
    let before = keeps.links number within in
    let count : (node_at bus target).count ≡ (node_at s target).count =
    keeps_at (λ (n : NodeState). n.count) s node target m same.count in
    let slots : (node_at bus target).slots ≡ (node_at s target).slots =
    keeps_at (λ (n : NodeState). n.slots) s node target m same.slots in
    let slot : slot_at (node_at bus target) port ≡ slot_at (node_at s target) port =
    ap (λ held. slice_index_or held port None) slots in
    let sent : sent_rounds (node_at bus source) ≡ sent_rounds (node_at s source) =
    keeps_at (λ (n : NodeState). sent_rounds n) s node source m same.sent in
    record {
      once = λ round.
          subst (λ k. IsOnce k (slot_at (node_at bus target) port) (sent_rounds (node_at bus source)) flight
          round) (sym count)
          (subst (λ o. IsOnce (node_at s target).count o (sent_rounds (node_at bus source)) flight round) (sym slot)
          (subst (λ k. IsOnce (node_at s target).count (slot_at (node_at s target) port) k flight round) (sym sent)
          (before.once round)));
      in_time = before.in_time;
    }
