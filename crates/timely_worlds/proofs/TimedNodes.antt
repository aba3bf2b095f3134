-- The invariant of a world whose events happen at their times: the times that it stores are times of events.
use Rattle.std.proofs.Common.{◌≡◌, ◌≢◌, inl, inr, ℕ, ◌-◌, ◌<◌, true, List, [], length, refl, sym, subst, arith}
use Rattle.std.specs.Prelude.{slice_index_or}
use Rattle.std.proofs.lemmas.Bool.{cases_eq}
use Rattle.pals_runs.specs.declared.phase.Phase.TheVariants.{Running}
use Rattle.bus_machine.specs.declared.plan.Plan.{Plan}
use Rattle.bus_machine.specs.Plans.{plan_of}
use Rattle.bus_machine.specs.Nodes.{NodeState, round_of, sent_rounds}
use Rattle.bus_machine.specs.NodeEvents.{may_send}
use Rattle.bus_machine.specs.BusStates.{BusState, node_at}
use Rattle.bus_machine.specs.RunParameters.{Run}
use Rattle.run_laws.specs.Worlds.{World, since_at, ready_at, sendings}
use Rattle.run_laws.specs.proof.WorldInvariant.{KeepsTime}
use Rattle.run_laws.proofs.LocalWorldChanges.{changed, ChangesAt}
use Rattle.bus_machine.specs.Plans.{component_at}
use Rattle.bus_machine.specs.Agreement.{PhaseAgrees}
use Rattle.bus_machine.specs.proof.AgreementLaws.{IsRunOf}
use Rattle.run_laws.proofs.NodePicksAndRunReplay.{plan_rules}
use Rattle.run_laws.proofs.WorldNodeTiming.{phase_agrees, rounds_at_most}
use Rattle.timely_worlds.specs.proof.EventTimes.{EventTimes}

pub record NodeIsTimed (plan : Plan) (times : EventTimes) (node : ℕ) (n : NodeState) (since ready : ℕ)
    (moments : List ℕ) : Type 0 where
  pub since_is : (step : ℕ) → n.phase ≡ Running step → since ≡ times.starts node (round_of n) step
  pub ready_is : may_send plan n ≡ true → ready ≡ times.finishes node (round_of n) (plan.sent_steps - 1)
  pub moments_are : (round : ℕ) → round < sent_rounds n → slice_index_or moments round 0 ≡ times.sends node round

abbrev pub TimedAt : Run → EventTimes → World → ℕ → Type 0
TimedAt run times w node =
    NodeIsTimed (plan_of run.design node) times node (node_at w.bus node) (since_at w node) (ready_at w node)
    (sendings w node)

pub record IsTimed (run : Run) (times : EventTimes) (w : World) : Type 0 where
  pub keeps : KeepsTime run w
  pub nodes : (node : ℕ) → node < length run.design.components → TimedAt run times w node

-- the same node and times, named otherwise
pub timed_put : (plan : Plan) (times : EventTimes) (node : ℕ) (n m : NodeState) (since at_since ready at_ready : ℕ)
    (moments at_moments : List ℕ) → NodeIsTimed plan times node m at_since at_ready at_moments → n ≡ m
    → since ≡ at_since → ready ≡ at_ready → moments ≡ at_moments
    → NodeIsTimed plan times node n since ready moments
timed_put plan times node n m since at_since ready at_ready moments at_moments timed is_n is_since is_ready is_moments =
    let one : NodeIsTimed plan times node n at_since at_ready at_moments =
    subst (λ (x : NodeState). NodeIsTimed plan times node x at_since at_ready at_moments) (sym is_n) timed in
    let two : NodeIsTimed plan times node n since at_ready at_moments =
    subst (λ x. NodeIsTimed plan times node n x at_ready at_moments) (sym is_since) one in
    let three : NodeIsTimed plan times node n since ready at_moments =
    subst (λ x. NodeIsTimed plan times node n since x at_moments) (sym is_ready) two in
    subst (λ (x : List ℕ). NodeIsTimed plan times node n since ready x) (sym is_moments) three

-- one node changes
pub nodes_again : (run : Run) (times : EventTimes) (w : World) (bus : BusState) (since ready : List ℕ)
    (sent_at : List (List ℕ)) (node : ℕ) → IsTimed run times w → ChangesAt w bus since ready sent_at node
    → TimedAt run times (changed w bus since ready sent_at) node
    → (k : ℕ) → k < length run.design.components → TimedAt run times (changed w bus since ready sent_at) k
nodes_again run times w bus since ready sent_at node timed changes here k within = elim (cases_eq k node) [
  | inl same ↦ subst (λ j. TimedAt run times (changed w bus since ready sent_at) j) (sym same) here
  | inr other ↦
      timed_put (plan_of run.design k) times k (node_at bus k) (node_at w.bus k) (slice_index_or since k 0)
      (since_at w k) (slice_index_or ready k 0) (ready_at w k) (slice_index_or sent_at k []) (sendings w k)
      (timed.nodes k within) (changes.nodes k other) (changes.since_stays k other) (changes.ready_stays k other)
      (changes.sent_stays k other)
]

-- a running step belongs to a round of the run, and is one of the node's steps
pub in_run : (run : Run) (w : World) (rules : IsRunOf run) (keeps : KeepsTime run w) (node : ℕ)
    → node < length run.design.components → (step : ℕ) → (node_at w.bus node).phase ≡ Running step
    → (round_of (node_at w.bus node) < run.rounds) × (step < (plan_of run.design node).rate)
in_run run w rules keeps node within step runs =
    let n = node_at w.bus node in
    let agrees = subst (PhaseAgrees run node (component_at run.design node) n) runs
    (phase_agrees run w rules keeps node within) in
    let most = rounds_at_most run w rules keeps node within in
    let count = agrees.under_way.count in
    let below = agrees.within in
    (omega arith, below)

pub rate_at : (run : Run) → IsRunOf run → (node : ℕ) → node < length run.design.components
    → 0 < (plan_of run.design node).rate
rate_at run rules node within = let some = (plan_rules run node rules within).rate in omega arith
