-- How a number that is computed from each node changes when one node changes.
use Rattle.std.proofs.Common.{◌≡◌, ◌≢◌, inl, inr, ℕ, ◌+◌, ◌-◌, ◌<◌, nat_eq, Bool, true, false, cond, length, refl, sym}
use Rattle.std.proofs.Common.{ap, ◌∙◌, subst, arith}
use Rattle.std.proofs.lemmas.Bool.{cases_eq, cases_lt, eqb-true, eqb-false}
use Rattle.std.proofs.lemmas.List.{length-set, get_or_past}
use Rattle.bus_machine.specs.Nodes.{NodeState}
use Rattle.bus_machine.specs.BusStates.{BusState, node_at, no_node, with_node}
use Rattle.bus_machine.proofs.StateChangeAgreement.{node_set, node_stays}

-- ---- it grows at that node
grows_by : (f : ℕ → NodeState → ℕ) (s : BusState) (node k more : ℕ) (n : NodeState) (b : Bool) → nat_eq node k ≡ b
    → node < length s.nodes
    → f node n ≡ f node (node_at s node) + more
    → f k (node_at (with_node s node n) k) ≡ f k (node_at s k) + cond b more 0
grows_by f s node k more n true is within grows =
    let same : node ≡ k = eqb-true node k is in
    subst (λ j. f j (node_at (with_node s node n) j) ≡ f j (node_at s j) + more) same
    (ap (f node) (node_set s node n within) ∙ grows)
grows_by f s node k more n false is within grows =
    let other : node ≢ k = eqb-false node k is in
    let stays : f k (node_at (with_node s node n) k) ≡ f k (node_at s k) =
    ap (f k) (node_stays s node k n (λ e. other (sym e))) in
    omega arith

pub grows_at : (f : ℕ → NodeState → ℕ) (s : BusState) (node k more : ℕ) (n : NodeState) → node < length s.nodes
    → f node n ≡ f node (node_at s node) + more
    → f k (node_at (with_node s node n) k) ≡ f k (node_at s k) + cond (nat_eq node k) more 0
grows_at f s node k more n within grows = grows_by f s node k more n (nat_eq node k) refl within grows

-- ---- it stays
pub stays_at : (f : ℕ → NodeState → ℕ) (s : BusState) (node k : ℕ) (n : NodeState) → f node n ≡ f node (node_at s node)
    → f k (node_at (with_node s node n) k) ≡ f k (node_at s k)
stays_at f s node k n same = elim (cases_eq k node) [
  | inl here ↦
      subst (λ j. f j (node_at (with_node s node n) j) ≡ f j (node_at s j)) (sym here)
      (elim (cases_lt node (length s.nodes)) [
        | inl within ↦ ap (f node) (node_set s node n within) ∙ same
        | inr past ↦
            let size = length-set s.nodes node n in
            ap (f node) (get_or_past (with_node s node n).nodes node no_node (omega arith)
            ∙ sym (get_or_past s.nodes node no_node past))
      ])
  | inr other ↦ ap (f k) (node_stays s node k n other)
]

-- a property that the new state of a node shares with the old one is preserved at every node
pub keeps_at : {X : Type 0} (f : NodeState → X) (s : BusState) (node k : ℕ) (m : NodeState) → f m ≡ f (node_at s node)
    → f (node_at (with_node s node m) k) ≡ f (node_at s k)
keeps_at f s node k m same = elim (cases_eq k node) [
  | inl here ↦
      subst (λ j. f (node_at (with_node s node m) j) ≡ f (node_at s j)) (sym here)
      (elim (cases_lt node (length s.nodes)) [
        | inl within ↦ ap f (node_set s node m within) ∙ same
        | inr past ↦
            let size = length-set s.nodes node m in
            ap f (get_or_past (with_node s node m).nodes node no_node (omega arith)
            ∙ sym (get_or_past s.nodes node no_node past))
      ])
  | inr other ↦ ap f (node_stays s node k m other)
]
