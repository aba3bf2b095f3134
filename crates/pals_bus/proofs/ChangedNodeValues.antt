-- For the calls of `Bus` that change one node: what contracts see of that node after the call, and the entry that
-- the journal gets.
use Rattle.std.proofs.Common.{◌≡◌, ◌∙◌, ℕ, ◌<◌, [], ◌∷◌, ◌++◌, length, refl, sym, ap, subst, arith}
use Rattle.std.specs.Prelude.{slice_set, vec_capacity}
use Rattle.std.specs.Arc.{arc_value}
use Rattle.std.proofs.lemmas.List.{length-set}
use Rattle.std.proofs.lemmas.Grind.{get_or-set_at}
use Rattle.pals_runs.specs.declared.journal.JournalEntry.{JournalEntry}
use Rattle.bus_machine.specs.Nodes.{NodeState}
use Rattle.pals_node.specs.proof.NodeAndJobValues.{NodeValue, with_state}
use Rattle.pals_bus.specs.declared.bus_fields.BusFields.{BusFields}
use Rattle.pals_bus.specs.proof.NodeLists.{node_value, node_of}
use Rattle.pals_bus.specs.proof.BusInvariant.{IsBusInvariant, node_in, value_of}
use Rattle.pals_bus.specs.proof.OutOfRangeDefaults.{no_node_value}
use Rattle.pals_bus.proofs.NodeChanges.{nodes-set, node_is, node_shown, same_node}

-- what contracts see of the node after it
pub turn_shown : (f g : BusFields) (node : ℕ) (m : NodeValue) (s : NodeState) → IsBusInvariant f → node < length f.nodes
    → m ≡ with_state (node_value (value_of f) node) s
    → g ≡ record f { nodes = slice_set f.nodes node m; journal = g.journal } → node_value (value_of g) node ≡ m
turn_shown f g node m s keeps within is same =
    let h : BusFields = record f { nodes = slice_set f.nodes node m; journal = g.journal } in
    let size = length-set f.nodes node m in
    let within_h : node < length h.nodes = omega (arith, size, within) in
    ap (λ (k : BusFields). node_value (value_of k) node) same
    ∙ sym (node_shown h node
    (nodes-set (arc_value f.design) f.rounds f.nodes node m keeps.nodes within
    (same_node f node m s keeps within is)) within_h)
    ∙ get_or-set_at f.nodes node node m no_node_value refl within

-- a call changed only this node, and its entry was recorded
pub record Turned (f g : BusFields) (node : ℕ) (x : JournalEntry) : Type 0 where
  pub same : g ≡ record f { nodes = slice_set f.nodes node (node_in g node); journal = g.journal }
  pub told : g.journal.items ≡ f.journal.items ++ x ∷ []
  pub capacity : vec_capacity g.journal ≡ vec_capacity f.journal

-- the model of the node after a call
pub turn_told : (f : BusFields) (node : ℕ) (P : NodeValue → Type 0) → IsBusInvariant f → node < length f.nodes
    → P (node_of f.nodes node) → P (node_value (value_of f) node)
turn_told f node P keeps within says = subst P (node_is f node keeps within) says
