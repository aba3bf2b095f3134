-- The nodes that a bus shows, and the invariant after one of them changes.
use Rattle.std.proofs.Common.{◌≡◌, ◌∙◌, inl, inr, ℕ, ◌<◌, ◌≤◌, Bool, true, false, List, length, map, sym, ap, ap₂}
use Rattle.std.proofs.Common.{subst, arith}
use Rattle.std.specs.Prelude.{slice_set, slice_index_or, if◌then◌else◌}
use Rattle.std.specs.Arc.{arc_value}
use Rattle.std.proofs.Math.Seq.{map-set_same}
use Rattle.std.proofs.lemmas.Bool.{cases_eq}
use Rattle.std.proofs.lemmas.List.{length-map, map-set, length-set, get_or-map, get_or-set_other, get_or_default}
use Rattle.std.proofs.lemmas.Grind.{get_or-set_at}
use Rattle.step_code.specs.declared.instr.CodeParts.{CodeParts}
use Rattle.step_code.specs.proof.CodeMatchesBehaviour.{Means}
use Rattle.pals_model.specs.declared.design.DesignParts.{DesignParts}
use Rattle.bus_machine.specs.declared.plan.Plan.{Plan}
use Rattle.bus_machine.specs.Nodes.{NodeState}
use Rattle.bus_machine.specs.Plans.{component_at}
use Rattle.bus_machine.specs.BusStates.{no_node}
use Rattle.pals_node.specs.proof.NodeAndJobValues.{Program, NodeValue, with_state}
use Rattle.pals_bus.specs.declared.bus_fields.BusFields.{BusFields}
use Rattle.pals_bus.specs.proof.StepCodesOfNodes.{AreCodes, codes_in, no_code, code_at}
use Rattle.pals_bus.specs.proof.NodeLists.{node_value}
use Rattle.pals_bus.specs.proof.BusInvariant.{IsNodeOf, AreNodes, IsBusInvariant, value_of}
use Rattle.pals_bus.specs.proof.OutOfRangeDefaults.{no_node_value}

abbrev pub states : List NodeValue → List NodeState
states nodes = map (λ (n : NodeValue). n.state) nodes

-- a node is the one that contracts see
pub node_shown : (f : BusFields) (node : ℕ) → AreNodes (arc_value f.design) f.rounds f.nodes → node < length f.nodes
    → slice_index_or f.nodes node no_node_value ≡ node_value (value_of f) node
node_shown f node are within =
    let n = slice_index_or f.nodes node no_node_value in
    let is : IsNodeOf (arc_value f.design) f.rounds node n = are.each node within in
    let code : code_at (codes_in f.nodes) node ≡ n.program.code =
    get_or-map (λ (n : NodeValue). n.program.code) f.nodes node no_node_value no_code within in
    let state : slice_index_or (states f.nodes) node no_node ≡ n.state =
    get_or-map (λ (n : NodeValue). n.state) f.nodes node no_node_value no_node within in
    ap₂ (λ (p : Plan) (c : CodeParts). record n { program = record { plan = p; code = c } }) is.plan (sym code)
    ∙ ap₂ (λ (r : ℕ) (s : NodeState).
    record { program = (node_value (value_of f) node).program; rounds = r; state = s }) is.rounds_are (sym state)

pub node_is : (f : BusFields) (node : ℕ) → IsBusInvariant f → node < length f.nodes
    → slice_index_or f.nodes node no_node_value ≡ node_value (value_of f) node
node_is f node keeps within = node_shown f node keeps.nodes within

pub node_here : (f : BusFields) (node : ℕ) (n : NodeValue) → IsBusInvariant f → node < length f.nodes
    → n ≡ slice_index_or f.nodes node n → n ≡ node_value (value_of f) node
node_here f node n keeps within is =
    is ∙ get_or_default f.nodes node n no_node_value within ∙ node_is f node keeps within

-- the codes of its nodes mean what the components do
pub codes_mean : (design : DesignParts) (rounds : ℕ) (nodes : List NodeValue) → AreNodes design rounds nodes
    → AreCodes design (codes_in nodes)
codes_mean design rounds nodes are =
    let many = length-map nodes (λ (n : NodeValue). n.program.code) in
    record {
      count = many ∙ are.count;
      mean = λ node lt.
          let within : node < length nodes = omega (arith, many, lt) in
          subst (λ (c : CodeParts). Means c (component_at design node).behaviour)
          (sym (get_or-map (λ (n : NodeValue). n.program.code) nodes node no_node_value no_code within))
          (are.each node within).means;
    }

-- ---- one node changes
pub states-set : (nodes : List NodeValue) (at : ℕ) (m : NodeValue)
    → states (slice_set nodes at m) ≡ slice_set (states nodes) at m.state
states-set nodes at m = map-set (λ (n : NodeValue). n.state) nodes at m

-- a node of the same plan, of as many rounds
pub record IsSameNode (n m : NodeValue) : Type 0 where
  pub program : m.program ≡ n.program
  pub rounds : m.rounds ≡ n.rounds

pub codes-set : (nodes : List NodeValue) (at : ℕ) (m : NodeValue) → IsSameNode (slice_index_or nodes at no_node_value) m
    → codes_in (slice_set nodes at m) ≡ codes_in nodes
codes-set nodes at m same =
    map-set_same (λ (n : NodeValue). n.program.code) nodes at m no_node_value
    (ap (λ (p : Program). p.code) same.program)

pub nodes-set : (design : DesignParts) (rounds : ℕ) (nodes : List NodeValue) (at : ℕ) (m : NodeValue)
    → AreNodes design rounds nodes → at < length nodes → IsSameNode (slice_index_or nodes at no_node_value) m
    → AreNodes design rounds (slice_set nodes at m)
nodes-set design rounds nodes at m are within same = record {
  count = length-set nodes at m ∙ are.count;
  each = λ node lt. elim (cases_eq node at) [
    | inl e ↦
        subst (λ n. IsNodeOf design rounds node n) (sym (get_or-set_at nodes at node m no_node_value e within))
        (subst (λ k. IsNodeOf design rounds k m) (sym e)
        (let old = are.each at within in
        record {
          plan = ap (λ (p : Program). p.plan) same.program ∙ old.plan;
          rounds_are = same.rounds ∙ old.rounds_are;
          means = subst (λ (p : Program). Means p.code (component_at design at).behaviour) (sym same.program)
              old.means;
        }))
    | inr other ↦
        subst (λ n. IsNodeOf design rounds node n) (sym (get_or-set_other nodes at node m no_node_value other))
        (are.each node (let size = length-set nodes at m in omega (arith, size, lt)))
  ];
}

-- a node of which only the state has changed
pub same_node : (f : BusFields) (node : ℕ) (m : NodeValue) (s : NodeState) → IsBusInvariant f → node < length f.nodes
    → m ≡ with_state (node_value (value_of f) node) s → IsSameNode (slice_index_or f.nodes node no_node_value) m
same_node f node m s keeps within is =
    let here = node_is f node keeps within in
    record {
      program = ap (λ (n : NodeValue). n.program) is ∙ sym (ap (λ (n : NodeValue). n.program) here);
      rounds = ap (λ (n : NodeValue). n.rounds) is ∙ sym (ap (λ (n : NodeValue). n.rounds) here);
    }

-- ---- entries that are owed
pub one_at_most : (b : Bool) → (if b then 1 else 0) ≤ 1
one_at_most true = omega arith
one_at_most false = omega arith

pub none_or_one : (b : Bool) → (if b then 0 else 1) ≤ 1
none_or_one true = omega arith
none_or_one false = omega arith
