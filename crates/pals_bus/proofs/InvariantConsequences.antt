-- What follows from the bus invariant: the nodes that are there, their states, their agreement with the composition,
-- and how many rounds they have finished.
use Rattle.std.proofs.Common.{◌≡◌, ◌∙◌, ℕ, ◌<◌, ◌≤◌, length, slice_get, Some, ap, arith}
use Rattle.std.specs.Prelude.{slice_index_or}
use Rattle.std.specs.Arc.{arc_value}
use Rattle.std.proofs.lemmas.Option.{slice_get-get_or}
use Rattle.std.proofs.lemmas.List.{length-map}
use Rattle.pals_base.specs.declared.limits.TheConstants.{ROUNDS}
use Rattle.pals_model.specs.declared.design.Component.{Component}
use Rattle.pals_runs.specs.declared.phase.Phase.{Phase}
use Rattle.pals_runs.specs.declared.phase.Phase.TheVariants.{Waiting, Running, Between, Holding, Done}
use Rattle.bus_machine.specs.Plans.{component_at, no_component}
use Rattle.bus_machine.specs.Nodes.{NodeState}
use Rattle.bus_machine.specs.BusStates.{node_at}
use Rattle.bus_machine.specs.RunParameters.{Run}
use Rattle.bus_machine.specs.Agreement.{PhaseAgrees, Agrees}
use Rattle.bus_machine.proofs.MessageAndRunAgreement.{replay_agrees}
use Rattle.pals_node.specs.proof.NodeAndJobValues.{NodeValue}
use Rattle.pals_bus.specs.declared.bus_fields.BusFields.{BusFields}
use Rattle.pals_bus.specs.proof.BusInvariant.{IsBusInvariant, run_of, state_of}
use Rattle.pals_bus.proofs.NodeChanges.{node_here}

pub within_nodes : (f : BusFields) (node : ℕ) → IsBusInvariant f → node < length (arc_value f.design).components
    → node < length f.nodes
within_nodes f node keeps within = let count = keeps.nodes.count in omega (arith, count, within)

-- the state of a node
pub state_is : (f : BusFields) (node : ℕ) (n : NodeValue) → IsBusInvariant f
    → node < length (arc_value f.design).components
    → n ≡ slice_index_or f.nodes node n → n.state ≡ node_at (state_of f) node
state_is f node n keeps within is =
    ap (λ (m : NodeValue). m.state) (node_here f node n keeps (within_nodes f node keeps within) is)

pub agrees : (f : BusFields) → IsBusInvariant f → Agrees (run_of f) (state_of f)
agrees f keeps =
    replay_agrees (run_of f) f.journal.items (state_of f) (record { design = keeps.design; rounds = keeps.rounds.0 })
    keeps.replays

pub many_states : (f : BusFields) → IsBusInvariant f
    → length (state_of f).nodes ≡ length (arc_value f.design).components
many_states f keeps = length-map f.nodes (λ (n : NodeValue). n.state) ∙ keeps.nodes.count

-- a node has finished no more rounds than it has started
parts_in : (run : Run) (node : ℕ) (c : Component) (n : NodeState) (p : Phase) → PhaseAgrees run node c n p
    → length n.parts ≤ n.count
parts_in run node c n Waiting agree = let e = agree.0.finished in omega (arith, e)
parts_in run node c n (Running step) agree = let e = agree.finished in omega (arith, e)
parts_in run node c n (Between steps) agree = let e = agree.0.finished in omega (arith, e)
parts_in run node c n Holding agree = let e = agree.finished in omega (arith, e)
parts_in run node c n Done agree = let e = agree.0.finished in omega (arith, e)

pub parts_few : (f : BusFields) (node : ℕ) → IsBusInvariant f → node < length (arc_value f.design).components
    → length (node_at (state_of f) node).parts ≤ ROUNDS
parts_few f node keeps within =
    let c = component_at (arc_value f.design) node in
    let is : slice_get (arc_value f.design).components node ≡ Some c =
    slice_get-get_or (arc_value f.design).components node no_component within in
    let here = (agrees f keeps).nodes node c is in
    let few = parts_in (run_of f) node c (node_at (state_of f) node) (node_at (state_of f) node).phase here.phase in
    let started = here.rounds in
    let most = keeps.rounds.1 in
    omega (arith, few, started, most)
