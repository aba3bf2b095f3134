-- One of the nodes of a run changes, and its target with it.
use Rattle.std.proofs.Common.{◌≡◌, ◌∙◌, ℕ, ◌<◌, List, length, map, Option, Some, refl, sym, ap, ap₂}
use Rattle.std.specs.Prelude.{option_map, slice_set, slice_index_or}
use Rattle.std.proofs.Math.Seq.{map-set_same}
use Rattle.std.proofs.lemmas.List.{map-set, get_or_default}
use Rattle.std.proofs.lemmas.Grind.{get_or-set_at}
use Rattle.pals_base.specs.declared.basic_types.PortValue.{PortValue}
use Rattle.pals_runs.specs.declared.journal.Arrived.{Arrived}
use Rattle.pals_runs.specs.declared.journal.Arrived.TheVariants.{Kept, Ignored, Early}
use Rattle.pals_runs.specs.declared.phase.Phase.{Phase}
use Rattle.pals_runs.specs.declared.phase.Phase.TheVariants.{Waiting, Running, Between, Holding, Done}
use Rattle.bus_machine.specs.declared.plan.Plan.{Plan}
use Rattle.bus_machine.specs.Nodes.{NodeState}
use Rattle.bus_machine.specs.NodeEvents.{with_message, arrived, received}
use Rattle.bus_machine.specs.ActionsAndTargets.{target, action_in}
use Rattle.pals_node.specs.proof.NodeAndJobValues.{NodeValue, with_state}
use Rattle.pals_bus.specs.proof.OutOfRangeDefaults.{no_node_value}
use Rattle.pals_bus.specs.proof.NodeLists.{node_of, target_of_node}

-- the targets are the targets of the nodes, once the changed node's target is set
pub targets_kept : (nodes : List NodeValue) (targets kept : List (Option ℕ)) (node : ℕ) (m : NodeValue)
    → targets ≡ map target_of_node nodes → node < length nodes
    → kept ≡ slice_set targets node (target_of_node (node_of (slice_set nodes node m) node))
    → kept ≡ map target_of_node (slice_set nodes node m)
targets_kept nodes targets kept node m are within put =
    put
    ∙ ap₂ (λ (ts : List (Option ℕ)) (n : NodeValue). slice_set ts node (target_of_node n)) are
    (get_or-set_at nodes node node m no_node_value refl within)
    ∙ sym (map-set target_of_node nodes node m)

-- ---- a message that comes leaves the target
same_action : (plan : Plan) (n : NodeState) (slots : List (Option (List PortValue))) (p : Phase)
    → action_in plan (record n { slots = slots }) p ≡ action_in plan n p
same_action plan n slots Waiting = refl
same_action plan n slots (Running step) = refl
same_action plan n slots (Between steps) = refl
same_action plan n slots Holding = refl
same_action plan n slots Done = refl

same_target : (n : NodeValue) (port : ℕ) (tuple : List PortValue) (a : Arrived)
    → target_of_node (with_state n (with_message n.state port tuple a)) ≡ target_of_node n
same_target n port tuple Kept =
    ap (option_map (target n.program.plan))
    (same_action n.program.plan n.state (slice_set n.state.slots port (Some tuple)) n.state.phase)
same_target n port tuple Ignored = refl
same_target n port tuple Early = refl

pub targets_stay : (nodes : List NodeValue) (targets : List (Option ℕ)) (node port round : ℕ) (tuple : List PortValue)
    (n m : NodeValue) → targets ≡ map target_of_node nodes → node < length nodes → n ≡ slice_index_or nodes node n
    → m ≡ with_state n (received n.state port round tuple) → targets ≡ map target_of_node (slice_set nodes node m)
targets_stay nodes targets node port round tuple n m are within is comes =
    let stays : target_of_node m ≡ target_of_node (node_of nodes node) =
    ap target_of_node comes ∙ same_target n port tuple (arrived n.state port round)
    ∙ ap target_of_node (is ∙ get_or_default nodes node n no_node_value within) in
    are ∙ sym (map-set_same target_of_node nodes node m no_node_value stays)
