-- Whether all nodes of a bus are done, and the minimum number of rounds that they have finished, node by node.
use Rattle.std.proofs.Common.{◌≡◌, ◌∙◌, ℕ, ◌+◌, ◌<◌, ◌≤◌, Bool, true, false, ◌&&◌, List, length, fold, drop, sym, ap}
use Rattle.std.specs.Prelude.{min}
use Rattle.std.specs.List.{list_all}
use Rattle.std.proofs.lemmas.List.{drop_all, drop_more}
use Rattle.bus_machine.specs.Nodes.{NodeState}
use Rattle.bus_machine.specs.BusStates.{BusState, no_node, node_at}
use Rattle.run_laws.specs.TraceVerdicts.{is_done}

abbrev pub are_done : List NodeState → Bool
are_done nodes = list_all (λ (n : NodeState). is_done n.phase) nodes

abbrev pub least_of : ℕ → List NodeState → ℕ
least_of rounds nodes = fold (λ least (n : NodeState). min least (length n.parts)) rounds nodes

pub least_more : (s : BusState) (i rounds next all : ℕ) → i < length s.nodes
    → next ≡ min rounds (length (node_at s i).parts) → least_of rounds (drop i s.nodes) ≡ all
    → least_of next (drop (i + 1) s.nodes) ≡ all
least_more s i rounds next all within is before =
    ap (λ k. least_of k (drop (i + 1) s.nodes)) is
    ∙ sym (ap (least_of rounds) (drop_more s.nodes i no_node within)) ∙ before

pub least_end : (s : BusState) (i rounds all : ℕ) → length s.nodes ≤ i → least_of rounds (drop i s.nodes) ≡ all
    → rounds ≡ all
least_end s i rounds all past before = sym (ap (least_of rounds) (drop_all i s.nodes past)) ∙ before

pub done_more : (s : BusState) (i : ℕ) (all : Bool) → i < length s.nodes → is_done (node_at s i).phase ≡ true
    → are_done (drop i s.nodes) ≡ all → are_done (drop (i + 1) s.nodes) ≡ all
done_more s i all within is before =
    sym (ap are_done (drop_more s.nodes i no_node within) ∙ ap (λ b. b && are_done (drop (i + 1) s.nodes)) is) ∙ before

pub one_undone : (s : BusState) (i : ℕ) (all : Bool) → i < length s.nodes → is_done (node_at s i).phase ≡ false
    → are_done (drop i s.nodes) ≡ all → false ≡ all
one_undone s i all within is before =
    sym (ap are_done (drop_more s.nodes i no_node within) ∙ ap (λ b. b && are_done (drop (i + 1) s.nodes)) is) ∙ before

pub done_end : (s : BusState) (i : ℕ) (all : Bool) → length s.nodes ≤ i → are_done (drop i s.nodes) ≡ all → true ≡ all
done_end s i all past before = sym (ap are_done (drop_all i s.nodes past)) ∙ before
