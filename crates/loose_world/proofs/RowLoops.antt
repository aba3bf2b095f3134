-- For the loops of `row_text`: the rows of the first rounds, and the maximum and minimum number of rounds that the
-- first nodes have finished.
use Rattle.std.proofs.Common.{◌≡◌, ◌∙◌, ℕ, ◌+◌, ◌<◌, ◌≤◌, List, [], ◌∷◌, ◌++◌, length, map, take, fold, max, min, ap}
use Rattle.std.proofs.Common.{add-one, zero-add, append-nil}
use Rattle.std.specs.Prelude.{flat_map}
use Rattle.std.proofs.lemmas.List.{take_all}
use Rattle.std.proofs.lemmas.List.Concat.{flat_map-append}
use Rattle.std.proofs.lemmas.List.Sums.{fold-append, fold_more}
use Rattle.pals_base.specs.UpwardNumbers.{upwards}
use Rattle.pals_base.proofs.UpwardNumbers.{upwards-more, map_upwards_more}
use Rattle.pals_model.specs.RoundTexts.{line_end, row_lines, text_of}
use Rattle.bus_machine.specs.Nodes.{NodeState}
use Rattle.bus_machine.specs.BusStates.{node_at, no_node, finished_by_all}
use Rattle.pals_bus.specs.BusValues.{BusValue}
use Rattle.loose_world.specs.proof.FinishedRows.{part_of_round, lines_before}

-- ---- rows
pub rows_more : (b : BusValue) (round : ℕ)
    → text_of (lines_before b (round + 1))
    ≡ text_of (lines_before b round) ++ text_of (row_lines b.run.design (part_of_round b round) round)
rows_more b round =
    let f : ℕ → List (List ℕ) = λ r. row_lines b.run.design (part_of_round b r) r in
    let ends : List ℕ → List ℕ = λ line. line ++ line_end in
    ap (λ (ks : List ℕ). text_of (flat_map f ks))
    (ap (upwards 0) (add-one round) ∙ upwards-more 0 round
    ∙ ap (λ (k : ℕ). upwards 0 round ++ k ∷ []) (zero-add round))
    ∙ ap text_of (flat_map-append f (upwards 0 round) (round ∷ [])
    ∙ ap (λ (rows : List (List ℕ)). flat_map f (upwards 0 round) ++ rows) (append-nil (f round)))
    ∙ flat_map-append ends (flat_map f (upwards 0 round)) (f round)

-- ---- finished rounds
-- of the first nodes
abbrev pub finished_first : BusValue → ℕ → List ℕ
finished_first b first = map (λ (node : ℕ). length (node_at b.state node).parts) (upwards 0 first)

pub most_more : (b : BusValue) (first : ℕ)
    → fold max 0 (finished_first b (first + 1))
    ≡ max (fold max 0 (finished_first b first)) (length (node_at b.state first).parts)
most_more b first =
    let f : ℕ → ℕ = λ node. length (node_at b.state node).parts in
    ap (fold max 0) (map_upwards_more f first) ∙ fold-append max 0 (finished_first b first) (f first ∷ [])

-- the minimum over the first nodes and the run's rounds
abbrev pub least_first : BusValue → ℕ → ℕ
least_first b first = finished_by_all b.run (record b.state { nodes = take first b.state.nodes })

pub least_more : (b : BusValue) (first : ℕ) → first < length b.state.nodes
    → least_first b (first + 1) ≡ min (least_first b first) (length (node_at b.state first).parts)
least_more b first within =
    fold_more (λ (so_far : ℕ) (n : NodeState). min so_far (length n.parts)) b.run.rounds b.state.nodes first
    no_node within

pub least_all : (b : BusValue) (first : ℕ) → length b.state.nodes ≤ first
    → least_first b first ≡ finished_by_all b.run b.state
least_all b first past =
    ap (λ (ns : List NodeState). finished_by_all b.run (record b.state { nodes = ns }))
    (take_all first b.state.nodes past)
