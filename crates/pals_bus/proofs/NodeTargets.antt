-- For `Bus::target` and `meet`: the reading that a node of a bus waits for is in the list of targets.
use Rattle.std.proofs.Common.{◌≡◌, ◌∙◌, inl, inr, ℕ, ◌<◌, List, length, map, Option, None, false, is_some, sym, ap}
use Rattle.std.proofs.Common.{subst, arith}
use Rattle.std.specs.Prelude.{slice_index_or}
use Rattle.std.proofs.lemmas.Bool.{false≢true}
use Rattle.std.proofs.lemmas.List.{length-map, get_or-map}
use Rattle.list_lemmas.proofs.Options.{none_unless_some}
use Rattle.pals_bus.specs.declared.bus_fields.BusFields.{BusFields}
use Rattle.pals_bus.specs.proof.BusInvariant.{IsBusInvariant, value_of}
use Rattle.pals_bus.specs.BusValues.{BusValue}
use Rattle.pals_bus.specs.proof.OutOfRangeDefaults.{no_node_value}
use Rattle.pals_bus.specs.proof.NodeLists.{target_of_node}
use Rattle.pals_bus.proofs.NodeChanges.{node_is}
use Rattle.pals_bus.specs.proof.Meeting.{target_in, HasEnded}

-- that of a node is the one in the list
pub target_listed : (f : BusFields) (b : BusValue) (targets : List (Option ℕ)) (node : ℕ) (o : Option ℕ)
    → IsBusInvariant f
    → value_of f ≡ b → targets ≡ map target_of_node f.nodes → node < length f.nodes
    → slice_index_or targets node None ≡ o → target_in b node ≡ o
target_listed f b targets node o keeps shows are within is =
    subst (λ (v : BusValue). target_in v node ≡ o) shows
    (ap target_of_node (sym (node_is f node keeps within))
    ∙ sym (get_or-map target_of_node f.nodes node no_node_value None within)
    ∙ ap (λ (ts : List (Option ℕ)). slice_index_or ts node None) (sym are)
    ∙ is)

pub within_list : (f : BusFields) (targets : List (Option ℕ)) (node : ℕ) → targets ≡ map target_of_node f.nodes
    → node < length targets → node < length f.nodes
within_list f targets node are within = let size = ap length are ∙ length-map f.nodes target_of_node in
    omega (arith, size, within)

pub all_listed : (f : BusFields) (b : BusValue) (targets : List (Option ℕ)) (node : ℕ) → IsBusInvariant f
    → value_of f ≡ b
    → targets ≡ map target_of_node f.nodes → node < length b.run.design.components → node < length targets
all_listed f b targets node keeps shows are within =
    let size = ap length are ∙ length-map f.nodes target_of_node in
    let count = keeps.nodes.count ∙ ap (λ (v : BusValue). length v.run.design.components) shows in
    omega (arith, size, count, within)

pub within_run : (f : BusFields) (b : BusValue) → IsBusInvariant f → value_of f ≡ b → (node : ℕ) → node < length f.nodes
    → node < length b.run.design.components
within_run f b keeps shows node within =
    let count = keeps.nodes.count ∙ ap (λ (v : BusValue). length v.run.design.components) shows in
    omega (arith, count, within)

-- ---- the run continues
pub still_going : (b : BusValue) → b.closed ≡ false → is_some b.state.stop ≡ false → HasEnded b → ⊥
still_going b not_closed none (inl stopped) = stopped (none_unless_some b.state.stop none)
still_going b not_closed none (inr closed) = false≢true (sym not_closed ∙ closed)
