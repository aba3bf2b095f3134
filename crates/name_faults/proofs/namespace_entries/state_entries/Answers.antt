use Rattle.std.proofs.Common.{refl, map, ap, ◌∙◌}
use Rattle.aadl_tree.specs.Names.{identifiers}
use Rattle.aadl_tree.specs.proof.AnnexViews.{state_view}
use Rattle.aadl_tree.specs.proof.PlaceMaps.{kept_place}
use Rattle.std.specs.List.{flat_map}
use Rattle.aadl_names.specs.DuplicateNames.{entry_of}
use Rattle.aadl_names.proofs.ListBuildingLoops.{next_added, last_added}
use Rattle.std.proofs.lemmas.List.{map-append}
use Rattle.name_faults.proofs.namespace_entries.state_entries.Goals as goal

pub loop-declaration-preserved : goal.loop-declaration-preserved
loop-declaration-preserved c =
    next_added (λ xs. map entry_of (flat_map (λ d. identifiers d.names) (map (state_view kept_place) xs)))
    (λ x. map entry_of (identifiers (state_view kept_place x).names))
    (λ x xs. map-append entry_of (identifiers (state_view kept_place x).names)
    (flat_map (λ d. identifiers d.names) (map (state_view kept_place) xs))) _
    _ _ _ _ _
    c.loop-declaration-test.true c.declaration-item.is c.loop-declaration.invariant c.in_ok-add_words.ensures

pub returns : goal.returns
returns c =
    last_added (λ xs. map entry_of (flat_map (λ d. identifiers d.names) (map (state_view kept_place) xs))) _ _ _ _
    c.loop-declaration-test.false
    refl c.loop-declaration.invariant
    ∙ ap (λ ds. map entry_of (flat_map (λ d. identifiers d.names) ds)) c.states_in-declaration-items.ensures
