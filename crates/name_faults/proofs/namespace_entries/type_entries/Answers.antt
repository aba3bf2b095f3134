use Rattle.std.proofs.Common.{refl, ◌∷◌, [], map, ap, ◌∙◌}
use Rattle.aadl_tree.specs.proof.DeclarationViews.{declaration_view}
use Rattle.aadl_tree.specs.proof.PlaceMaps.{kept_place}
use Rattle.std.specs.List.{filter_map}
use Rattle.aadl_names.specs.DuplicatesByNamespace.{type_entry}
use Rattle.aadl_names.proofs.ListBuildingLoops.{next_added, last_added}
use Rattle.std.proofs.lemmas.List.Elements.{filter_map-append}
use Rattle.name_faults.proofs.namespace_entries.type_entries.Goals as goal

pub loop-declaration-preserved : goal.loop-declaration-preserved
loop-declaration-preserved c =
    next_added (λ xs. filter_map type_entry (map (declaration_view kept_place) xs))
    (λ x. filter_map type_entry (declaration_view kept_place x ∷ []))
    (λ x xs. filter_map-append type_entry (declaration_view kept_place x ∷ [])
    (map (declaration_view kept_place) xs)) _ _ _ _ _ _
    c.loop-declaration-test.true c.declaration-item.is c.loop-declaration.invariant c.in_ok-add_type.ensures

pub returns : goal.returns
returns c =
    last_added (λ xs. filter_map type_entry (map (declaration_view kept_place) xs)) _ _ _ _
    c.loop-declaration-test.false refl
    c.loop-declaration.invariant
    ∙ ap (λ ds. filter_map type_entry (map (declaration_view kept_place) ds)) c.deref-declaration-items.ensures.value
