use Rattle.std.proofs.Common.{refl, ◌∷◌, [], map}
use Rattle.aadl_tree.specs.proof.DeclarationViews.{subcomponent_view}
use Rattle.aadl_tree.specs.proof.PlaceMaps.{kept_place}
use Rattle.aadl_names.specs.DuplicateNames.{entry_of}
use Rattle.aadl_names.proofs.ListBuildingLoops.{next_added}
use Rattle.name_faults.proofs.namespace_entries.add_subcomponents.Goals as goal

pub loop-sub-preserved : goal.loop-sub-preserved
loop-sub-preserved c =
    next_added (λ xs. map (λ d. entry_of d.name) (map (subcomponent_view kept_place) xs))
    (λ x. entry_of (subcomponent_view kept_place x).name ∷ [])
    (λ x xs. refl) _ _ _ _ _ _
    c.loop-sub-test.true c.sub-item.is c.loop-sub.invariant c.in_ok-add_word.ensures
