use Rattle.std.proofs.Common.{refl, ◌∷◌, [], map}
use Rattle.aadl_tree.specs.proof.DeclarationViews.{feature_view}
use Rattle.aadl_tree.specs.proof.PlaceMaps.{kept_place}
use Rattle.aadl_names.specs.DuplicateNames.{entry_of}
use Rattle.aadl_names.specs.DuplicatesByNamespace.{port_entries}
use Rattle.aadl_names.proofs.ListBuildingLoops.{next_added, last_added}
use Rattle.name_faults.proofs.namespace_entries.port_entries.Goals as goal

pub loop-port-preserved : goal.loop-port-preserved
loop-port-preserved c =
    next_added (λ xs. port_entries (map (feature_view kept_place) xs))
    (λ x. entry_of (feature_view kept_place x).name ∷ []) (λ x xs. refl) _ _ _ _ _ _
    c.loop-port-test.true c.port-item.is c.loop-port.invariant c.in_ok-add_word.ensures

pub returns : goal.returns
returns c =
    last_added (λ xs. port_entries (map (feature_view kept_place) xs)) _ _ _ _ c.loop-port-test.false refl
    c.loop-port.invariant
