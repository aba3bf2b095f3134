use Rattle.std.proofs.Common.{refl, ◌∷◌, [], map}
use Rattle.aadl_tree.specs.proof.DeclarationViews.{connection_view}
use Rattle.aadl_tree.specs.proof.PlaceMaps.{kept_place}
use Rattle.aadl_names.specs.DuplicateNames.{entry_of}
use Rattle.aadl_names.proofs.ListBuildingLoops.{next_added}
use Rattle.name_faults.proofs.namespace_entries.add_connections.Goals as goal

pub loop-connection-preserved : goal.loop-connection-preserved
loop-connection-preserved c =
    next_added (λ xs. map (λ d. entry_of d.name) (map (connection_view kept_place) xs))
    (λ x. entry_of (connection_view kept_place x).name ∷ [])
    (λ x xs. refl) _ _ _ _ _ _
    c.loop-connection-test.true c.connection-item.is c.loop-connection.invariant c.in_ok-add_word.ensures
