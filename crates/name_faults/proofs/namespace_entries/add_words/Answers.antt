use Rattle.std.proofs.Common.{refl, ◌∷◌, [], map}
use Rattle.aadl_tree.specs.proof.NameViews.{identifier_view}
use Rattle.aadl_tree.specs.proof.PlaceMaps.{kept_place}
use Rattle.aadl_names.specs.DuplicateNames.{entry_of}
use Rattle.aadl_names.proofs.ListBuildingLoops.{next_added}
use Rattle.name_faults.proofs.namespace_entries.add_words.Goals as goal

pub loop-word-preserved : goal.loop-word-preserved
loop-word-preserved c =
    next_added (λ xs. map entry_of (map (identifier_view kept_place) xs))
    (λ x. entry_of (identifier_view kept_place x) ∷ []) (λ x xs. refl) _ _ _ _ _ _
    c.loop-word-test.true c.word-item.is c.loop-word.invariant c.in_ok-add_word-2.ensures
