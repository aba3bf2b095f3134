use Rattle.std.proofs.Common.{refl}
use Rattle.aadl_names.proofs.ListBuildingLoops.{next_added}
use Rattle.aadl_tree.specs.proof.ValueViews.{association_view, associations_view}
use Rattle.aadl_tree.specs.proof.PlaceMaps.{kept_place}
use Rattle.model_violations.specs.IgnoredProperties.{association_ignored, ignored_in}
use Rattle.model_violations.proofs.ignored_list_properties.add_list.Goals as goal

pub loop-association-preserved : goal.loop-association-preserved
loop-association-preserved c =
    next_added (λ xs. ignored_in c.args.holder (associations_view kept_place xs))
    (λ x. association_ignored c.args.holder (association_view kept_place x)) (λ x xs. refl) c.args.list.now
    c.loop-association.association-index _ _ _ _
    c.loop-association-test.true c.association-item.is c.loop-association.invariant c.in_ok-add_association.ensures
