use Rattle.std.proofs.Common.{refl}
use Rattle.aadl_names.proofs.ListBuildingLoops.{next_added}
use Rattle.aadl_tree.specs.proof.ValueViews.{association_view, associations_view}
use Rattle.aadl_tree.specs.proof.PlaceMaps.{kept_place}
use Rattle.component_checks.specs.Times.{counted_big, list_big}
use Rattle.component_checks.proofs.times.add_times_too_big.Goals as goal

pub loop-association-preserved : goal.loop-association-preserved
loop-association-preserved c =
    next_added (λ xs. list_big c.args.holder (associations_view kept_place xs))
    (λ x. counted_big c.args.holder (association_view kept_place x)) (λ x xs. refl) c.args.list.now
    c.loop-association.association-index _ _ _ _
    c.loop-association-test.true c.association-item.is c.loop-association.invariant c.in_ok-add_counted_big.ensures
