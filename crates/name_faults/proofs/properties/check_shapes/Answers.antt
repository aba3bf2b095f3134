use Rattle.std.proofs.Common.{refl}
use Rattle.std.specs.List.{flat_map}
use Rattle.aadl_tree.specs.proof.ValueViews.{association_view, associations_view}
use Rattle.aadl_tree.specs.proof.PlaceMaps.{kept_place}
use Rattle.aadl_names.specs.RecognisedProperties.{listed, shape_fault}
use Rattle.aadl_names.proofs.FirstFaultSoFar.{next_found}
use Rattle.name_faults.proofs.properties.check_shapes.Goals as goal

pub loop-association-preserved : goal.loop-association-preserved
loop-association-preserved c =
    next_found (λ xs. flat_map (shape_fault c.args.holder) (listed (associations_view kept_place xs)))
    (λ x. shape_fault c.args.holder (association_view kept_place x)) (λ x xs. refl) _ _ _ _ _ _
    c.loop-association-test.true c.association-item.is c.loop-association.invariant c.check_property.ensures
