use Rattle.std.proofs.Common.{refl}
use Rattle.aadl_tree.specs.Values.{associate, no_associations}
use Rattle.aadl_tree.specs.proof.ValueViews.{association_view, associations_view}
use Rattle.aadl_tree.specs.proof.PlaceMaps.{kept_place}
use Rattle.aadl_names.specs.RecognisedProperties.{property_entries}
use Rattle.aadl_names.proofs.ListBuildingLoops.{next_added, last_added}
use Rattle.name_faults.proofs.PropertyEntries.{entries-cons}
use Rattle.name_faults.proofs.properties.property_entries.Goals as goal

pub loop-association-preserved : goal.loop-association-preserved
loop-association-preserved c =
    next_added (λ xs. property_entries (associations_view kept_place xs))
    (λ x. property_entries (associate (association_view kept_place x) no_associations))
    (λ x xs. entries-cons (association_view kept_place x) (associations_view kept_place xs)) _ _ _ _ _ _
    c.loop-association-test.true c.association-item.is c.loop-association.invariant c.in_ok-add_property.ensures

pub returns : goal.returns
returns c =
    last_added (λ xs. property_entries (associations_view kept_place xs)) _ _ _ _ c.loop-association-test.false refl
    c.loop-association.invariant
