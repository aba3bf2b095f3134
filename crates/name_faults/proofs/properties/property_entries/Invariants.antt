use Rattle.std.proofs.Common.{◌≡◌, ◌++◌, drop}
use Rattle.aadl_tree.specs.proof.ValueViews.{associations_view}
use Rattle.aadl_tree.specs.proof.PlaceMaps.{kept_place}
use Rattle.aadl_names.specs.RecognisedProperties.{property_entries}
use Rattle.name_faults.proofs.properties.property_entries.Given as goal

-- the remaining part is still to be added
abbrev pub invariant-loop-association : goal.invariant-loop-association
invariant-loop-association l =
    property_entries (associations_view kept_place l.list)
    ≡ l.entries ++ property_entries (associations_view kept_place (drop l.association-index l.list))
