use Rattle.std.proofs.Common.{◌≡◌, drop}
use Rattle.aadl_tree.specs.proof.ValueViews.{associations_view}
use Rattle.aadl_tree.specs.proof.PlaceMaps.{kept_place}
use Rattle.aadl_names.specs.RecognisedProperties.{association_named, name_of}
use Rattle.component_checks.proofs.property_lookup.property_in.Given as goal

-- the remaining associations determine the result
abbrev pub invariant-loop-association : goal.invariant-loop-association
invariant-loop-association l =
    association_named (associations_view kept_place (drop l.association-index l.list)) (name_of l.property)
    ≡ association_named (associations_view kept_place l.list) (name_of l.property)
