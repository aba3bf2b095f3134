use Rattle.std.proofs.Common.{◌≡◌, drop}
use Rattle.std.specs.List.{flat_map}
use Rattle.aadl_tree.specs.proof.ValueViews.{associations_view}
use Rattle.aadl_tree.specs.proof.PlaceMaps.{kept_place}
use Rattle.aadl_names.specs.proof.FirstFaultSoFar.{found}
use Rattle.aadl_names.specs.RecognisedProperties.{listed, shape_fault}
use Rattle.name_faults.proofs.properties.check_shapes.Given as goal

-- the remaining part is still to be checked
abbrev pub invariant-loop-association : goal.invariant-loop-association
invariant-loop-association l =
    found l.initial.finder (flat_map (shape_fault l.holder) (listed (associations_view kept_place l.list)))
    ≡ found l.finder (flat_map (shape_fault l.holder)
    (listed (associations_view kept_place (drop l.association-index l.list))))
