use Rattle.std.proofs.Common.{map, arith}
use Rattle.std.proofs.lemmas.List.{length-map}
use Rattle.aadl_tree.specs.proof.ValueViews.{value_view}
use Rattle.aadl_tree.specs.proof.PlaceMaps.{kept_place}
use Rattle.name_faults.proofs.ValueShapes.{no_only_text}
use Rattle.name_faults.proofs.property_value_shapes.is_initial_only.Goals as goal

pub returns-in_default-2 : goal.returns-in_default-2
returns-in_default-2 c =
    no_only_text (map (value_view kept_place) c.args.values.now) (rw length-map (omega arith))
