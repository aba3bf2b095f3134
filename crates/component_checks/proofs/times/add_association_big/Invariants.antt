use Rattle.std.proofs.Common.{◌≡◌, ◌++◌, take}
use Rattle.std.specs.Prelude.{flat_map}
use Rattle.aadl_tree.specs.proof.ValueViews.{association_view}
use Rattle.aadl_tree.specs.proof.PlaceMaps.{kept_place}
use Rattle.component_checks.specs.Times.{big_as}
use Rattle.component_checks.proofs.times.add_association_big.Given as goal

abbrev pub invariant-loop-property : goal.invariant-loop-property
invariant-loop-property l =
    l.found ≡ l.fn.found ++ flat_map (big_as (association_view kept_place l.association))
    (take l.property-index l.property-items)
