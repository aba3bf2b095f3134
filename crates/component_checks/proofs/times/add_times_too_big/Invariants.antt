use Rattle.std.proofs.Common.{◌≡◌, ◌++◌, drop}
use Rattle.aadl_tree.specs.proof.ValueViews.{associations_view}
use Rattle.aadl_tree.specs.proof.PlaceMaps.{kept_place}
use Rattle.component_checks.specs.Times.{list_big}
use Rattle.component_checks.proofs.times.add_times_too_big.Given as goal

-- the remaining associations are still to be added
abbrev pub invariant-loop-association : goal.invariant-loop-association
invariant-loop-association l =
    l.fn.found ++ list_big l.holder (associations_view kept_place l.list)
    ≡ l.found ++ list_big l.holder (associations_view kept_place (drop l.association-index l.list))
