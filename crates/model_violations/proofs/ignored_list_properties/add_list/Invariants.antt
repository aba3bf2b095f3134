use Rattle.std.proofs.Common.{◌≡◌, ◌++◌, drop}
use Rattle.aadl_tree.specs.proof.ValueViews.{associations_view}
use Rattle.aadl_tree.specs.proof.PlaceMaps.{kept_place}
use Rattle.model_violations.specs.IgnoredProperties.{ignored_in}
use Rattle.model_violations.proofs.ignored_list_properties.add_list.Given as goal

-- the remaining associations are still to be added
abbrev pub invariant-loop-association : goal.invariant-loop-association
invariant-loop-association l =
    l.fn.found ++ ignored_in l.holder (associations_view kept_place l.list)
    ≡ l.found ++ ignored_in l.holder (associations_view kept_place (drop l.association-index l.list))
