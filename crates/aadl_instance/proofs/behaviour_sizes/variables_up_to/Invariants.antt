use Rattle.std.proofs.Common.{◌≡◌, min, take}
use Rattle.aadl_tree.specs.Names.{identifiers}
use Rattle.aadl_tree.specs.proof.PlaceMaps.{kept_place}
use Rattle.aadl_tree.specs.proof.AnnexViews.{variable_view}
use Rattle.aadl_instance.proofs.DeclaredNameCounts.{words}
use Rattle.aadl_instance.proofs.behaviour_sizes.variables_up_to.Given as goal

abbrev pub invariant-loop-declared : goal.invariant-loop-declared
invariant-loop-declared l =
    l.count ≡ min l.limit (words (λ v. identifiers v.names) (variable_view kept_place)
    (take l.declared-index l.declared-items))
