use Rattle.std.proofs.Common.{refl, map}
use Rattle.std.specs.List.{flat_map}
use Rattle.aadl_tree.specs.proof.AnnexViews.{variable_view}
use Rattle.aadl_tree.specs.proof.PlaceMaps.{kept_place}
use Rattle.aadl_names.specs.PackageNameFaults as spec
use Rattle.aadl_names.proofs.FirstFaultSoFar.{next_found}
use Rattle.name_faults.proofs.annexes.check_variable_list.Goals as goal

pub loop-variable-preserved : goal.loop-variable-preserved
loop-variable-preserved c =
    next_found (λ xs. flat_map spec.variable_faults (map (variable_view kept_place) xs))
    (λ x. spec.variable_faults (variable_view kept_place x))
    (λ x xs. refl) _ _ _ _ _ _
    c.loop-variable-test.true c.variable-item.is c.loop-variable.invariant c.in_ok-check_variable.ensures
