use Rattle.std.proofs.Common.{refl, map}
use Rattle.std.specs.List.{flat_map}
use Rattle.aadl_tree.specs.proof.AnnexViews.{annex_view}
use Rattle.aadl_tree.specs.proof.PlaceMaps.{kept_place}
use Rattle.aadl_names.specs.PackageNameFaults as spec
use Rattle.aadl_names.proofs.FirstFaultSoFar.{next_found}
use Rattle.name_faults.proofs.annexes.check_variables.Goals as goal

pub loop-annex-preserved : goal.loop-annex-preserved
loop-annex-preserved c =
    next_found (λ xs. flat_map spec.variables_faults (map (annex_view kept_place) xs))
    (λ x. spec.variables_faults (annex_view kept_place x)) (λ x xs. refl)
    _ _ _ _ _ _
    c.loop-annex-test.true c.annex-item.is c.loop-annex.invariant c.in_ok-check_annex_variables.ensures
