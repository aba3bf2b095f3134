use Rattle.std.proofs.Common.{◌≡◌, map, drop}
use Rattle.std.specs.List.{flat_map}
use Rattle.aadl_tree.specs.proof.AnnexViews.{annex_view}
use Rattle.aadl_tree.specs.proof.PlaceMaps.{kept_place}
use Rattle.aadl_names.specs.proof.FirstFaultSoFar.{found}
use Rattle.aadl_names.specs.PackageNameFaults as spec
use Rattle.name_faults.proofs.annexes.check_variables.Given as goal

-- the remaining part is still to be checked
abbrev pub invariant-loop-annex : goal.invariant-loop-annex
invariant-loop-annex l =
    found l.initial.finder (flat_map spec.variables_faults (map (annex_view kept_place) l.annexes))
    ≡ found l.finder (flat_map spec.variables_faults (map (annex_view kept_place) (drop l.annex-index l.annexes)))
