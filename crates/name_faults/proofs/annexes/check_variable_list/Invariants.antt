use Rattle.std.proofs.Common.{◌≡◌, map, drop}
use Rattle.std.specs.List.{flat_map}
use Rattle.aadl_tree.specs.proof.AnnexViews.{variable_view}
use Rattle.aadl_tree.specs.proof.PlaceMaps.{kept_place}
use Rattle.aadl_names.specs.proof.FirstFaultSoFar.{found}
use Rattle.aadl_names.specs.PackageNameFaults as spec
use Rattle.name_faults.proofs.annexes.check_variable_list.Given as goal

-- the remaining part is still to be checked
abbrev pub invariant-loop-variable : goal.invariant-loop-variable
invariant-loop-variable l =
    found l.initial.finder (flat_map spec.variable_faults (map (variable_view kept_place) l.variables))
    ≡ found l.finder (flat_map spec.variable_faults
    (map (variable_view kept_place) (drop l.variable-index l.variables)))
