use Rattle.std.proofs.Common.{◌≡◌, map, drop}
use Rattle.std.specs.List.{flat_map}
use Rattle.aadl_tree.specs.proof.DeclarationViews.{feature_view}
use Rattle.aadl_tree.specs.proof.PlaceMaps.{kept_place}
use Rattle.aadl_names.specs.proof.FirstFaultSoFar.{found}
use Rattle.aadl_names.specs.PackageNameFaults as spec
use Rattle.name_faults.proofs.types.check_ports.Given as goal

-- the remaining part is still to be checked
abbrev pub invariant-loop-port : goal.invariant-loop-port
invariant-loop-port l =
    found l.initial.finder (flat_map spec.port_faults (map (feature_view kept_place) l.ports))
    ≡ found l.finder (flat_map spec.port_faults (map (feature_view kept_place) (drop l.port-index l.ports)))
