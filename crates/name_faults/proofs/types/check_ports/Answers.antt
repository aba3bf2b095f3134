use Rattle.std.proofs.Common.{refl, map}
use Rattle.std.specs.List.{flat_map}
use Rattle.aadl_tree.specs.proof.DeclarationViews.{feature_view}
use Rattle.aadl_tree.specs.proof.PlaceMaps.{kept_place}
use Rattle.aadl_names.specs.PackageNameFaults as spec
use Rattle.aadl_names.proofs.FirstFaultSoFar.{next_found}
use Rattle.name_faults.proofs.types.check_ports.Goals as goal

pub loop-port-preserved : goal.loop-port-preserved
loop-port-preserved c =
    next_found (λ xs. flat_map spec.port_faults (map (feature_view kept_place) xs))
    (λ x. spec.port_faults (feature_view kept_place x)) (λ x xs. refl) _ _ _
    _ _ _
    c.loop-port-test.true c.port-item.is c.loop-port.invariant c.in_ok-check_port.ensures
