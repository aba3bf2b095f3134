use Rattle.std.proofs.Common.{◌≡◌, map, take}
use Rattle.aadl_tree.specs.proof.DeclarationViews.{feature_view}
use Rattle.aadl_tree.specs.proof.PlaceMaps.{kept_place}
use Rattle.model_violations.specs.PortsAndVariables.{ins_in}
use Rattle.model_violations.proofs.declared_ports.ins_in.Given as goal

abbrev pub invariant-loop-port : goal.invariant-loop-port
invariant-loop-port l = l.ins ≡ ins_in (map (feature_view kept_place) (take l.port-index l.ports))
