use Rattle.aadl_tree.specs.proof.PlaceMaps.{kept_place}
use Rattle.aadl_tree.specs.proof.DeclarationViews.{feature_view}
use Rattle.component_checks.specs.TypeFindings.{is_in}
use Rattle.model_violations.specs.PortsAndVariables.{port_of}
use Rattle.model_violations.proofs.FilteredAndFirstItems.{kept_next}
use Rattle.model_violations.proofs.declared_ports.ins_in.Goals as goal

pub loop-port-preserved : goal.loop-port-preserved
loop-port-preserved c =
    kept_next port_of is_in (feature_view kept_place) c.args.ports.now c.loop-port.port-index c.port-item.result _
    c.loop-port.ins _ c.loop-port-test.true c.port-item.is c.is_in.ensures c.loop-port.invariant
    c.in_ok-add_port.ensures
