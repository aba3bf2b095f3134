use Rattle.bus_machine.proofs.TargetExamples.{nodes_have_targets}
use Rattle.bus_machine.proofs.laws.node_targets.Goals as goal

pub returns : goal.returns
returns c = nodes_have_targets
