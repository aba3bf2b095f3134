-- For TargetExamples: the targets of the example nodes, computed.
use Rattle.std.proofs.Common.{refl}
use Rattle.bus_machine.specs.proof.TargetExamples.{NodesHaveTargets}

pub nodes_have_targets : NodesHaveTargets
nodes_have_targets = record { slow = refl; fast = refl }
