use Rattle.std.proofs.Common.{◌≡◌, map, take}
use Rattle.pals_bus.specs.proof.NodeLists.{target_of_node}
use Rattle.pals_bus.proofs.node_list.targets_of.Given as goal

-- the targets of the first nodes are there
abbrev pub invariant-loop-node : goal.invariant-loop-node
invariant-loop-node l = l.targets ≡ map target_of_node (take l.node-index l.nodes)
