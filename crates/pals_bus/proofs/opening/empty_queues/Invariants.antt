use Rattle.std.proofs.Common.{◌≡◌, map, take}
use Rattle.pals_node.specs.proof.NodeAndJobValues.{NodeValue}
use Rattle.pals_bus.specs.proof.OutOfRangeDefaults.{no_queue}
use Rattle.pals_bus.proofs.opening.empty_queues.Given as goal

-- the queue of each node so far is empty
abbrev pub invariant-loop-node : goal.invariant-loop-node
invariant-loop-node l = l.queues ≡ map (λ (_ : NodeValue). no_queue) (take l._node-index l.nodes)
