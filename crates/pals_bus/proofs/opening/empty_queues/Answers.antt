use Rattle.pals_node.specs.proof.NodeAndJobValues.{NodeValue}
use Rattle.pals_bus.specs.proof.OutOfRangeDefaults.{no_queue, no_node_value}
use Rattle.pals_bus.proofs.Openings.{map_more}
use Rattle.pals_bus.proofs.opening.empty_queues.Goals as goal

pub loop-node-preserved : goal.loop-node-preserved
loop-node-preserved c =
    map_more (λ (_ : NodeValue). no_queue) c.args.nodes.now c.loop-node._node-index no_node_value c.loop-node.queues
    c.push.new.self c.in_ok-new.field-0 c.loop-node-test.true c.loop-node.invariant c.in_ok-new.ensures
    c.in_ok-push.ensures.ok
