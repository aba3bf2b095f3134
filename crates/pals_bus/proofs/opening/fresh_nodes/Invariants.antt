use Rattle.std.proofs.Common.{◌≡◌, map, take}
use Rattle.pals_node.specs.proof.NodeAndJobValues.{NodeValue, opening_value}
use Rattle.pals_bus.proofs.opening.fresh_nodes.Given as goal

-- the first nodes are fresh
abbrev pub invariant-loop-node : goal.invariant-loop-node
invariant-loop-node l = l.fresh ≡ map (λ (n : NodeValue). opening_value n.program n.rounds) (take l.node-index l.nodes)
