use Rattle.loose_world.proofs.LinksFromNodes.{AreFirstLinks}
use Rattle.loose_world.proofs.message_text.OutLinks.new.Given as goal

-- the links of the first nodes are there
abbrev pub invariant-loop-node : goal.invariant-loop-node
invariant-loop-node l = AreFirstLinks l.design l.node l.nodes
