use Rattle.node_threads.proofs.NodeEnds.{AreEnds}
use Rattle.node_threads.proofs.course.SharedRun.ends.Given as goal

-- the ends so far are the ends of the nodes
abbrev pub invariant-loop-node : goal.invariant-loop-node
invariant-loop-node l = AreEnds l.self l.ends l.node
