use Rattle.node_threads.proofs.CourseOpenings.{AreUnpicked}
use Rattle.node_threads.proofs.clocks.unpicked_lists.Given as goal

-- the lists so far are fresh
abbrev pub invariant-loop-list : goal.invariant-loop-list
invariant-loop-list l = AreUnpicked l.lists l.list-index l.fresh
