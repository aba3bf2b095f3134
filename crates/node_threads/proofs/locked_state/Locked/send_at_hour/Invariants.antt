use Rattle.node_threads.specs.proof.SharedCourses.{Stays}
use Rattle.node_threads.proofs.locked_state.Locked.send_at_hour.Given as goal

-- the run stays
abbrev pub invariant-loop-number : goal.invariant-loop-number
invariant-loop-number g l = Stays l.fn.self.course l.self.course
