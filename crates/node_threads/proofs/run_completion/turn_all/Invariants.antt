use Rattle.node_threads.specs.proof.SharedCourses.{Stays}
use Rattle.node_threads.proofs.run_completion.turn_all.Given as goal

-- the run and its lists stay
abbrev pub invariant-loop-number : goal.invariant-loop-number
invariant-loop-number g l = Stays l.fn.course l.course
