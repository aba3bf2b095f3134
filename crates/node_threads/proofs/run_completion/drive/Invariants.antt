use Rattle.node_threads.specs.proof.SharedCourses.{Stays}
use Rattle.node_threads.proofs.run_completion.drive.Given as goal

-- the run and its lists stay
abbrev pub invariant-loop : goal.invariant-loop
invariant-loop g l = Stays l.fn.course l.course
