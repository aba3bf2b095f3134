use Rattle.std.proofs.Common.{ℕ, ◌<◌}
use Rattle.bus_machine.specs.Plans.{link_at}
use Rattle.node_threads.specs.proof.SharedCourses.{IsSentOn}
use Rattle.node_threads.proofs.course.SharedRun.is_awaited.Given as goal

-- the sources of the links so far have sent
abbrev pub invariant-loop-number : goal.invariant-loop-number
invariant-loop-number l = (k : ℕ) → k < l.number → IsSentOn l.self l.node.0 (link_at l.self.bus.run.design k)
