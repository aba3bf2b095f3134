use Rattle.std.proofs.Common.{ℕ, ◌<◌}
use Rattle.node_threads.specs.proof.Sleepers.{IsAbove}
use Rattle.node_threads.proofs.sleepers.Sleepers.some_at_hour.Given as goal

-- the targets of the nodes so far are above the hour
abbrev pub invariant-loop-number : goal.invariant-loop-number
invariant-loop-number l = (k : ℕ) → k < l.number → IsAbove l.course.bus.run l.course.bus.state l.self.hour k
