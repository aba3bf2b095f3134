use Rattle.std.proofs.Common.{◌≢◌, ℕ, ◌<◌, None}
use Rattle.node_threads.specs.proof.NodeEndsAndOutcomes.{end_in}
use Rattle.node_threads.proofs.course.SharedRun.is_over.Given as goal

-- the parts of the nodes so far have ended
abbrev pub invariant-loop-node : goal.invariant-loop-node
invariant-loop-node l = (k : ℕ) → k < l.node → end_in l.self k ≢ None
