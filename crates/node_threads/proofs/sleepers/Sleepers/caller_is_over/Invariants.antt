use Rattle.std.proofs.Common.{◌≡◌, ℕ, ◌<◌, true}
use Rattle.node_threads.specs.proof.SharedCourses.{IsOpen, IsDone}
use Rattle.node_threads.specs.proof.Sleepers.{slot_at}
use Rattle.node_threads.proofs.sleepers.Sleepers.caller_is_over.Given as goal

-- the nodes so far that the calling thread has are done, or can't continue
abbrev pub invariant-loop-number : goal.invariant-loop-number
invariant-loop-number l =
    (k : ℕ) → k < l.number → IsOpen l.course k → (slot_at l.self.threads k).of_caller ≡ true → IsDone l.course k
