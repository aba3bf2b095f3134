use Rattle.std.proofs.Common.{◌≡◌, ℕ, ◌<◌, ◌≤◌, Some}
use Rattle.run_laws.specs.Runs.{target_of}
use Rattle.node_threads.proofs.sleepers.least_target.Given as goal

-- the targets of the nodes so far are no less
abbrev pub invariant-loop-number : goal.invariant-loop-number
invariant-loop-number l =
    (other least : ℕ) → other < l.number → target_of l.course.bus.run l.course.bus.state other ≡ Some least
    → l.least ≤ least
