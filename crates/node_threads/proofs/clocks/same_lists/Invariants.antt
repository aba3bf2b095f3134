use Rattle.std.proofs.Common.{◌≡◌, ℕ, ◌<◌}
use Rattle.run_laws.specs.Runs.{clock_at}
use Rattle.node_threads.proofs.clocks.same_lists.Given as goal

-- the lists so far have equal readings
abbrev pub invariant-loop-place : goal.invariant-loop-place
invariant-loop-place l = (k : ℕ) → k < l.place → (clock_at l.left k).readings ≡ (clock_at l.right k).readings
