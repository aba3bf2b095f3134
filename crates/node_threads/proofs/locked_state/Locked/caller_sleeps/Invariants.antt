use Rattle.std.proofs.Common.{◌≡◌}
use Rattle.node_threads.proofs.locked_state.Locked.caller_sleeps.Given as goal

-- the course stays
abbrev pub invariant-loop-number : goal.invariant-loop-number
invariant-loop-number g l = l.self.course ≡ l.fn.self.course
