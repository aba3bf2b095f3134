use Rattle.run_monitor.specs.proof.FormBits.{row_of}
use Rattle.run_monitor.proofs.SeveralMonitors.{GoneTo}
use Rattle.run_monitor.proofs.monitors.advance_each.Given as goal

-- the first monitors have advanced, and the others are unchanged
abbrev pub invariant-loop-at : goal.invariant-loop-at
invariant-loop-at l = GoneTo l.fn.monitors.items l.monitors.items (row_of l.parts) l.at
