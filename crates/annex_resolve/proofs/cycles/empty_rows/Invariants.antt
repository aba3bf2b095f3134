use Rattle.std.proofs.Common.{◌≡◌, false, replicate}
use Rattle.annex_resolve.proofs.cycles.empty_rows.Given as goal

abbrev pub invariant-loop-state : goal.invariant-loop-state
invariant-loop-state l = l.rows ≡ replicate l._state (replicate l.count false)
