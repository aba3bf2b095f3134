use Rattle.std.proofs.Common.{◌≡◌, take}
use Rattle.annex_resolve.specs.proof.ReachabilityTables.{table_by}
use Rattle.annex_resolve.proofs.cycles.Reachability.first.Given as goal

-- the table of the first transitions
abbrev pub invariant-loop-transition : goal.invariant-loop-transition
invariant-loop-transition l = l.rows ≡ table_by l.parts (take l.transition-index l.transitions)
