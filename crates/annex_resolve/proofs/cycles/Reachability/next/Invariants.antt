use Rattle.std.proofs.Common.{◌≡◌, ◌+◌, map}
use Rattle.pals_base.specs.UpwardNumbers.{upwards}
use Rattle.annex_resolve.specs.proof.ReachabilityTables.{row_of}
use Rattle.annex_resolve.proofs.cycles.Reachability.next.Given as goal

abbrev pub invariant-loop-state : goal.invariant-loop-state
invariant-loop-state l = l.rows ≡ map (row_of (l.self.between + 1) l.parts) (upwards 0 l.state)
