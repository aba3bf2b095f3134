use Rattle.std.proofs.Common.{◌≡◌, ◌+◌, map}
use Rattle.pals_base.specs.UpwardNumbers.{upwards}
use Rattle.annex_resolve.specs.IncompleteStateCycles.{reaches}
use Rattle.annex_resolve.proofs.cycles.Reachability.next_row.Given as goal

abbrev pub invariant-loop-target : goal.invariant-loop-target
invariant-loop-target l = l.row ≡ map (reaches (l.self.between + 1) l.parts l.fn.state) (upwards 0 l.target)
