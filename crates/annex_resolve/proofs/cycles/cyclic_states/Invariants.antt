use Rattle.std.proofs.Common.{◌≡◌, map}
use Rattle.pals_base.specs.UpwardNumbers.{upwards}
use Rattle.annex_resolve.specs.IncompleteStateCycles.{is_on_cycle}
use Rattle.annex_resolve.specs.proof.ReachabilityTables.{IsTable}
use Rattle.annex_resolve.proofs.cycles.cyclic_states.Given as goal

abbrev pub invariant-loop-round : goal.invariant-loop-round
invariant-loop-round l = IsTable l.parts l.table × (l.table.between ≡ l._round)

abbrev pub invariant-loop-state : goal.invariant-loop-state
invariant-loop-state l = l.marks ≡ map (is_on_cycle l.parts) (upwards 0 l.state)
