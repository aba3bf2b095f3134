use Rattle.std.proofs.Common.{◌≡◌, [], replicate}
use Rattle.pals_clock.specs.ClockStates.{unpicked}
use Rattle.scenario_json.proofs.clocks.empty_clocks.Given as goal

abbrev pub invariant-loop-done : goal.invariant-loop-done
invariant-loop-done l = l.clocks ≡ replicate l._done (unpicked [])
