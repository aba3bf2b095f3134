use Rattle.std.proofs.Common.{◌≡◌, [], replicate}
use Rattle.scenario_json.proofs.inputs_and_delays.no_inputs.Given as goal

abbrev pub invariant-loop-done : goal.invariant-loop-done
invariant-loop-done l = l.lists ≡ replicate l._done []
