use Rattle.std.proofs.Common.{◌≡◌, [], length, map, drop}
use Rattle.serde_json.specs.View.{view}
use Rattle.scenario_values.specs.ResultCombinators.{through}
use Rattle.scenario_json.specs.Traces.{with_line}
use Rattle.scenario_json.proofs.traces.read_trace.Given as goal

-- the lines so far, and the result of the definition
abbrev pub invariant-loop-at : goal.invariant-loop-at
invariant-loop-at l =
    (length l.lines ≡ l.at) × (through with_line l.lines (map view (drop l.at l.items))
    ≡ through with_line [] (map view l.items))
