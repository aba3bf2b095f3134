use Rattle.std.proofs.Common.{◌≡◌, [], length, map, drop, codes}
use Rattle.serde_json.specs.View.{view}
use Rattle.scenario_values.specs.ResultCombinators.{through}
use Rattle.scenario_values.specs.FaultPlaces.{inside}
use Rattle.scenario_json.specs.InputsAndDelays.{with_value}
use Rattle.scenario_json.proofs.inputs_and_delays.value_list.Given as goal

-- the values so far, and the result of the definition
abbrev pub invariant-loop-at : goal.invariant-loop-at
invariant-loop-at l =
    let step = with_value l.kind (inside (codes "inputs") l.name) in
    (length l.values ≡ l.at)
    × (through step l.values (map view (drop l.at l.items)) ≡ through step [] (map view l.items))
