use Rattle.std.proofs.Common.{◌≡◌, [], length, map, drop, codes}
use Rattle.serde_json.specs.View.{view}
use Rattle.scenario_values.specs.ResultCombinators.{through}
use Rattle.scenario_values.specs.FaultPlaces.{inside}
use Rattle.scenario_json.specs.InputsAndDelays.{with_delay}
use Rattle.scenario_json.proofs.inputs_and_delays.delay_list.Given as goal

-- the delays so far, and the result of the definition
abbrev pub invariant-loop-at : goal.invariant-loop-at
invariant-loop-at l =
    let step = with_delay (inside (codes "delays") l.name) in
    (length l.delays ≡ l.at)
    × (through step l.delays (map view (drop l.at l.items)) ≡ through step [] (map view l.items))
