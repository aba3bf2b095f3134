use Rattle.std.proofs.Common.{◌≡◌, [], map, drop}
use Rattle.scenario_values.specs.FaultPlaces.{place_text}
use Rattle.scenario_json.specs.Events.{with_number}
use Rattle.serde_json.specs.View.{view}
use Rattle.scenario_values.specs.ResultCombinators.{through}
use Rattle.scenario_json.proofs.events.reading_parts.Given as goal

-- the result so far, and the result of the definition
abbrev pub invariant-loop-value : goal.invariant-loop-value
invariant-loop-value l =
    let step = with_number (place_text l.place) in
    (through step l.readings (map view (drop l.value-index l.values)) ≡ through step [] (map view l.values))
