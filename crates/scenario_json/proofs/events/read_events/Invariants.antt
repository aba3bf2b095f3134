use Rattle.std.proofs.Common.{◌≡◌, [], length, map, drop}
use Rattle.scenario_json.specs.Events.{with_event}
use Rattle.serde_json.specs.View.{view}
use Rattle.scenario_values.specs.ResultCombinators.{through}
use Rattle.scenario_json.proofs.events.read_events.Given as goal

-- the result so far, and the result of the definition
abbrev pub invariant-loop-at : goal.invariant-loop-at
invariant-loop-at l =
    let step = with_event l.names l.command in
    (length l.events ≡ l.at)
    × (through step l.events (map view (drop l.at l.items)) ≡ through step [] (map view l.items))
