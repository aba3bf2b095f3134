use Rattle.std.proofs.Common.{◌≡◌, [], length, map, drop, codes}
use Rattle.std.specs.List.Sorted.{IsNonDecreasing}
use Rattle.serde_json.specs.View.{view}
use Rattle.pals_clock.specs.ClockStates.{AreReadings}
use Rattle.scenario_values.specs.ResultCombinators.{through}
use Rattle.scenario_values.specs.FaultPlaces.{inside}
use Rattle.scenario_json.specs.Clocks.{with_reading, last_of}
use Rattle.scenario_json.proofs.clocks.reading_list.Given as goal

-- the readings so far, which never decrease and are in range, and the result of the definition
abbrev pub invariant-loop-at : goal.invariant-loop-at
invariant-loop-at l =
    let step = with_reading (inside (codes "clocks") l.name) in
    (length l.readings ≡ l.at) × (l.last ≡ last_of l.readings) × IsNonDecreasing l.readings × AreReadings l.readings
    × (through step l.readings (map view (drop l.at l.items)) ≡ through step [] (map view l.items))
