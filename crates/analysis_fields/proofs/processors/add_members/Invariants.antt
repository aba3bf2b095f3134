use Rattle.std.proofs.Common.{◌≡◌, map, drop}
use Rattle.serde_json.specs.View.{view}
use Rattle.scenario_values.specs.ResultCombinators.{through}
use Rattle.scenario_values.specs.FaultPlaces.{place_text}
use Rattle.analysis_fields.specs.Processors.{with_member}
use Rattle.analysis_fields.proofs.processors.add_members.Given as goal

-- the result so far, and the result of the definition
abbrev pub invariant-loop-value : goal.invariant-loop-value
invariant-loop-value l =
    let step = with_member l.names (place_text l.place) l.number in
    through step l.owners (map view (drop l.value-index l.values)) ≡ through step l.initial.owners (map view l.values)
