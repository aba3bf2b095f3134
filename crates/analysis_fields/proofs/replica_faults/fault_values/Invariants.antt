use Rattle.std.proofs.Common.{◌≡◌, [], map, drop}
use Rattle.scenario_values.specs.FaultPlaces.{place_text}
use Rattle.analysis_fields.specs.ReplicasAndTheirFaults.{with_fault_value}
use Rattle.serde_json.specs.View.{view}
use Rattle.scenario_values.specs.ResultCombinators.{through}
use Rattle.analysis_fields.proofs.replica_faults.fault_values.Given as goal

-- the result so far, and the result of the definition
abbrev pub invariant-loop-value : goal.invariant-loop-value
invariant-loop-value l =
    let step = with_fault_value l.kind (place_text l.place) in
    (through step l.tuple (map view (drop l.value-index l.values)) ≡ through step [] (map view l.values))
