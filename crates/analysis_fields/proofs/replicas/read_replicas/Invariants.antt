use Rattle.std.proofs.Common.{◌≡◌, [], map, drop}
use Rattle.analysis_fields.specs.ReplicasAndTheirFaults.{with_replica}
use Rattle.serde_json.specs.View.{view}
use Rattle.scenario_values.specs.ResultCombinators.{through}
use Rattle.analysis_fields.proofs.replicas.read_replicas.Given as goal

-- the result so far, and the result of the definition
abbrev pub invariant-loop-item : goal.invariant-loop-item
invariant-loop-item l =
    let step = with_replica l.names in
    (through step l.replicas (map view (drop l.item-index l.items)) ≡ through step [] (map view l.items))
