use Rattle.std.proofs.Common.{◌≡◌, [], map, drop}
use Rattle.analysis_fields.specs.ReplicasAndTheirFaults.{key_of, with_fault}
use Rattle.serde_json.specs.View.{view}
use Rattle.scenario_values.specs.ResultCombinators.{through}
use Rattle.analysis_fields.proofs.replica_faults.read_faults.Given as goal

-- the result so far, and the result of the definition; and the keys of the result
abbrev pub invariant-loop-item : goal.invariant-loop-item
invariant-loop-item l =
    let step = with_fault l.names l.replicas in
    (through step l.faults (map view (drop l.item-index l.items)) ≡ through step [] (map view l.items))
    × (l.places.keys ≡ map key_of l.faults)
