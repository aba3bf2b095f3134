use Rattle.std.proofs.Common.{◌≡◌, map, take}
use Rattle.pals_base.specs.UpwardNumbers.{upwards}
use Rattle.analysis_fields.specs.ReplicasAndTheirFaults.{is_among}
use Rattle.analysis_texts.proofs.replica_names.replicated.Given as goal

-- the replicas so far are marked
abbrev pub invariant-loop-replica : goal.invariant-loop-replica
invariant-loop-replica l = l.marks.items ≡ map (is_among (take l.replica-index l.replicas)) (upwards 0 l.count)
