-- Replicas of a scenario and their faults, as votes see them.
use Rattle.std.specs.Prelude.{ℕ, nat_eq, Bool, List, length, map, filter}
use Rattle.pals_base.specs.declared.basic_types.NodeNo.{NodeNo}
use Rattle.pals_base.specs.UpwardNumbers.{upwards}
use Rattle.pals_model.specs.declared.design.DesignParts.{DesignParts}
use Rattle.pals_runs.specs.declared.replica_faults.VoteFault.{VoteFault}
use Rattle.analysis_fields.specs.declared.replica_faults.RoundFault.{RoundFault}
use Rattle.analysis_fields.specs.ReplicasAndTheirFaults.{is_among}

-- for each component of a design whether it has replicas
abbrev pub replicated_in : DesignParts → List NodeNo → List Bool
replicated_in design replicas = map (is_among replicas) (upwards 0 (length design.components))

-- the faults of a round, in order
abbrev pub faults_of : List RoundFault → ℕ → List VoteFault
faults_of faults round = map (λ (f : RoundFault). f.fault) (filter (λ (f : RoundFault). nat_eq f.round round) faults)
