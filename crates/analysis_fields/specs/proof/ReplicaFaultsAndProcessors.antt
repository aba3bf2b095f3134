-- The invariants of each parsed fault of a replica and each parsed processor, for a design.
use Rattle.std.specs.Prelude.{◌≡◌, ◌<◌, ◌≤◌, true, List, length, slice_get, All, AllPairs}
use Rattle.pals_base.specs.declared.basic_types.NodeNo.{NodeNo}
use Rattle.pals_base.specs.declared.limits.TheConstants.{HOUR, ROUNDS}
use Rattle.pals_model.specs.declared.design.DesignParts.{DesignParts}
use Rattle.pals_model.specs.PortKindsAndRates.{rate_of}
use Rattle.analysis_fields.specs.declared.replica_faults.RoundFault.{RoundFault}
use Rattle.analysis_fields.specs.declared.limits.TheConstants.{REPLICAS}
use Rattle.analysis_fields.specs.declared.processors.Processor.{Processor}
use Rattle.analysis_fields.specs.ReplicasAndTheirFaults.{source_in, is_among, copies_at}

-- a replica of a component sends one value for each of its steps, on a link whose source is the component, to a
-- replica of the target
pub record IsFaultOf (design : DesignParts) (replicas : List NodeNo) (f : RoundFault) : Type 0 where
  pub source : source_in (slice_get design.links f.fault.link.0) ≡ f.fault.source.0
  pub replicated : is_among replicas f.fault.source.0 ≡ true
  pub replica : (1 ≤ f.fault.replica) × (f.fault.replica ≤ REPLICAS)
  pub target : (1 ≤ f.fault.target_replica) × (f.fault.target_replica ≤ copies_at design replicas f.fault.link.0)
  pub in_round : f.round ≤ ROUNDS
  pub count : length f.fault.values ≡ rate_of design f.fault.source.0

-- some components of the design, in ascending order, and a time for an instruction
pub record IsProcessorOf (design : DesignParts) (p : Processor) : Type 0 where
  pub time : (1 ≤ p.nanos) × (p.nanos ≤ HOUR)
  pub some : 0 < length p.components
  pub rising : AllPairs (λ (a b : NodeNo). a.0 < b.0) p.components
  pub within : All (λ (n : NodeNo). n.0 < length design.components) p.components
