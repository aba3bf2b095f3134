pub mod ReplicaFaultValidity
pub mod DistinctReplicaFaults
pub mod FormulaLevels
pub mod ProcessorValidity
