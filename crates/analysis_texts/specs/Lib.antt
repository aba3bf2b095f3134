pub mod BudgetedProcessors
pub mod ReplicasAndRoundFaults
pub mod MonitoredFormulas
pub mod proof
