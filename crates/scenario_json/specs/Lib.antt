pub mod Scenarios
pub mod RunCellCount
pub mod Clocks
pub mod Events
pub mod InputsAndDelays
pub mod Traces
pub mod proof
