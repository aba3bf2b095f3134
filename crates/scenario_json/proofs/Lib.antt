pub mod ScenarioValidity
pub mod NonDecreasingReadings
pub mod InputsDelaysAndClocks
