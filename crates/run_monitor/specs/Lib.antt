pub mod TemporalOperators
pub mod FormulaSemantics
pub mod FalseProperties
pub mod WatchText
pub mod proof
