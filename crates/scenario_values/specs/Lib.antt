pub mod ResultCombinators
pub mod FaultPlaces
pub mod FieldValues
pub mod NameLookup
pub mod proof
