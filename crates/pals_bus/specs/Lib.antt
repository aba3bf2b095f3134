pub mod BusValues
pub mod LooseEvents
pub mod proof
