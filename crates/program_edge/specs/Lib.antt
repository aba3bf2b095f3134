pub mod Arguments
pub mod ExposedBytes
pub mod proof
