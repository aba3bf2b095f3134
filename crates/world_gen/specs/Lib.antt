pub mod Rings
pub mod proof
