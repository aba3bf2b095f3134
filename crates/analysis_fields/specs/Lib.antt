pub mod Plants
pub mod Processors
pub mod Properties
pub mod NamedFormulas
pub mod ReplicasAndTheirFaults
pub mod proof
