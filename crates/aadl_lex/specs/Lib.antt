pub mod Rules
pub mod TokensAndFirstFaults
pub mod proof
