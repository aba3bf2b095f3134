pub mod Chains
pub mod LinksFeedsAndTaps
pub mod proof
pub mod ChainFaults
