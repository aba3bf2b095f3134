-- Definitions that the program's theorem does not depend on: the contracts of its parts, laws, and proofs use them.
pub mod ThreadLimits
pub mod PathLengths
pub mod Limits
pub mod CheckedPackages
pub mod ChainsSoFar
pub mod PortNumberTables
pub mod ChainSearchStates
