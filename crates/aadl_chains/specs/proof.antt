-- Definitions that the program's theorem does not depend on: the contracts of its parts, laws, and proofs use them.
pub mod PortSets
pub mod PortsJoinedInside
pub mod PortsJoinedOutside
pub mod PermittedConnections
pub mod ConnectionsOnChains
pub mod FoundChainFaults
pub mod FaultlessConnections
pub mod UpwardWalks
pub mod LimitedCounts
pub mod TracedChains
pub mod WalkResults
pub mod EnteredThreadPorts
pub mod EnteredPortCountTables
pub mod DownwardSteps
