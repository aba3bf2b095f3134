-- Definitions that the program's theorem does not depend on: the contracts of its parts, laws, and proofs use them.
pub mod ContainmentGraphs
pub mod RecursionSuspects
pub mod ContainmentOrders
pub mod MarkedPathCounts
pub mod MarkedPathLists
pub mod HeaviestPaths
pub mod PackageContainment
pub mod ThreadCounts
pub mod FirstRecursion
pub mod ImplementationTypes
pub mod NumbersByPort
pub mod FirstConnections
pub mod IncomingConnections
pub mod OrderedLists
