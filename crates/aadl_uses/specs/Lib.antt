pub mod ContainmentAndUse
pub mod ThreadsBelow
pub mod ThreadLocations
pub mod SecondConnections
pub mod PortsOfConnections
pub mod proof
pub mod Recursion
