mod ElementsByIndex
mod InPortKinds
mod OutPortKinds
pub mod VotedKinds
pub mod FusedKinds
pub mod BusKinds
