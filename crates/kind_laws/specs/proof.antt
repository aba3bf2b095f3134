-- What the theorem of the program does not rest on: definitions of laws.
pub mod VotedKinds
pub mod FusedKinds
pub mod BusKinds
