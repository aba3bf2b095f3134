-- What the theorem of the program does not rest on: definitions of contracts below it, of laws, and of proofs.
pub mod VotedStates
pub mod VoteLaws
pub mod CounterVotes
pub mod ReplicaLayers
pub mod ThreeLayers
pub mod FaultTables
pub mod ProductInvariant
