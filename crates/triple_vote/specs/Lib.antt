pub mod Votes
pub mod VotedComposition
pub mod VotedText
pub mod OutvotedFaults
pub mod proof
