-- What the theorem of the program does not rest on: definitions of contracts below it, of laws, and of proofs.
pub mod NodeAndJobValues
pub mod Answers
pub mod NodeInvariants
pub mod RoundStarts
pub mod Codes
pub mod InstructionKeys
pub mod JobMemories
