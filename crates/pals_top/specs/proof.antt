-- What the theorem of the program does not rest on: definitions of contracts below it, of laws, and of proofs.
pub mod FlaggedAndRunCommands
pub mod BundlesWithCodes
pub mod RefusalStatusAndText
pub mod StatusAndText
pub mod LooseWorldEnds
