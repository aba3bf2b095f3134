-- What the theorem of the program does not rest on: definitions of contracts below it, of laws, and of proofs.
pub mod CountedReadersAndWriters
