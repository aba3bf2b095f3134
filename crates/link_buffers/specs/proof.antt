-- What the theorem of the program does not rest on: definitions of contracts below it, of laws, and of proofs.
pub mod Flights
pub mod BinarySearch
pub mod DueQueues
pub mod CopiesByRound
pub mod FirstAndLeastItems
