-- What the theorem of the program does not rest on: definitions of contracts below it, of laws, and of proofs.
pub mod NodeStandings
pub mod WorldValuesAndMoves
pub mod Codes
pub mod MessagesPastDeadline
pub mod EventLists
