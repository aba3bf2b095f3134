-- What the theorem of the program does not rest on: definitions of contracts below it, of laws, and of proofs.
pub mod SharedCourses
pub mod OwnJobs
pub mod NodeEndsAndOutcomes
pub mod Sleepers
pub mod Codes
