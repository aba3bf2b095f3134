-- Definitions that the program's theorem does not depend on: the contracts of its parts, laws, and proofs use them.
pub mod MemoryStreams
pub mod ReadEndMessages
