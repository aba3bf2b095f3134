-- What the theorem of the program does not depend on: definitions of laws.
pub mod WorldProgress
