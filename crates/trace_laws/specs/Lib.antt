pub mod WrongLines
pub mod WorldTraces
pub mod proof
