pub mod SourcesAndSinks
pub mod proof
