pub mod ParseResults
pub mod proof
