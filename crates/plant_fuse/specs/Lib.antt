pub mod FusedComposition
pub mod FusedReport
pub mod proof
