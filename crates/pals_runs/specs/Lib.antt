pub mod Formula
pub mod JournalLines
pub mod proof
