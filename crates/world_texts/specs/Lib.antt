pub mod WorldTexts
pub mod RingResultLines
pub mod proof
