pub mod Answers
pub mod ReaderAnswers
pub mod FixedAnswerTexts
pub mod BundleAnswers
pub mod proof
