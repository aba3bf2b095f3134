pub mod ReaderAnswers
