pub mod SentLines
pub mod LooseRuns
pub mod LooseEventsAsSteps
pub mod proof
