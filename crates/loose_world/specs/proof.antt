-- What the theorem of the program does not rest on: definitions of contracts below it, of laws, and of proofs.
pub mod FinishedRows
pub mod StepAndSendCounts
pub mod BusAfterEvents
pub mod EventSenders
pub mod JournalReplays
pub mod FinishedWorldReports
pub mod WorldLaws
pub mod EventsAsSteps
pub mod UniqueEnds
pub mod SentCopies
