mod LinesBefore
mod WrongJournalLines
mod WrongEnds
mod PrefixVerdicts
mod OwedStops
mod WrongRows
pub mod WrongLines
pub mod EmptiedNodes
pub mod JournalReadings
pub mod PutOffSteps
pub mod PutOffPasses
pub mod CopyRounds
pub mod DueReadings
pub mod PutOffSends
pub mod PutOffReceipts
pub mod LinksInto
pub mod ReadArrivals
pub mod PutOffStarts
pub mod WorldHistories
pub mod WorldTraces
pub mod WorldDelays
