-- What the theorem of the program does not rest on: definitions of contracts below it, of laws, and of proofs.
pub mod EntryClocks
pub mod FirstBrokenRule
pub mod ReplayedEvents
pub mod OwedStops
pub mod AuditInvariant
pub mod RemainingRowLines
pub mod ReportRows
pub mod ReportEnds
pub mod RemainingWords
pub mod LineForms
