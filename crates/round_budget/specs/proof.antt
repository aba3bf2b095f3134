-- What the theorem of the program does not rest on: definitions of contracts below it, of laws, and of proofs.
pub mod LinesFromOwnAlarm
pub mod BudgetLaws
pub mod TurnController
pub mod TurnControllerBudget
pub mod ReleaseAndLineValues
pub mod TimetableResults
pub mod ServableReleases
