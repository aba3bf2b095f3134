-- The states that the stack machine reaches on a list of terminals, and the consequences for the two languages,
-- packages and behaviours.
pub mod ProductionNesting
pub mod StackNesting
pub mod StackAfterTerminals
pub mod FateRuns
pub mod FateMeanings
pub mod GrammarLanguages
pub mod ExclusiveFates
pub mod Answers
pub mod FirstTerminalFates
