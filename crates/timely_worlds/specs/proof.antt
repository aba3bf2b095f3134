-- Definitions that the program's theorem does not depend on: laws use them.
pub mod EventTimes
pub mod ListsOnTime
pub mod ServedSteps
