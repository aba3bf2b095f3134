pub mod TimedNodes
pub mod StartsAndSteps
pub mod FinishesAndSends
pub mod ArrivalsAndPasses
pub mod ListsOnTime
pub mod ServedSteps
