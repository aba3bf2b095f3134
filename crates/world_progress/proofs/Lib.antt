pub mod DueEvents
pub mod FaultlessPasses
pub mod FinishedLists
pub mod WorkLessens
pub mod WorldProgress
