pub mod FinishedRounds
pub mod RunTexts
pub mod FirstEndedNode
pub mod BusOutcomes
