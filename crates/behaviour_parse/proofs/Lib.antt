pub mod OperatorsAndOperands
pub mod ParsedActions
pub mod TransitionStarts
pub mod ParseResults
