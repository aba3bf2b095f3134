pub mod ExpressionAndActionInstructions
pub mod LoopDepths
pub mod BlockInstructions
pub mod LaidOutCode
pub mod proof
