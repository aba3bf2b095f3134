pub mod Loops
pub mod SuccessorsAndWeights
pub mod InstructionEffects
pub mod InstructionsPerStep
pub mod CappedWeights
pub mod CodeLengths
pub mod proof
