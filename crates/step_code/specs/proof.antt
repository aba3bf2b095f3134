-- What the theorem of the program does not rest on: definitions of contracts below it, of laws, and of proofs.
pub mod InnermostLoops
pub mod CodeRuns
pub mod StackHeights
pub mod CodePaths
pub mod VerifierRules
pub mod VerifierIntermediateResults
pub mod CodeMatchesBehaviour
pub mod Examples
pub mod LoopNesting
pub mod CleanJumpsAndLoops
pub mod StuckFreedomConditions
pub mod SlotsAndPorts
