-- The lists of terminals that the stack machine accepts: derivations, their trees, and why each has only one.
pub mod ForbiddenFollowers
pub mod ForbiddenFollowerMembership
pub mod DerivationsAndMachineSteps
pub mod ReferencesByFirstWord
pub mod TreeBuilders
pub mod TerminalContents
pub mod DerivedTrees
pub mod UniqueTrees
pub mod ProductiveStacks
