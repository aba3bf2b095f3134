pub mod NameMeanings
pub mod ExpressionTypesAndFindings
pub mod ResolvedTrees
pub mod ActionFindings
pub mod IncompleteStateCycles
pub mod BehavioursAndFindings
pub mod proof
pub mod FindingRecords
