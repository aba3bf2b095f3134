pub mod BundleSplits
pub mod UniqueScenarios
pub mod UniqueDesignsAndRefusals
pub mod UniqueBundleScenarios
pub mod UniqueLooseWorldAnswers
pub mod TimedWorldAnswers
pub mod UniqueScenarioAnswers
pub mod UniqueExecutionAnswers
pub mod UniqueAnswers
pub mod UniqueCallAnswers
pub mod StatusCases
pub mod PrintCheckAndAnalysisStatuses
pub mod ExecutionStatuses
pub mod SourceAnswers
pub mod ReadStatuses
pub mod RunAnswers
mod InputValueKinds
mod ReplicaFaultValueKinds
mod ScenarioValueKinds
mod BooleansInRuns
mod ExistingTrees
mod ExistingDesigns
mod ExistingCheckReports
mod LooseWorldEnds
mod ExistingLooseWorldAnswers
mod OverlongCodes
mod ExistingStepCodes
mod ExistingRunAnswers
mod ExistingScenarioAnswers
mod ExistingAnswers
pub mod ScenarioAnswerStatuses
pub mod UniqueCheckReports
pub mod BundleContents
pub mod UniqueRunEnds
