mod AnalysisAnswers
mod ProgramEndings
mod ExecutionAnswers
mod CommandWords
pub mod LooseWorlds
mod RefusalAnswers
mod ScenarioFaultAnswers
pub mod Audits
pub mod TimelyProcessors
pub mod ScenarioRuns
