pub mod CheckReports
pub mod EventFaultLines
pub mod ClockEndsAndVerdicts
pub mod ScenarioFaultLines
pub mod SentMessageLines
pub mod proof
