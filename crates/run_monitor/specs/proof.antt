-- What the theorem of the program does not rest on: definitions of contracts below it, of laws, and of proofs.
pub mod IncrementalSemantics
pub mod FormulaLaws
pub mod FirstFalseProperty
pub mod CounterProperties
pub mod FlatForms
pub mod FormBits
pub mod MonitorStates
pub mod SeveralMonitors
pub mod FrameRowGrowth
