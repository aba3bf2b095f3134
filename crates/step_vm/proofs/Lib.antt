pub mod StackCells
pub mod HeldInputsAndVariables
pub mod MachineInvariant
pub mod StepsFromEntries
pub mod FittingFrames
