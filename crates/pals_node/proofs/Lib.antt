pub mod TuplesSlotsAndZips
pub mod ProgramResults
pub mod StepEnds
pub mod Plans
pub mod RoundStarts
pub mod InstructionKeys
pub mod JobMemories
