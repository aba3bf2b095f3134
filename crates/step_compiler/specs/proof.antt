-- What the theorem of the program does not rest on: definitions of contracts below it, of laws, and of proofs.
pub mod BlockOrder
pub mod BlockLengthsAndStarts
pub mod AppendedCode
pub mod CompileFaultCauses
pub mod LayoutLaws
pub mod CompiledCode
