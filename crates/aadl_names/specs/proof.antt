-- What the theorem of the program does not rest on: definitions of contracts below it, of laws, and of proofs.
pub mod FirstFaultSoFar
pub mod EarliestDeclarations
pub mod NameTables
pub mod MemberNumbers
pub mod DuplicatesBesidePorts
pub mod PlaceOrder
pub mod PiecewiseComparison
