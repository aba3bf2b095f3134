-- Definitions that the program's theorem does not depend on: the contracts of its parts, laws, and proofs use them.
pub mod GrammarSymbols
pub mod ParseTable
pub mod StackMachine
pub mod MovedPackages
pub mod ExampleTerminals
pub mod TerminalViews
pub mod ParserAnswers
pub mod ListAnswers
pub mod ReachableKeywords
pub mod TokensTreesAndFaults
pub mod CanonicalRoundTrip
pub mod SymbolTrees
pub mod PlaceOrder
