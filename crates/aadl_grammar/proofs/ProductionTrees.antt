-- The tree that each production, which is a row of the parse table, builds, by kinds of symbols.
pub mod NamesAndValues
pub mod Expressions
pub mod Actions
pub mod Annexes
pub mod Declarations
pub mod AllSymbols
