-- Some production of its symbol, which is a row of the parse table, builds each tree that terminals spell, by kinds
-- of symbols.
pub mod NamesAndValues
pub mod Expressions
pub mod Actions
pub mod Annexes
pub mod Declarations
pub mod AllSymbols
