-- The terminals that a production takes spell the tree that it builds, by kinds of symbols. A production is a row of
-- the parse table.
pub mod NamesAndValues
pub mod Expressions
pub mod Actions
pub mod Annexes
pub mod Declarations
