-- The spelling of a tree does not depend on its places, by kinds of trees.
pub mod AlikeParts
pub mod NamesAndValues
pub mod Expressions
pub mod Actions
pub mod Annexes
pub mod Declarations
