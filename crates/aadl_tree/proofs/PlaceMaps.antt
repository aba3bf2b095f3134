-- Mapping the places of plain trees gives the plain trees with mapped places, by kinds of trees. For the law that
-- places can be dropped.
pub mod Names
pub mod Values
pub mod Expressions
pub mod Actions
pub mod Annexes
pub mod Declarations
