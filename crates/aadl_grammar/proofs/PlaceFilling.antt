-- A tree that terminals spell can be given the places of these terminals, by kinds of trees.
pub mod FilledTrees
pub mod Names
pub mod Values
pub mod Expressions
pub mod Actions
pub mod Annexes
pub mod Declarations
pub mod TerminalPlaces
