-- A tree is determined by its shape, which is the tree without places, and by its places. For the law that tokens
-- spell one tree with places.
pub mod PlaceCounts
pub mod PlacesFromTokens
pub mod Names
pub mod Values
pub mod Expressions
pub mod Actions
pub mod Annexes
pub mod DeclarationMembers
pub mod Declarations
pub mod OneTreeWithPlaces
pub mod MovedTrees
pub mod TreesFromKeptTerminals
