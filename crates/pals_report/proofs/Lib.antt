pub mod TextPrefixes
pub mod LinePerItem
mod ConcatenatedTexts
pub mod TapPlacesAndCounts
pub mod RowLines
pub mod CommaListsAndVariables
pub mod SpacedWords
