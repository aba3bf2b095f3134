pub mod EventsWithinBounds
pub mod WorldTexts
pub mod RingSumsAndCodes
pub mod DoneRings
